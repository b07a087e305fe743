-- `reading::line_start` meets its contract. Assumes nothing.
use mathlib.Core.Path.{◌≡◌, refl, sym, ◌∙◌}
use mathlib.Core.Bool.{Bool}
use mathlib.Core.List.{List}
use Prim.Native.Nat.{ℕ}
use lib.Dec.{eqb}
use lib.ListN.{length, take}
use lib.Pointwise.{pointwise}
use Rattle.lines.specs.Reading.{starts_with, month_start, plant_start, period_start, meter_start, line_start}
use Rattle.lines.proofs.Starts.{case_yes, case_no, begins}
use Rattle.lines.proofs.reading.line_start.Goals as goal

is : (bytes line : List ℕ) {x y : Bool} → x ≡ pointwise eqb bytes (take (length bytes) line) → x ≡ y → starts_with bytes line ≡ y
is bytes line e t = sym (begins bytes line) ∙ sym e ∙ t

pub returns-then-starts_with : goal.returns-then-starts_with
unfolding line_start
returns-then-starts_with c = case_yes _ _ _ _ (is month_start _ c.starts_with.ensures.value c.if-starts_with.true) refl

pub returns-then-starts_with-2 : goal.returns-then-starts_with-2
unfolding line_start
returns-then-starts_with-2 c =
    case_no _ _ _ _ (is month_start _ c.starts_with.ensures.value c.if-starts_with.false)
    (case_yes _ _ _ _ (is plant_start _ c.starts_with-2.ensures.value c.if-starts_with-2.true) refl)

pub returns-then-starts_with-3 : goal.returns-then-starts_with-3
unfolding line_start
returns-then-starts_with-3 c =
    case_no _ _ _ _ (is month_start _ c.starts_with.ensures.value c.if-starts_with.false)
    (case_no _ _ _ _ (is plant_start _ c.starts_with-2.ensures.value c.if-starts_with-2.false)
    (case_yes _ _ _ _ (is period_start _ c.starts_with-3.ensures.value c.if-starts_with-3.true) refl))

pub returns-then-starts_with-4 : goal.returns-then-starts_with-4
unfolding line_start
returns-then-starts_with-4 c =
    case_no _ _ _ _ (is month_start _ c.starts_with.ensures.value c.if-starts_with.false)
    (case_no _ _ _ _ (is plant_start _ c.starts_with-2.ensures.value c.if-starts_with-2.false)
    (case_no _ _ _ _ (is period_start _ c.starts_with-3.ensures.value c.if-starts_with-3.false)
    (case_yes _ _ _ _ (is meter_start _ c.starts_with-4.ensures.value c.if-starts_with-4.true) refl)))

pub returns : goal.returns
unfolding line_start
returns c =
    case_no _ _ _ _ (is month_start _ c.starts_with.ensures.value c.if-starts_with.false)
    (case_no _ _ _ _ (is plant_start _ c.starts_with-2.ensures.value c.if-starts_with-2.false)
    (case_no _ _ _ _ (is period_start _ c.starts_with-3.ensures.value c.if-starts_with-3.false)
    (case_no _ _ _ _ (is meter_start _ c.starts_with-4.ensures.value c.if-starts_with-4.false) refl)))

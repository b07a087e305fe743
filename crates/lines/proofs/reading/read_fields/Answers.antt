-- `reading::read_fields` meets its contract: a turn reads a field. Assumes nothing.
use mathlib.Core.Path.{◌≡◌, refl, sym, ◌∙◌}
use mathlib.Core.List.{[]}
use Prim.Native.Nat.{ℕ, ◌<◌}
use native.Mathlib.Omega.{arith}
use lib.ListN.{length, get_or}
use Rattle.std.specs.Prelude.{Option, Some, None, Result, Ok, Err}
use Rattle.std.specs.Option.{ok_or}
use Rattle.std.proofs.lemmas.Result.{err_from_is_err_and}
use Rattle.refusals.specs.declared.Refusal.{Refusal}
use Rattle.refusals.specs.declared.Refusal.TheVariants.{NotFigure}
use Rattle.lines.specs.Fields.{fields}
use Rattle.lines.specs.Inner.{Starts}
use Rattle.lines.proofs.Commas.{starts_first, starts_more, field_inside, field_there}
use Rattle.lines.proofs.Lines.{gathering, gathering_more, gathering_stopped, gathered_number, gathered}
use Rattle.lines.proofs.reading.read_fields.Goals as goal
use Rattle.lines.proofs.reading.read_fields.Goals.{In-loop-figure, After-field_at-field}

stopped : (o : Option ℕ) (r : Refusal) → ◌≡◌ {A = Result ℕ Refusal} (Err r) (ok_or o NotFigure) → (o ≡ None) × (r ≡ NotFigure)
stopped None r e = (refl, cc)
stopped (Some x) r e = absurd (cc)

went_on : (o : Option ℕ) (r : Refusal) {v : ℕ} → ◌≡◌ {A = Result ℕ Refusal} (Ok v) (ok_or o r) → o ≡ Some v
went_on None r e = absurd (cc)
went_on (Some x) r e = cc

left : (c : In-loop-figure) → c.loop-figure.figure-index < length (fields c.args.bytes.now)
left c = omega (arith, c.requires)

starts : (c : In-loop-figure) → Starts c.args.bytes.now c.loop-figure.figure-index c.loop-figure.at
starts c = c.loop-figure.invariant.next (left c)

-- the field of a turn
turn : (c : After-field_at-field) → c.field_at-field.result.now ≡ get_or (fields c.args.bytes.now) c.loop-figure.figure-index []
turn c = c.field_at-field.ensures.content ∙ sym (field_there (starts (goal.at.After-field_at-field c).In-loop-figure))

pub loop-figure-init : goal.loop-figure-init
loop-figure-init c = record { read = gathering c.requires; next = λ h. starts_first }

pub field_at-field-requires : goal.field_at-field-requires
field_at-field-requires c = (starts (goal.at.field_at-field-requires c).In-loop-figure).inside

pub returns-in_err-figure-clause-number : goal.returns-in_err-figure-clause-number
returns-in_err-figure-clause-number c =
    let k = goal.at.returns-in_err-figure-clause-number c in
    let p = err_from_is_err_and c.from_residual.result c.from_residual.ensures.1 in
    let q = stopped c.read_figure.result c.in_err-figure.field-0.0 (c.in_err-figure.ensures).value in
    rw (p.1, p.2, q.1) (gathering_stopped c.loop-figure.invariant.read (left k.In-loop-figure) (turn k.After-field_at-field) c.read_figure.ensures q.0)

pub overflow_add-at-in-loop-figure : goal.overflow_add-at-in-loop-figure
overflow_add-at-in-loop-figure c =
    record { fits = omega (arith, field_inside (starts (goal.at.overflow_add-at-in-loop-figure c).In-loop-figure) c.field_at-field.ensures.content, c.well_formed.0.1) }

pub loop-figure-preserved : goal.loop-figure-preserved
loop-figure-preserved c =
    let k = goal.at.loop-figure-preserved c in
    record {
      read = gathering_more c.loop-figure.invariant.read (left k.In-loop-figure) (turn k.After-field_at-field) c.read_figure.ensures (went_on c.read_figure.result NotFigure (c.in_ok-figure.ensures).value);
      next = starts_more (starts k.In-loop-figure) c.field_at-field.ensures.content;
    }

pub returns-clause-number : goal.returns-clause-number
returns-clause-number c = gathered_number c.loop-figure.invariant.read (omega (arith, c.requires))

pub returns-clause-figures : goal.returns-clause-figures
returns-clause-figures c = gathered c.loop-figure.invariant.read (omega (arith, c.requires))

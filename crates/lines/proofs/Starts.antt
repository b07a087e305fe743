-- Laws of line starts. Assumes nothing.
use mathlib.Core.Path.{◌≡◌, refl, sym, ◌∙◌}
use mathlib.Core.Bool.{Bool, true, false, false≢true, cond}
use mathlib.Core.List.{List, [], ◌∷◌}
use Prim.Native.Nat.{ℕ, ◌≤◌, ◌<◌}
use native.Mathlib.Omega.{arith}
use borrow.Author.Tests.{eq-eqb, ne_eqb, eqb-true, eqb-false}
use lib.Dec.{eqb}
use lib.ListN.{length, take}
use lib.Pointwise.{pointwise}
use Rattle.lists.proofs.Questions.{both, by_case, above}
use Rattle.lines.specs.Reading.{starts_with, month_start, plant_start, period_start, meter_start, line_start, start_length, count_fits, start_number}
use Rattle.lines.specs.declared.reading.Start.{Start}
use Rattle.lines.specs.declared.reading.Start.TheVariants.{Month, Plant, Period, Meter}

-- ---- a definition by cases

pub case_yes : {A : Type 0} (b : Bool) (x y r : A) → b ≡ true → r ≡ x → r ≡ cond b x y
case_yes b x y r e p = rw e p

pub case_no : {A : Type 0} (b : Bool) (x y r : A) → b ≡ false → r ≡ y → r ≡ cond b x y
case_no b x y r e p = rw e p

-- ---- std's word for a line that begins with bytes

turned : (b x : ℕ) → eqb b x ≡ eqb x b
turned b x = by (eqb x b) refl
  where
    by : (t : Bool) → eqb x b ≡ t → eqb b x ≡ eqb x b
    by true e = eq-eqb b x (sym (eqb-true x b e)) ∙ sym e
    by false e = ne_eqb b x (λ p. eqb-false x b e (sym p)) ∙ sym e

pub begins : (bytes line : List ℕ) → pointwise eqb bytes (take (length bytes) line) ≡ starts_with bytes line
unfolding starts_with
begins [] line = refl
begins (b ∷ bs) [] = refl
begins (b ∷ bs) (x ∷ line) = rw (turned b x, begins bs line)

-- ---- what a start tells

pub starts-long : (bytes line : List ℕ) → starts_with bytes line ≡ true → length bytes ≤ length line
unfolding starts_with
starts-long [] line e = omega arith
starts-long (b ∷ bs) [] e = absurd (false≢true e)
starts-long (b ∷ bs) (x ∷ line) e = omega (arith, starts-long bs line (both (eqb x b) (starts_with bs line) e).1)

pub start_some : (start : Start) → start_number start ≡ 0 → ⊥
start_some Month e = omega arith
start_some Plant e = omega arith
start_some Period e = omega arith
start_some Meter e = omega arith

-- a line with a start has its bytes
pub start-room : (line : List ℕ) → (line_start line ≡ 0 → ⊥) → start_length (line_start line) ≤ length line
unfolding line_start start_length
start-room line =
    let metered : ℕ = cond (starts_with meter_start line) 4 0 in
    let period : ℕ = cond (starts_with period_start line) 3 metered in
    let plant : ℕ = cond (starts_with plant_start line) 2 period in
    by_case P (starts_with month_start line) 1 plant (λ e n. starts-long month_start line e) (λ _.
    by_case P (starts_with plant_start line) 2 period (λ e n. starts-long plant_start line e) (λ _.
    by_case P (starts_with period_start line) 3 metered (λ e n. starts-long period_start line e) (λ _.
    by_case P (starts_with meter_start line) 4 0 (λ e n. starts-long meter_start line e) (λ _ n. absurd (n refl)))))
  where
    P : ℕ → Type 0
    P start = (start ≡ 0 → ⊥) → start_length start ≤ length line

-- no start has more than 513 fields
pub too_many : (start count : ℕ) → 513 < count → count_fits start count ≡ false
unfolding count_fits
too_many start count h =
    by_case P (eqb start 1) (eqb count 3) _ (λ _. ne_eqb count 3 (λ e. omega arith)) (λ _.
    by_case P (eqb start 2) (eqb count 5) _ (λ _. ne_eqb count 5 (λ e. omega arith)) (λ _.
    by_case P (eqb start 3) (eqb count 2) _ (λ _. ne_eqb count 2 (λ e. omega arith)) (λ _. above 2 513 count h)))
  where
    P : Bool → Type 0
    P b = b ≡ false

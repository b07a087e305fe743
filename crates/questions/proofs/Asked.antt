-- What follows where questions 2 to 11, and 19, are answered yes: from number 0 to a record of facts. Assumes nothing.
use mathlib.Core.Path.{◌≡◌, refl, sym, ◌∙◌, subst}
use mathlib.Core.Bool.{true}
use mathlib.Core.List.{List, [], ◌∷◌, map}
use Prim.Native.Nat.{ℕ, zero, suc, ◌*◌, ◌^◌, ◌≤◌, ◌<◌, zero-le}
use borrow.Author.Tests.{leb-true, ltb-true, eqb-true}
use lib.ListN.{length, get_or}
use Rattle.lists.specs.Lists.{sum, most, at_most, Within}
use Rattle.lists.proofs.Columns.{get_or-map_to}
use Rattle.lists.proofs.Questions.{asked, parted, both, limits, then_zero}
use Rattle.plants.specs.declared.Plant.{Plant}
use Rattle.plants.specs.Plants.{none}
use Rattle.ledger.specs.Ledger.{Ledger, in_bounds}
use Rattle.questions.specs.Questions.{sizes_number, placed, numbered, row_number, rows_number, lengths_number, ledger_number, tables_number}

-- 2 to 4
pub record Sizes (p h t : ℕ) : Type 0 where
  pub some_plants : 1 ≤ p
  pub plants : p ≤ 512
  pub some_periods : 1 ≤ h
  pub periods : h ≤ 744
  pub tariff : t ≤ 10000

pub sizes : (p h t k : ℕ) → k ≡ sizes_number p h t → k ≡ 0 → Sizes p h t
unfolding sizes_number
sizes p h t k e z =
    let q₂ = asked _ _ _ tt (sym e ∙ z) in
    let q₃ = asked _ _ _ tt q₂.1 in
    let q₄ = asked _ _ [] tt q₃.1 in
    let a = limits _ _ _ q₂.0 in
    let b = limits _ _ _ q₃.0 in
    record { some_plants = a.0; plants = a.1; some_periods = b.0; periods = b.1; tariff = leb-true _ _ q₄.0 }

-- 5 to 8 of a row: its figures in limits
pub record Limited (p : Plant) : Type 0 where
  pub submarket : p.submarket ≤ 4
  pub number : p.number ≤ 999999
  pub guarantee : p.guarantee ≤ 10 ^ 12
  pub loss : p.loss ≤ 1000000
  pub availability : p.availability ≤ 1000000

-- 5 to 8 of the first row, which comes after one of submarket s; then of the others
pub record FirstRow (s : ℕ) (p : Plant) (ps : List Plant) : Type 0 where
  pub some : 1 ≤ p.submarket
  pub placed : s ≤ p.submarket
  pub limited : Limited p
  pub others : rows_number p.submarket p.number ps ≡ 0

pub first-row : (s n : ℕ) (p : Plant) (ps : List Plant) → rows_number s n (p ∷ ps) ≡ 0 → FirstRow s p ps
unfolding rows_number row_number placed numbered
first-row s n p ps e =
    let f = then_zero _ _ e in
    let q₅ = asked _ _ _ tt f.0 in
    let q₆ = asked _ _ _ tt q₅.1 in
    let q₇ = asked _ _ _ tt q₆.1 in
    let q₈ = both _ _ (asked _ _ [] tt q₇.1).0 in
    let stands = both _ _ q₅.0 in
    let inside = limits _ _ _ stands.0 in
    record {
      some = inside.0;
      placed = leb-true _ _ stands.1;
      limited = record {
        submarket = inside.1;
        number = (limits _ _ _ (both _ _ q₆.0).0).1;
        guarantee = leb-true _ _ q₇.0;
        loss = leb-true _ _ q₈.0;
        availability = leb-true _ _ q₈.1;
      };
      others = f.1;
    }

-- ... of every row, and past the last
pub rows_limited : (s n : ℕ) (ps : List Plant) → rows_number s n ps ≡ 0 → (i : ℕ) → Limited (get_or ps i none)
rows_limited s n [] e i = record { submarket = zero-le; number = zero-le; guarantee = zero-le; loss = zero-le; availability = zero-le }
rows_limited s n (p ∷ ps) e zero = (first-row s n p ps e).limited
rows_limited s n (p ∷ ps) e (suc i) = rows_limited p.submarket p.number ps (first-row s n p ps e).others i

-- ... a figure of each row within the limit that it has in one row
pub field-within : (f : Plant → ℕ) (b : ℕ) → f none ≡ 0 → ((p : Plant) → Limited p → f p ≤ b) → (ps : List Plant) → rows_number 0 0 ps ≡ 0
    → Within (map f ps) b
field-within f b z g ps e =
    record { at = λ i. subst (λ (x : ℕ). x ≤ b) (sym (get_or-map_to f none z ps i)) (g (get_or ps i none) (rows_limited 0 0 ps e i)) }

-- ... of what the statement shows of a row
pub rows-shown : (ps : List Plant) → rows_number 0 0 ps ≡ 0
    → Within (map (λ (p : Plant). p.submarket) ps) 4 × Within (map (λ (p : Plant). p.number) ps) 999999
rows-shown ps e = (field-within _ 4 refl (λ p r. r.submarket) ps e, field-within _ 999999 refl (λ p r. r.number) ps e)

-- 11
pub record Lengths (p : ℕ) (l : Ledger) : Type 0 where
  pub allotted : length l.allotted ≡ 4 * p
  pub accounts : length l.accounts ≡ 2 * p

pub lengths : (p : ℕ) (l : Ledger) → lengths_number p l ≡ 0 → Lengths p l
unfolding lengths_number
lengths p l e = let q = both _ _ (asked _ _ [] tt e).0 in record { allotted = eqb-true _ _ q.0; accounts = eqb-true _ _ q.1 }

-- 11 and 19
pub ledger : (p : ℕ) (l : Ledger) → ledger_number p l ≡ 0 → Lengths p l × (in_bounds l ≡ true)
unfolding ledger_number
ledger p l e = let q = parted _ _ e in (lengths p l q.0, (asked _ _ [] tt q.1).0)

-- 5 to 11
pub record Tables (p : ℕ) (plants : List Plant) (profile : List ℕ) (l : Ledger) : Type 0 where
  pub rows : rows_number 0 0 plants ≡ 0
  pub figures : at_most most profile ≡ true
  pub some : 0 < sum profile
  pub lengths : Lengths p l

pub tables : (p : ℕ) (plants : List Plant) (profile : List ℕ) (l : Ledger) → tables_number p plants profile l ≡ 0 → Tables p plants profile l
unfolding tables_number
tables p plants profile l e =
    let q₅ = parted _ _ e in
    let q₉ = asked _ _ _ tt q₅.1 in
    let q₁₀ = asked _ _ _ tt q₉.1 in
    record { rows = q₅.0; figures = q₉.0; some = ltb-true _ _ q₁₀.0; lengths = lengths p l (parted _ [] q₁₀.1).0 }

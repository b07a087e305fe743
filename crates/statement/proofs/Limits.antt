-- What document 01's limits make of the statement's figures: sums that fit, and how long a statement can be. Assumes nothing.
use mathlib.Core.Path.{◌≡◌, sym, ap, subst, ◌∙◌}
use mathlib.Core.Bool.{true}
use mathlib.Core.List.{List, [], ◌∷◌, map}
use Prim.Native.Nat.{ℕ, suc, ◌+◌, ◌*◌, ◌^◌, ◌≤◌, ◌<◌}
use native.Mathlib.Nat.{suc-mul, add-zero}
use native.Mathlib.Omega.{arith}
use lib.IntN.{ℤ, pos, nat_abs}
use lib.ListN.{length, take, drop, get_or, length-take}
use lib.Seq.{get_or-drop}
use Rattle.lists.specs.Lists.{sum, Within}
use Rattle.lists.specs.Columns.{four}
use Rattle.lists.proofs.Columns.{four-le}
use Rattle.lists.proofs.Parts.{take-le}
use Rattle.figures.specs.Figures.{figure_length}
use Rattle.figures.proofs.Decimal.{length-le, length-small}
use Rattle.figures.proofs.Signs.{signed_length-le}
use Rattle.plants.specs.declared.Plant.{Plant}
use Rattle.ledger.specs.Ledger.{Ledger, allotted_in, in_bounds, kwh_bound, money_bound}
use Rattle.ledger.proofs.Bounds.{bounded, column-small}
use Rattle.statement.specs.Statement.{room_for}
use Rattle.statement.specs.Lengths.{fields_length, leading_length, plant_line_length, plant_lines_length, total_line_length, statement_length}
use Rattle.statement.specs.Writing.{Stateable}
use Rattle.statement.specs.Laws.{InLimits, Promised}
use Rattle.statement.proofs.Text.{length-statement, text-shown, text-columns}

-- ---- sums

module _ (l : Ledger) (e : in_bounds l ≡ true) (k : length l.allotted ≤ 2048) where
  pub columns-low : Within (four (λ s. sum (allotted_in s l))) (2048 * kwh_bound)
  columns-low = let c = column-small l e k in record { at = four-le (λ _. 2048 * kwh_bound) (c 1) (c 2) (c 3) (c 4) }

  -- the sum of the four column sums
  pub sum_low : sum (four (λ s. sum (allotted_in s l))) ≤ 8192 * kwh_bound
  unfolding sum
  sum_low =
      let a = columns-low.at 0 in let b = columns-low.at 1 in let c = columns-low.at 2 in let d = columns-low.at 3 in
      omega arith

-- what `ledger::column_sums` asks, and that the sum of its answer fits
module _ {plants : List Plant} {l : Ledger} (ok : Stateable plants l) where
  pub sums-asked : (length l.allotted ≤ 2048) × Within l.allotted kwh_bound
  sums-asked = (omega (arith, ok.few, ok.even.figures), (bounded l ok.bounded).allotted)

  pub sums_fit : {sums : List ℕ} → sums ≡ four (λ s. sum (allotted_in s l)) → sum sums < 2 ^ 62
  sums_fit e = rw e (omega (arith, sum_low l ok.bounded sums-asked.0))

-- ---- lengths

-- figures of at most d digits
fields_le : (d : ℕ) (xs : List ℕ) → ((i : ℕ) → figure_length (get_or xs i 0) ≤ d) → fields_length xs ≤ length xs * (d + 1)
unfolding fields_length
fields_le d [] h = omega arith
fields_le d (x ∷ xs) h = omega (arith, h 0, fields_le d xs (λ i. h (suc i)), suc-mul (length xs) (d + 1))

-- an A line takes at most 101 bytes
module _ (p : Plant) (figures : List ℕ) (net money : ℤ) where
  plant-line-low : p.submarket ≤ 4 → p.number ≤ 999999 → length figures ≤ 4 → Within figures kwh_bound → nat_abs net ≤ kwh_bound
      → nat_abs money ≤ money_bound → plant_line_length p figures net money ≤ 101
  unfolding plant_line_length leading_length fields_length
  plant-line-low s n k w a b =
      omega (arith, length-small p.submarket (omega arith), length-le 5 p.number (omega arith), fields_le 13 figures (λ i. length-le 12 (get_or figures i 0) (omega (arith, w.at i))), signed_length-le 12 net (omega arith), signed_length-le 16 money (omega arith))

-- the first four figures of those that are left
first-four : (al : List ℕ) (b : ℕ) → Within al b → Within (take 4 al) b
first-four al b h = record { at = λ i. omega (arith, take-le 4 al i, h.at i) }

-- the nets and the money of rows that are left
abbrev Rows : ℕ → ℕ → List ℤ → Type 0
Rows j b ac = (i : ℕ) → nat_abs (get_or ac (2 * i + j) (pos 0)) ≤ b

rows_less : (j b : ℕ) (ac : List ℤ) → Rows j b ac → Rows j b (drop 2 ac)
rows_less j b ac h i =
    let next : 2 + (2 * i + j) ≡ 2 * suc i + j = omega arith in
    subst (λ (z : ℤ). nat_abs z ≤ b) (sym (get_or-drop 2 ac (2 * i + j) (pos 0) ∙ ap (λ (k : ℕ). get_or ac k (pos 0)) next)) (h (suc i))

-- the A lines take at most 101 bytes each
plant-lines-low : (ps : List Plant) (al : List ℕ) (ac : List ℤ) → Within (map (λ (p : Plant). p.submarket) ps) 4 → Within (map (λ (p : Plant). p.number) ps) 999999
    → Within al kwh_bound → Rows 0 kwh_bound ac → Rows 1 money_bound ac → plant_lines_length ps al ac ≤ 101 * length ps
unfolding plant_lines_length
plant-lines-low [] al ac s n w a b = omega arith
plant-lines-low (p ∷ ps) al ac s n w a b =
    omega (arith, plant-line-low p (take 4 al) (get_or ac 0 (pos 0)) (get_or ac 1 (pos 0)) (s.at 0) (n.at 0) (simp length-take (omega arith)) (first-four al kwh_bound w) (a 0) (b 0), plant-lines-low ps (drop 4 al) (drop 2 ac) (record { at = λ i. s.at (suc i) }) (record { at = λ i. n.at (suc i) }) (record { at = λ i. subst (λ (x : ℕ). x ≤ kwh_bound) (sym (get_or-drop 4 al i 0)) (w.at (4 + i)) }) (rows_less 0 kwh_bound ac a) (rows_less 1 money_bound ac b))

-- the T line takes at most 96 bytes
total-line-low : (settled plants : ℕ) (columns : List ℕ) → settled ≤ 744 → plants ≤ 512 → length columns ≤ 4 → Within columns (2048 * kwh_bound) → sum columns ≤ 8192 * kwh_bound
    → total_line_length settled plants columns ≤ 96
unfolding total_line_length leading_length fields_length
total-line-low settled plants columns h p k w t =
    omega (arith, length-le 2 settled (omega arith), length-le 2 plants (omega arith), fields_le 16 columns (λ i. length-le 15 (get_or columns i 0) (omega (arith, w.at i))), length-le 16 (sum columns) (omega arith))

-- a statement within limits takes at most 128P + 128 bytes
pub length-low : (settled : ℕ) (plants : List Plant) (l : Ledger) → InLimits settled plants l → statement_length settled plants l ≤ room_for (length plants)
unfolding statement_length room_for
length-low settled plants l ok =
    let b = bounded l ok.bounded in
    let short : length l.allotted ≤ 2048 = omega (arith, ok.figures, ok.few) in
    let rows : Rows 0 kwh_bound l.accounts = λ i. subst (λ (k : ℕ). nat_abs (get_or l.accounts k (pos 0)) ≤ kwh_bound) (sym (add-zero (2 * i))) (b.net i) in
    omega (arith, plant-lines-low plants l.allotted l.accounts ok.submarkets ok.numbers b.allotted rows b.money, total-line-low settled (length plants) (four (λ s. sum (allotted_in s l))) ok.periods ok.few (omega arith) (columns-low l ok.bounded short) (sum_low l ok.bounded short))

pub promised : Promised
promised =
    record {
      fits = λ settled plants l ok. subst (λ (n : ℕ). n ≤ room_for (length plants)) (sym (length-statement settled plants l)) (length-low settled plants l ok);
      sized = length-statement;
      shown = text-shown;
      columns = text-columns;
    }

-- what `write_statement` asks, within limits
pub callable : (settled : ℕ) (plants : List Plant) (l : Ledger) → InLimits settled plants l → Stateable plants l × (statement_length settled plants l ≤ room_for (length plants))
callable settled plants l ok = (record { even = record { figures = ok.figures; nets = ok.nets }; few = ok.few; bounded = ok.bounded }, length-low settled plants l ok)

-- A whole table: a list of just the five columns. Assumes nothing.
use mathlib.Core.Path.{◌≡◌, refl, sym, ap, ◌∙◌}
use mathlib.Core.List.{List, ◌++◌}
use mathlib.Core.Logic.{by_cases}
use Prim.Native.Nat.{ℕ, ◌<◌, ◌≤◌}
use native.Mathlib.Decide.{ℕ_discrete}
use native.Mathlib.Omega.{arith}
use borrow.Author.Tests.{eq-eqb, ne_eqb}
use lib.ListN.{length, get_or, take, drop, set}
use Rattle.lists.specs.Lists.{table}
use Rattle.plants.specs.declared.Plant.{Plant}
use Rattle.plants.specs.Plants.{none}
use Rattle.records.specs.Records.{row_at, rows_of, table_rows, put_row, table_places}
use Rattle.records.proofs.Rows.{length-put_row, length-rows, row-at, rows_put, front_filled}

-- a list that has rows is one
pub places : (c : List ℕ) → 0 < length (table_rows c) → length c ≡ table_places
unfolding table_rows
places c l =
    by_cases (ℕ_discrete (length c) table_places) (λ e. e)
    (λ n. absurd (let e : length (table_rows c) ≡ 0 = rw (ne_eqb (length c) table_places n) refl in omega (arith, e, l)))

module _ (c : List ℕ) (e : length c ≡ table_places) where
  pub whole : table_rows c ≡ rows_of 512 c
  unfolding table_rows
  whole = rw (eq-eqb (length c) table_places e) refl

  pub length-whole : length (table_rows c) ≡ 512
  length-whole = ap length whole ∙ length-rows 512 c

  pub row_whole : (i : ℕ) → i < length (table_rows c) → row_at c i ≡ get_or (table_rows c) i none
  row_whole i l = sym (ap (λ ps. get_or ps i none) whole ∙ row-at 512 c i (omega (arith, length-whole, l)))

  pub front_whole : (n : ℕ) (lent : List Plant) {filled : List Plant} → filled ≡ table n (row_at c) ++ drop n lent → n ≤ length (table_rows c)
      → take n filled ≡ take n (table_rows c)
  front_whole n lent f l = front_filled n c lent f (omega (arith, length-whole, l)) ∙ ap (take n) (sym whole)

pub put_whole : (c : List ℕ) → length c ≡ table_places → (i : ℕ) (p : Plant) → i < length (table_rows c) → {d : List ℕ} → d ≡ put_row c i p
    → table_rows d ≡ set (table_rows c) i p
put_whole c e i p l {d} q =
    ap table_rows q
    ∙ (whole (put_row c i p) (length-put_row c i p ∙ e)
    ∙ (rows_put c i p (omega (arith, e)) (omega (arith, length-whole c e, l)) ∙ ap (λ ps. set ps i p) (sym (whole c e))))

-- Loops over rows that stand by submarket: sums by submarket, and four figures a row. Assumes nothing.
use mathlib.Core.Path.{◌≡◌, sym, ap, ◌∙◌}
use mathlib.Core.List.{List}
use Prim.Native.Nat.{ℕ, ◌+◌, ◌-◌, ◌≤◌, ◌<◌}
use native.Mathlib.Omega.{arith}
use native.Mathlib.Decide.{ℕ_discrete}
use lib.ListN.{length, get_or, drop, set, length-set, drop_of_length-le}
use lib.Seq.{get_or-set_same, get_or-set_other, ext_get_or}
use borrow.Author.Tests.{eq-eqb, ne_eqb}
use Rattle.lists.specs.Lists.{sum}
use Rattle.lists.specs.Columns.{rowwise, ◌⊖◌, within, inside, at, totals}
use Rattle.lists.proofs.Loops.{drop_more}
use Rattle.plants.specs.declared.Plant.{Plant}
use Rattle.plants.specs.Plants.{none, submarkets_of}
use Rattle.plants.proofs.Submarkets.{length-submarkets, at-submarkets}
use Rattle.blocks.specs.Portion.{Standing}
use Rattle.blocks.proofs.Standing.{placed_at}
use Rattle.lists.proofs.Columns.{◌!◌, at_totals, sum-le, fewer, within-le}

-- A loop that sums xs by submarket: with u the sums of the first i rows
pub record Totalling (subs xs : List ℕ) (i : ℕ) (u : List ℕ) : Type 0 where
  pub turns : i ≤ length subs
  pub quarters : length u ≡ 4
  pub whole : (s : ℕ) → 1 ≤ s → s ≤ 4 → at s u 0 + sum (within s (drop i subs) (drop i xs)) ≡ sum (within s subs xs)

module _ (subs xs : List ℕ) where
  -- the row i, and those behind it
  turn : (s i : ℕ) → i < length subs → length xs ≡ length subs
      → sum (within s (drop i subs) (drop i xs)) ≡ inside s (subs ! i) (xs ! i) + sum (within s (drop (i + 1) subs) (drop (i + 1) xs))
  unfolding sum rowwise
  turn s i h e = rw (drop_more subs i 0 h, drop_more xs i 0 (rw e h))

  nothing : (s i : ℕ) → length subs ≤ i → length xs ≤ i → sum (within s (drop i subs) (drop i xs)) ≡ 0
  unfolding sum rowwise
  nothing s i h k = rw (drop_of_length-le subs h, drop_of_length-le xs k)

module _ {subs xs : List ℕ} where
  -- row i is in submarket t
  module _ {i t : ℕ} {u : List ℕ} (k : Totalling subs xs i u) (h : i < length subs) (e : length xs ≡ length subs)
      (at-t : t ≡ subs ! i) (low : 1 ≤ t) (high : t ≤ 4) where
    pub totalling_le : u ! (t - 1) + xs ! i ≤ sum (within t subs xs)
    totalling_le =
        let a = k.whole t low high in let b = turn subs xs t i h e in
        let d : inside t (subs ! i) (xs ! i) ≡ xs ! i = rw (eq-eqb (subs ! i) t (sym at-t)) in
        omega arith

    pub totalling_more : {v : ℕ} → v ≡ u ! (t - 1) + xs ! i → Totalling subs xs (i + 1) (set u (t - 1) v)
    totalling_more {v} is =
        record {
          turns = omega arith;
          quarters = length-set u (t - 1) v ∙ k.quarters;
          whole = λ s l m. let a = k.whole s l m in let b = turn subs xs s i h e in let d = step s l (ℕ_discrete s t) in omega arith;
        }
      where
        step : (s : ℕ) → 1 ≤ s → Dec (s ≡ t) → at s (set u (t - 1) v) 0 ≡ at s u 0 + inside s (subs ! i) (xs ! i)
        step s l (yes p) =
            let d : inside t (subs ! i) (xs ! i) ≡ xs ! i = rw (eq-eqb (subs ! i) t (sym at-t)) in
            rw p (get_or-set_same u (t - 1) v 0 (let q = k.quarters in omega arith) ∙ is ∙ sym (ap (λ (x : ℕ). u ! (t - 1) + x) d))
        step s l (no p) =
            let f : inside s (subs ! i) (xs ! i) ≡ 0 = rw (ne_eqb (subs ! i) s (λ z. p (sym (at-t ∙ z)))) in
            let g = get_or-set_other u (t - 1) (s - 1) v 0 (λ z. p (omega arith)) in
            omega arith

  pub totalled : {i : ℕ} {u : List ℕ} → Totalling subs xs i u → length subs ≤ i → length xs ≡ length subs → u ≡ totals subs xs
  unfolding totals
  totalled {i} {u} k h e =
      ext_get_or 0 u (totals subs xs) k.quarters (λ j l. let q = k.quarters in let f : j ≡ j + 1 - 1 = omega arith in
      ap (λ (n : ℕ). u ! n) f ∙ same (j + 1) (omega arith) (omega arith) ∙ sym (ap (λ (n : ℕ). totals subs xs ! n) f))
    where
      same : (s : ℕ) → 1 ≤ s → s ≤ 4 → at s u 0 ≡ at s (totals subs xs) 0
      same s l m = let a = k.whole s l m in let b = nothing subs xs s i h (omega arith) in let d = at_totals subs xs s l m in omega arith

-- what is over in a submarket is no more than the sum
pub over_le : (s : ℕ) (subs xs ys : List ℕ) → sum (within s subs (xs ⊖ ys)) ≤ sum xs
over_le s subs xs ys =
    let a = sum-le (within s subs (xs ⊖ ys)) (xs ⊖ ys) (within-le s subs (xs ⊖ ys)) in let b = fewer xs ys in omega arith

-- the submarket of a plant of a standing table
pub placed : (plants : List Plant) → Standing 0 (submarkets_of plants) → (i : ℕ) → i < length plants
    → (1 ≤ (get_or plants i none).submarket) × ((get_or plants i none).submarket ≤ 4)
placed plants standing i h = rw at-submarkets at (placed_at 0 (submarkets_of plants) standing i (rw length-submarkets h))

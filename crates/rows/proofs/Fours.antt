-- Lists of four figures a row, and lists written row by row. Assumes nothing.
use mathlib.Core.Path.{◌≡◌, refl, sym, ap, ap₂, ◌∙◌}
use mathlib.Core.Logic.{by_cases}
use mathlib.Core.List.{List}
use Prim.Native.Nat.{ℕ, ◌+◌, ◌-◌, ◌*◌, ◌≤◌, ◌<◌}
use native.Mathlib.Omega.{arith}
use native.Mathlib.Decide.{ℕ_discrete, dec_lt}
use lib.ListN.{length, get_or, set}
use lib.Seq.{get_or-set_same, get_or-set_other, ext_get_or}
use borrow.Author.Tests.{eq-eqb, ne_eqb}
use Rattle.lists.specs.Columns.{rowwise, four, by_row, within, inside}
use Rattle.lists.proofs.Columns.{◌!◌, get_or-rowwise, length-rowwise, at-within}
use Rattle.lists.proofs.Rows.{column-place, fours_sized, fours_column}

-- each row's figure in its own submarket
module _ (subs xs : List ℕ) (same : length xs ≡ length subs) where
  pub within-sized : (s : ℕ) → length (within s subs xs) ≡ length subs
  within-sized s = length-rowwise (inside s) 0 0 subs xs ∙ (omega arith)

  pub own-sized : length (by_row 0 (four (λ s. within s subs xs))) ≡ 4 * length subs
  own-sized = fours_sized (λ s. within s subs xs) (length subs) within-sized

  pub own_at : (s : ℕ) → 1 ≤ s → s ≤ 4 → (i : ℕ) → by_row 0 (four (λ s. within s subs xs)) ! (4 * i + (s - 1)) ≡ inside s (subs ! i) (xs ! i)
  own_at s l k i =
      sym (column-place 4 (s - 1) (omega arith) (by_row 0 (four (λ s. within s subs xs))) i 0 refl)
      ∙ ap (λ c. c ! i) (fours_column (λ s. within s subs xs) (length subs) within-sized s l k) ∙ at-within s subs xs i

-- A loop over n rows that puts the own figure of row i into a list of zeros
pub record Starting (all out : List ℕ) (i : ℕ) : Type 0 where
  pub behind : (m : ℕ) → m < 4 * i → out ! m ≡ all ! m
  pub ahead : (m : ℕ) → 4 * i ≤ m → out ! m ≡ 0

module _ (subs xs : List ℕ) (same : length xs ≡ length subs) where
  abbrev all : List ℕ
  all = by_row 0 (four (λ s. within s subs xs))

  module _ {out : List ℕ} {i : ℕ} (k : Starting all out i) (h : i < length subs) (sized : length out ≡ 4 * length subs) where
    pub starting_more : {t x : ℕ} → 1 ≤ t → t ≤ 4 → t ≡ subs ! i → x ≡ xs ! i → Starting all (set out (4 * i + (t - 1)) x) (i + 1)
    starting_more {t} {x} low high is e =
        record {
          behind = λ m l.
              by_cases (dec_lt m (4 * i)) (λ u. get_or-set_other out (4 * i + (t - 1)) m x 0 (λ p. omega arith) ∙ k.behind m u)
              (λ u. own m (m - 4 * i + 1) (omega arith) (omega arith) (omega arith));
          ahead = λ m l. get_or-set_other out (4 * i + (t - 1)) m x 0 (λ p. omega arith) ∙ k.ahead m (omega arith);
        }
      where
        own : (m s : ℕ) → 1 ≤ s → s ≤ 4 → m ≡ 4 * i + (s - 1) → set out (4 * i + (t - 1)) x ! m ≡ all ! m
        own m s l u place =
            by_cases (ℕ_discrete s t) hit miss
            ∙ sym (ap (λ (n : ℕ). all ! n) place ∙ own_at subs xs same s l u i ∙ ap₂ (inside s) (sym is) (sym e))
          where
            hit : s ≡ t → set out (4 * i + (t - 1)) x ! m ≡ inside s t x
            hit p =
                let at : m ≡ 4 * i + (t - 1) = omega arith in
                rw (at, eq-eqb t s (sym p)) (get_or-set_same out (4 * i + (t - 1)) x 0 (omega arith))

            miss : (s ≡ t → ⊥) → set out (4 * i + (t - 1)) x ! m ≡ inside s t x
            miss p = rw (ne_eqb t s (λ q. p (sym q))) (get_or-set_other out (4 * i + (t - 1)) m x 0 (λ q. p (omega arith)) ∙ k.ahead m (omega arith))

    -- row i is in none of the four
    pub starting_none : ((1 ≤ subs ! i) × (subs ! i ≤ 4) → ⊥) → Starting all out (i + 1)
    starting_none far =
        record {
          behind = λ m l. by_cases (dec_lt m (4 * i)) (k.behind m) (λ u. zero_there m (m - 4 * i + 1) (omega arith) (omega arith) (omega arith));
          ahead = λ m l. k.ahead m (omega arith);
        }
      where
        zero_there : (m s : ℕ) → 1 ≤ s → s ≤ 4 → m ≡ 4 * i + (s - 1) → out ! m ≡ all ! m
        zero_there m s l u place =
            let zero : inside s (subs ! i) (xs ! i) ≡ 0 = rw (ne_eqb (subs ! i) s (λ e. far (rw e (l, u)))) in
            k.ahead m (omega arith) ∙ sym (ap (λ (n : ℕ). all ! n) place ∙ own_at subs xs same s l u i ∙ zero)

  pub started : {out : List ℕ} {i : ℕ} → Starting all out i → length subs ≤ i → length out ≡ 4 * length subs → out ≡ all
  started {out} k over sized = ext_get_or 0 out all (sized ∙ sym (own-sized subs xs same)) (λ m l. k.behind m (omega arith))

-- two lists, row by row, as a loop has written them
module _ {C : Type 0} (f : ℕ → ℕ → C) (c : C) (e : f 0 0 ≡ c) where
  pub rowwise_written : (xs ys : List ℕ) (out : List C) → length ys ≡ length xs → length out ≡ length xs
      → ((k : ℕ) → k < length xs → get_or out k c ≡ f (xs ! k) (ys ! k)) → out ≡ rowwise f 0 0 xs ys
  rowwise_written xs ys out p q h =
      ext_get_or c out (rowwise f 0 0 xs ys) (let a = length-rowwise f 0 0 xs ys in omega arith)
      (λ k l. h k (omega arith) ∙ sym (get_or-rowwise f 0 0 e xs ys k))

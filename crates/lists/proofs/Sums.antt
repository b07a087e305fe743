-- Laws of sums and tables. Assumes nothing.
use mathlib.Core.Path.{◌≡◌, refl, sym, ap, ◌∙◌}
use mathlib.Core.List.{List, [], ◌∷◌, ◌++◌}
use Prim.Native.Nat.{ℕ, zero, suc, ◌+◌, ◌*◌, ◌≤◌, ◌<◌, zero-le}
use native.Mathlib.Nat.{zero-add, add-zero, le_of_suc-le-suc, not-suc-le-zero}
use native.Mathlib.Omega.{arith}
use lib.ListN.{length, take, drop, get_or, replicate, take-append-drop}
use lib.Seq.{ext_get_or}
use Rattle.lists.specs.Lists.{sum, table, table_from}

pub sum-append : (xs ys : List ℕ) → sum (xs ++ ys) ≡ sum xs + sum ys
unfolding sum
sum-append [] ys = sym (zero-add (sum ys))
sum-append (x ∷ xs) ys = omega (arith, sum-append xs ys)

pub sum_zeros : (n : ℕ) → sum (replicate n 0) ≡ 0
unfolding sum
sum_zeros zero = refl
sum_zeros (suc n) = omega (arith, sum_zeros n)

-- a figure is at most the sum
pub at-le-sum : (l : List ℕ) (i : ℕ) → get_or l i 0 ≤ sum l
unfolding sum
at-le-sum [] i = zero-le
at-le-sum (x ∷ xs) zero = omega arith
at-le-sum (x ∷ xs) (suc i) = omega (arith, at-le-sum xs i)

-- a part from the front and the rest
pub sum_split : (l : List ℕ) (k : ℕ) → sum (take k l) + sum (drop k l) ≡ sum l
sum_split l k = sym (sum-append (take k l) (drop k l)) ∙ ap sum (take-append-drop k l)

-- a part is at most the sum
pub part-le-sum : (l : List ℕ) (a k : ℕ) → sum (take k (drop a l)) ≤ sum l
part-le-sum l a k = omega (arith, sum_split (drop a l) k, sum_split l a)

module _ {ℓ} {A : Type ℓ} (f : ℕ → A) where
  length_from : (i k : ℕ) → length (table_from f i k) ≡ k
  length_from i zero = refl
  length_from i (suc k) = ap suc (length_from (i + 1) k)

  pub length-table : (n : ℕ) → length (table n f) ≡ n
  length-table n = length_from 0 n

  get_or-from : (i k j : ℕ) (d : A) → j < k → get_or (table_from f i k) j d ≡ f (i + j)
  get_or-from i zero j d h = absurd (not-suc-le-zero h)
  get_or-from i (suc k) zero d h = rw add-zero
  get_or-from i (suc k) (suc j) d h = get_or-from (i + 1) k j d (le_of_suc-le-suc h) ∙ ap f (omega arith)

  pub get_or-table : (n j : ℕ) (d : A) → j < n → get_or (table n f) j d ≡ f j
  get_or-table n j d h = get_or-from 0 n j d h ∙ ap f (zero-add j)

-- a table of a list's own elements is the list
module _ {ℓ} {A : Type ℓ} (d : A) where
  pub table-get_or : (l : List A) → table (length l) (λ (i : ℕ). get_or l i d) ≡ l
  table-get_or l = ext_get_or d _ l (length-table _ (length l)) (λ i h. get_or-table _ (length l) i d (rw length-table at h))

module _ (f : ℕ → ℕ) (b : ℕ) (le : (i : ℕ) → f i ≤ b) where
  from_bound : (i k : ℕ) → sum (table_from f i k) ≤ k * b
  unfolding sum
  from_bound i zero = zero-le
  from_bound i (suc k) = omega (arith, le i, from_bound (i + 1) k)

  -- n figures of at most b each
  pub table-sum-bound : (n : ℕ) → sum (table n f) ≤ n * b
  table-sum-bound n = from_bound 0 n

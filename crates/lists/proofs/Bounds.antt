-- Figures within bounds, and their sums. Assumes nothing.
use mathlib.Core.List.{List}
use Prim.Native.Nat.{ℕ, ◌*◌, ◌^◌, ◌≤◌, ◌<◌}
use native.Mathlib.Nat.{le_trans, mul-le-mul_right}
use native.Mathlib.Omega.{arith}
use lib.ListN.{length, get_or}
use Rattle.lists.specs.Lists.{sum, most, Within}
use Rattle.lists.proofs.Sums.{at-le-sum, table-get_or, table-sum-bound}

-- up to n figures of at most b each
pub sum_bound : (l : List ℕ) (b n : ℕ) → Within l b → length l ≤ n → sum l ≤ n * b
sum_bound l b n w few = le_trans (rw (table-get_or 0 l) at (table-sum-bound (λ (i : ℕ). get_or l i 0) b w.at (length l))) (mul-le-mul_right b few)

-- figures of an hour, for each of up to 744 periods
pub hours-small : (l : List ℕ) → length l ≤ 744 → Within l most → sum l < 2 ^ 43
hours-small l few w = omega (arith, sum_bound l most 744 w few)

-- no figure is above the sum
pub within-sum : (l : List ℕ) (b : ℕ) → sum l ≤ b → Within l b
within-sum l b h = record { at = λ i. le_trans (at-le-sum l i) h }

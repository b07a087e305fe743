-- Laws of `is_within`, for callers. Assumes nothing.
use mathlib.Core.Path.{◌≡◌}
use mathlib.Core.Bool.{true}
use Prim.Native.Nat.{ℕ, ◌≤◌}
use borrow.Author.Tests.{leb-true, le-leb}
use lib.IntN.{ℤ, nat_abs}
use Rattle.signed.specs.Figures.{is_within}

module _ (b : ℕ) (z : ℤ) where
  pub within_abs : is_within b z ≡ true → nat_abs z ≤ b
  unfolding is_within
  within_abs e = leb-true (nat_abs z) b e

  pub abs_within : nat_abs z ≤ b → is_within b z ≡ true
  unfolding is_within
  abs_within h = le-leb (nat_abs z) b h

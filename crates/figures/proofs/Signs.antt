-- Laws of signed figures: what is below zero, and how far. Assumes nothing.
use mathlib.Core.Path.{◌≡◌, refl, sym, ap}
use mathlib.Core.Bool.{true, false, false≢true}
use mathlib.Core.List.{List, [], ◌∷◌}
use Prim.Native.Nat.{ℕ, suc, ◌+◌, ◌^◌, ◌≤◌, ◌<◌}
use native.Mathlib.Omega.{arith}
use borrow.Author.Tests.{ltb-true}
use lib.IntN.{ℤ, pos, negsuc, nat_abs}
use lib.Signed.{lt_z}
use lib.ListN.{length, set, length-append}
use Rattle.figures.specs.Figures.{figure, minus, signed_figure, figure_length, signed_figure_length, Wrote}
use Rattle.figures.proofs.Decimal.{length-le}
use Rattle.figures.proofs.Written.{wrote_byte, wrote_next}

-- ---- a minus before a figure below zero

pub minus-below : (z : ℤ) → lt_z z (pos 0) ≡ true → minus z ≡ 45 ∷ []
unfolding minus
minus-below (pos n) t = absurd (omega (arith, ltb-true n 0 t))
minus-below (negsuc n) t = refl

pub minus-none : (z : ℤ) → lt_z z (pos 0) ≡ false → minus z ≡ []
unfolding minus
minus-none (pos n) t = refl
minus-none (negsuc n) t = absurd (false≢true (sym t))

module _ (z : ℤ) where
  pub signed_below : lt_z z (pos 0) ≡ true → signed_figure z ≡ 45 ∷ figure (nat_abs z)
  unfolding signed_figure
  signed_below t = rw (minus-below z t)

  pub signed_above : lt_z z (pos 0) ≡ false → signed_figure z ≡ figure (nat_abs z)
  unfolding signed_figure
  signed_above t = rw (minus-none z t)

  pub length-below : lt_z z (pos 0) ≡ true → signed_figure_length z ≡ 1 + figure_length (nat_abs z)
  unfolding signed_figure_length figure_length
  length-below t = omega (arith, ap length (signed_below t))

  pub length_above : lt_z z (pos 0) ≡ false → signed_figure_length z ≡ figure_length (nat_abs z)
  unfolding signed_figure_length figure_length
  length_above t = ap length (signed_above t)

-- the minus, and the figure behind it
module _ (z : ℤ) (n : ℕ) (e : n ≡ nat_abs z) (text : List ℕ) (at : ℕ) (room : at + signed_figure_length z ≤ length text) {new : List ℕ} {r : ℕ} where
  pub wrote_below : lt_z z (pos 0) ≡ true → Wrote (figure n) (at + 1) (set text at 45) new r → Wrote (signed_figure z) at text new r
  unfolding figure_length
  wrote_below t w =
      let long = length-below z t in
      let same : length (figure n) ≡ length (figure (nat_abs z)) = ap (λ (n : ℕ). length (figure n)) e in
      rw (signed_below z t, ← e) (wrote_next (wrote_byte text at 45 (omega arith)) w (omega arith))

  pub wrote_above : lt_z z (pos 0) ≡ false → Wrote (figure n) at text new r → Wrote (signed_figure z) at text new r
  wrote_above t w = rw (signed_above z t, ← e) w

-- ---- how long a signed figure is

minus-le : (z : ℤ) → length (minus z) ≤ 1
unfolding minus
minus-le (pos n) = omega arith
minus-le (negsuc n) = omega arith

-- a minus and at most k digits
pub signed_length-le : (k : ℕ) (z : ℤ) → nat_abs z < 10 ^ suc k → signed_figure_length z ≤ suc (suc k)
unfolding signed_figure_length signed_figure figure_length
signed_length-le k z h = omega (arith, length-append (minus z) (figure (nat_abs z)), minus-le z, length-le k (nat_abs z) h)

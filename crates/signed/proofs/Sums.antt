-- Columns of signed figures: their sums. Assumes nothing.
use mathlib.Core.Path.{◌≡◌, refl, sym, ap, ap₂, ◌∙◌}
use Prim.Native.Nat.{ℕ, suc, ◌+◌}
use native.Mathlib.Omega.{arith}
use mathlib.Core.List.{List, [], ◌∷◌, map}
use lib.IntN.{ℤ, pos, sub_ℕ, ◌+ℤ◌, ◌*ℤ◌, +ℤ_idl, +ℤ_idr, zero-*ℤ}
use lib.ListN.{get_or}
use Rattle.lists.specs.Lists.{sum, sumℤ}
use Rattle.lists.specs.Columns.{rowwise, ◌⊕ℤ◌}
use Rattle.signed.proofs.View.{view_sub, less_plus, less_pos, same_less, same_view, less_zero, plus_swap, times_plus}

pub sub_plus : (a b c d : ℕ) → sub_ℕ a b +ℤ sub_ℕ c d ≡ sub_ℕ (a + c) (b + d)
sub_plus a b c d = same_less (less_plus (view_sub a b) (view_sub c d)) (view_sub (a + c) (b + d))

pub sub_self : (a : ℕ) → sub_ℕ a a ≡ pos 0
sub_self a = less_zero (view_sub a a) refl

-- what is allotted and the net are what is metered
pub plus_sub : (x y : ℕ) → pos x +ℤ sub_ℕ y x ≡ pos y
plus_sub x y = same_view (pos x +ℤ sub_ℕ y x) (pos y) (omega (arith, less_plus (less_pos x) (view_sub y x)))

pub sumℤ-⊕ : (xs ys : List ℤ) → sumℤ (xs ⊕ℤ ys) ≡ sumℤ xs +ℤ sumℤ ys
unfolding rowwise sumℤ
sumℤ-⊕ [] [] = refl
sumℤ-⊕ [] (y ∷ ys) = ap₂ (λ a b. a +ℤ b) (+ℤ_idl y) (sumℤ-⊕ [] ys ∙ +ℤ_idl (sumℤ ys)) ∙ sym (+ℤ_idl (y +ℤ sumℤ ys))
sumℤ-⊕ (x ∷ xs) [] = ap₂ (λ a b. a +ℤ b) (+ℤ_idr x) (sumℤ-⊕ xs [] ∙ +ℤ_idr (sumℤ xs)) ∙ sym (+ℤ_idr (x +ℤ sumℤ xs))
sumℤ-⊕ (x ∷ xs) (y ∷ ys) = ap (λ z. x +ℤ y +ℤ z) (sumℤ-⊕ xs ys) ∙ plus_swap x y (sumℤ xs) (sumℤ ys)

-- differences add up to the difference of the sums
pub sumℤ-sub : (xs ys : List ℕ) → sumℤ (rowwise sub_ℕ 0 0 xs ys) ≡ sub_ℕ (sum xs) (sum ys)
unfolding rowwise sum sumℤ
sumℤ-sub [] [] = refl
sumℤ-sub [] (y ∷ ys) = ap (λ z. sub_ℕ 0 y +ℤ z) (sumℤ-sub [] ys) ∙ sub_plus 0 y 0 (sum ys)
sumℤ-sub (x ∷ xs) [] = ap (λ z. sub_ℕ x 0 +ℤ z) (sumℤ-sub xs []) ∙ sub_plus x 0 (sum xs) 0
sumℤ-sub (x ∷ xs) (y ∷ ys) = ap (λ z. sub_ℕ x y +ℤ z) (sumℤ-sub xs ys) ∙ sub_plus x y (sum xs) (sum ys)

pub sumℤ_times : (zs : List ℤ) (t : ℕ) → sumℤ (map (λ z. z *ℤ pos t) zs) ≡ sumℤ zs *ℤ pos t
unfolding sumℤ
sumℤ_times [] t = sym (zero-*ℤ (pos t))
sumℤ_times (z ∷ zs) t = ap (λ x. z *ℤ pos t +ℤ x) (sumℤ_times zs t) ∙ sym (times_plus z (sumℤ zs) t)

pub sumℤ-nil : (zs : List ℤ) → ((i : ℕ) → get_or zs i (pos 0) ≡ pos 0) → sumℤ zs ≡ pos 0
unfolding sumℤ
sumℤ-nil [] h = refl
sumℤ-nil (z ∷ zs) h = ap₂ (λ a b. a +ℤ b) (h 0) (sumℤ-nil zs (λ i. h (suc i)))

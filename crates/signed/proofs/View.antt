-- A signed number z as a difference of two naturals, `up z` less `dn z`, one of which is 0. `omega` reads no ℤ, and reads these.
--     view_plus, view_minus, view_neg   what the parts of a sum, a difference and a negation are, as facts for `omega`'s list
--     same_view                         two signed numbers with one difference are equal
--     abs_plus, abs_times               bounds on absolute values
-- Assumes nothing.
use mathlib.Core.Path.{◌≡◌, refl, sym, ap, ◌∙◌}
use mathlib.Core.Bool.{Bool, true, false, cond}
use Prim.Native.Nat.{ℕ, zero, suc, ◌+◌, ◌-◌, ◌*◌, ◌≤◌}
use native.Mathlib.Nat.{zero-mul, add-mul}
use native.Mathlib.Omega.{arith}
use borrow.Author.Tests.{ltb-true, ltb-false}
use lib.Dec.{ltb}
use lib.IntN.{ℤ, pos, negsuc, neg_ℤ, nat_abs, sub_ℕ, ◌+ℤ◌, ◌-ℤ◌, ◌*ℤ◌}

abbrev pub up : ℤ → ℕ
up (pos n) = n
up (negsuc n) = 0

abbrev pub dn : ℤ → ℕ
dn (pos n) = 0
dn (negsuc n) = suc n

-- ---- what the parts are

pub view_abs : (z : ℤ) → nat_abs z ≡ up z + dn z
view_abs (pos n) = omega arith
view_abs (negsuc n) = omega arith

-- z is a − b
pub record Parts (z : ℤ) (a b : ℕ) : Type 0 where
  pub even : up z + b ≡ a + dn z
  pub up_le : up z ≤ a
  pub dn_le : dn z ≤ b

parts-sub-by : (a b : ℕ) (t : Bool) → ltb a b ≡ t → Parts (cond t (negsuc (b - suc a)) (pos (a - b))) a b
parts-sub-by a b true e = omega (arith, ltb-true a b e)
parts-sub-by a b false e = omega (arith, ltb-false a b e)

pub view_sub : (a b : ℕ) → Parts (sub_ℕ a b) a b
view_sub a b = parts-sub-by a b (ltb a b) refl

pub view_plus : (x y : ℤ) → Parts (x +ℤ y) (up x + up y) (dn x + dn y)
view_plus (pos a) (pos b) = omega arith
view_plus (pos a) (negsuc b) = omega (arith, view_sub a (suc b))
view_plus (negsuc a) (pos b) = omega (arith, view_sub b (suc a))
view_plus (negsuc a) (negsuc b) = omega arith

pub view_neg : (x : ℤ) → (up (neg_ℤ x) ≡ dn x) × (dn (neg_ℤ x) ≡ up x)
view_neg (pos zero) = (refl, refl)
view_neg (pos (suc n)) = (refl, refl)
view_neg (negsuc n) = (refl, refl)

pub view_minus : (x y : ℤ) → Parts (x -ℤ y) (up x + dn y) (dn x + up y)
view_minus x y = omega (arith, view_plus x (neg_ℤ y), view_neg y)

pub view_times : (x : ℤ) (t : ℕ) → (up (x *ℤ pos t) ≡ up x * t) × (dn (x *ℤ pos t) ≡ dn x * t)
view_times (pos a) t = (refl, sym (zero-mul t))
view_times (negsuc a) t = ((view_neg (pos (suc a * t))).0 ∙ sym (zero-mul t), (view_neg (pos (suc a * t))).1)

-- ---- two numbers with one difference are equal

pub same_view : (x y : ℤ) → up x + dn y ≡ up y + dn x → x ≡ y
same_view (pos a) (pos b) h = ap pos (omega arith)
same_view (pos a) (negsuc b) h = absurd (omega arith)
same_view (negsuc a) (pos b) h = absurd (omega arith)
same_view (negsuc a) (negsuc b) h = ap negsuc (omega arith)

-- ---- a number as a difference of two naturals, which need not be its parts

pub less_pos : (n : ℕ) → Parts (pos n) n 0
less_pos n = omega arith

pub less_plus : {x y : ℤ} {a b c d : ℕ} → Parts x a b → Parts y c d → Parts (x +ℤ y) (a + c) (b + d)
less_plus {x} {y} p q = omega (arith, view_plus x y)

pub less_minus : {x y : ℤ} {a b c d : ℕ} → Parts x a b → Parts y c d → Parts (x -ℤ y) (a + d) (b + c)
less_minus {x} {y} p q = omega (arith, view_minus x y)

-- two numbers that are the same difference are equal
pub same_less : {x y : ℤ} {a b : ℕ} → Parts x a b → Parts y a b → x ≡ y
same_less {x} {y} p q = same_view x y (omega arith)

-- net kWh: metered, less covered guarantee, less right to secondary energy
pub net_is : (g b r : ℕ) → pos g -ℤ pos b -ℤ pos r ≡ sub_ℕ g (b + r)
net_is g b r =
    same_view (pos g -ℤ pos b -ℤ pos r) (sub_ℕ g (b + r))
    (omega (arith, less_minus (less_minus (less_pos g) (less_pos b)) (less_pos r), view_sub g (b + r)))

pub net_abs : (g b r : ℕ) → nat_abs (sub_ℕ g (b + r)) ≤ g + b + r
net_abs g b r = omega (arith, view_sub g (b + r), view_abs (sub_ℕ g (b + r)))

pub less_zero : {z : ℤ} {a b : ℕ} → Parts z a b → a ≡ b → z ≡ pos 0
less_zero {z} p e = same_view z (pos 0) (omega arith)

-- a sum of four, regrouped
pub plus_swap : (a b c d : ℤ) → (a +ℤ b) +ℤ (c +ℤ d) ≡ (a +ℤ c) +ℤ (b +ℤ d)
plus_swap a b c d =
    same_view ((a +ℤ b) +ℤ (c +ℤ d)) ((a +ℤ c) +ℤ (b +ℤ d))
    (omega (arith, view_plus a b, view_plus c d, view_plus a c, view_plus b d, view_plus (a +ℤ b) (c +ℤ d), view_plus (a +ℤ c) (b +ℤ d)))

pub times_plus : (x y : ℤ) (t : ℕ) → (x +ℤ y) *ℤ pos t ≡ x *ℤ pos t +ℤ y *ℤ pos t
times_plus x y t =
    same_view ((x +ℤ y) *ℤ pos t) (x *ℤ pos t +ℤ y *ℤ pos t)
    (omega (arith, view_times (x +ℤ y) t, view_times x t, view_times y t, view_plus (x *ℤ pos t) (y *ℤ pos t), simp add-mul at (ap (λ (n : ℕ). n * t) (view_plus x y).even)))

-- ---- absolute values

pub abs_plus : (x y : ℤ) → nat_abs (x +ℤ y) ≤ nat_abs x + nat_abs y
abs_plus x y = omega (arith, view_plus x y, view_abs x, view_abs y, view_abs (x +ℤ y))

pub abs_neg : (x : ℤ) → nat_abs (neg_ℤ x) ≡ nat_abs x
abs_neg x = omega (arith, view_neg x, view_abs x, view_abs (neg_ℤ x))

pub abs_times : (x : ℤ) (t : ℕ) → nat_abs (x *ℤ pos t) ≡ nat_abs x * t
abs_times (pos a) t = refl
abs_times (negsuc a) t = abs_neg (pos (suc a * t))

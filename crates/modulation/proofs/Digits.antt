-- A figure times a ratio, from the ratio's first binary digits. Assumes nothing.
use mathlib.Core.Path.{◌≡◌, ap}
use Prim.Native.Nat.{ℕ, ◌+◌, ◌*◌, ◌/◌, ◌%◌, ◌≤◌, ◌<◌}
use native.Mathlib.Nat.{mul-le-mul_left, mul-le-mul_right, div-add-mod', mod-lt, div-eq_of_lt-le, le_of_lt, le_trans}
use native.Mathlib.Omega.{arith}
use Rattle.wide.proofs.Step.{at-most}

-- With the ratio c / w, its digits (high the first 20, low the next 42, middle the first 42) and what stands behind the whole part:
-- where y is not too near the next whole number, the digits settle the product
module _ (c w q₁ q₀ high low middle y : ℕ) (some : 0 < w)
    (is-high : high ≡ c * 1048576 / w) (is-low : low ≡ 4398046511104 * (c * 1048576 % w) / w) (is-middle : middle ≡ 4398046511104 * c / w)
    (is_y : y ≡ q₁ * low + q₀ * middle) (clear : y % 4398046511104 + q₁ + q₀ < 4398046511104) where
  f : ℕ
  f = c * 1048576 % w

  g₁ : ℕ
  g₁ = 4398046511104 * (c * 1048576 % w) % w

  g₀ : ℕ
  g₀ = 4398046511104 * c % w

  bounds : ((q₁ * high + y / 4398046511104) * w ≤ (q₁ * 1048576 + q₀) * c) × ((q₁ * 1048576 + q₀) * c < (q₁ * high + y / 4398046511104 + 1) * w)
  unfolding f g₁ g₀
  bounds =
      let e₁ : high * w + f ≡ c * 1048576 = rw is-high (div-add-mod' (c * 1048576) w) in
      let e₂ : low * w + g₁ ≡ 4398046511104 * f = rw is-low (div-add-mod' (4398046511104 * f) w) in
      let e₃ : middle * w + g₀ ≡ 4398046511104 * c = rw is-middle (div-add-mod' (4398046511104 * c) w) in
      let m₁ = ap (λ (x : ℕ). q₁ * x) e₁ in let m₂ = ap (λ (x : ℕ). q₁ * x) e₂ in let m₃ = ap (λ (x : ℕ). q₀ * x) e₃ in
      let m₄ = ap (λ (x : ℕ). x * w) is_y in
      let m₅ = ap (λ (x : ℕ). x * w) (div-add-mod' y 4398046511104) in
      let b₁ = mul-le-mul_left q₁ (le_of_lt (mod-lt (4398046511104 * f) some)) in
      let b₀ = mul-le-mul_left q₀ (le_of_lt (mod-lt (4398046511104 * c) some)) in
      let b₂ : (y % 4398046511104 + q₁ + q₀ + 1) * w ≤ 4398046511104 * w = mul-le-mul_right w (let a = clear in omega arith) in
      (omega arith, omega arith)

  pub by_digits : (q₁ * 1048576 + q₀) * c / w ≡ q₁ * high + y / 4398046511104
  by_digits = div-eq_of_lt-le w bounds.0 bounds.1

-- a figure times a factor in millionths
pub scaled : {x y a : ℕ} → x ≤ a → y ≤ 1000000 → x * y / 1000000 ≤ a
scaled {x} {y} p q = le_trans (at-most x y 1000000 q) p

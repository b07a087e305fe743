-- Division by w through its head w / cut: the quotient of high * cut + low, for a number low below cut, from a guess, that of high by the head. For every cut.
-- Assumes nothing.
use mathlib.Core.Path.{◌≡◌, sym, ap}
use Prim.Native.Nat.{ℕ, ◌+◌, ◌-◌, ◌*◌, ◌/◌, ◌%◌, ◌≤◌, ◌<◌}
use native.Mathlib.Nat.{div-add-mod', mod-lt, mul-le-mul_left, mul-le-mul_right, le-div_iff_mul-le, le_of_mul-le-mul_right, lt_of_mul-lt-mul_right, sub-add_cancel}
use native.Mathlib.Omega.{arith}
use lib.Arith.{digits_lt, digits_div, digits_mod}

-- Guess times w needs guess * tail of what is left over the head's multiple, left + low. That need is at most 2 * w.
pub record Guess (high low w cut head left tail : ℕ) : Type 0 where
  pub positive : 0 < head
  pub below : left + low < w
  pub little : high / head * tail ≤ 2 * w
  pub whole : high * cut + low + high / head * tail ≡ high / head * w + (left + low)

pub guess : (high low w cut head left tail : ℕ) → 0 < cut → cut ≤ w → low < cut → high * (w % cut) ≤ 2 * w * (w / cut)
    → head ≡ w / cut → left ≡ high % head * cut → tail ≡ w % cut → Guess high low w cut head left tail
guess high low w cut head left tail pos in-w small bound is-head is-left is-tail =
    let positive : 0 < head = rw is-head ((le-div_iff_mul-le {k = cut} {x = 1} {y = w} pos).1 (omega arith)) in
    let parts : head * cut + tail ≡ w = rw (is-head, is-tail) (div-add-mod' w cut) in
    let least : high * tail ≤ 2 * w * head = rw (is-head, is-tail) bound in
    record {
      positive = positive;
      below = rw is-left (omega (arith, digits_lt (mod-lt high positive) small));
      little =
          le_of_mul-le-mul_right {m = high / head * tail} {n = 2 * w} {k = head}
          (omega (arith, ap (λ (x : ℕ). x * tail) (div-add-mod' high head))) positive;
      whole = rw is-left (omega (arith, ap (λ (x : ℕ). x * cut) (div-add-mod' high head), ap (λ (x : ℕ). high / head * x) parts));
    }

-- the bound on high, for a number below 2 * w * radix, where what is cut off of w is little enough for the radix
pub few : (high low w radix cut : ℕ) → 0 < cut → high * cut + low < 2 * w * radix → radix * (w % cut) ≤ w / cut * cut → high * (w % cut) ≤ 2 * w * (w / cut)
few high low w radix cut pos below tail =
    le_of_mul-le-mul_right {m = high * (w % cut)} {n = 2 * w * (w / cut)} {k = cut}
    (omega (arith, mul-le-mul_right (w % cut) below, mul-le-mul_left (2 * w) tail)) pos

-- A guess that is too large by k, for every k: k less is the quotient, and k times w more, without the need, is the remainder.
pub record Back (n need guess have w k : ℕ) : Type 0 where
  pub within : k ≤ guess
  pub divided : (guess - k ≡ n / w) × (have + k * w - need ≡ n % w)

pub back : (n need guess have w k : ℕ) → n + need ≡ guess * w + have → need ≤ have + k * w → have + k * w < need + w
    → Back n need guess have w k
back n need guess have w k whole enough least =
    let rest : ℕ = have + k * w - need in
    let below : rest < w = omega arith in
    let within : k ≤ guess = omega (arith, lt_of_mul-lt-mul_right w {m = k} {n = guess + 1} (omega arith)) in
    let is : n ≡ (guess - k) * w + rest = omega (arith, ap (λ (x : ℕ). x * w) (sub-add_cancel {n = guess} {m = k} within)) in
    record {
      within = within;
      divided = (rw is (sym (digits_div (guess - k) below)), rw is (sym (digits_mod (guess - k) below)));
    }

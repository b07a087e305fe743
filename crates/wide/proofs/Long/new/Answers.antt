-- `wide::Long::new` meets its contract: the first bit of w is bit j, between 32 and 61, and j - 31 bits are cut. Assumes nothing.
use mathlib.Core.Path.{ap, ◌∙◌, subst}
use Prim.Native.Nat.{ℕ, suc, ◌-◌, ◌*◌, ◌^◌, ◌≤◌, ◌<◌}
use native.Mathlib.Nat.{not-le_of_lt, lt_of_not-le}
use native.Mathlib.Omega.{arith}
use lib.Pow.{pow-add, pow_mono}
use lib.Count.{count_leading_zeros, leading_top}
use Rattle.wide.specs.Head.{Headed}
use Rattle.wide.proofs.Long.new.Goals as goal
use Rattle.wide.proofs.Long.new.Goals.{Start}

-- of two powers of 2 the larger has the larger exponent
exponents : (i j : ℕ) → 2 ^ i < 2 ^ j → i < j
exponents i j h = lt_of_not-le (λ g. not-le_of_lt h (pow_mono g))

at : (c : Start) → (count_leading_zeros 64 c.args.w ≤ 32) × Headed c.args.w (32 - count_leading_zeros 64 c.args.w)
at c =
    let w = c.args.w in
    let zeros = count_leading_zeros 64 w in
    let top = leading_top 64 w (omega arith) c.ranges.w.fits in
    let over : 32 < suc top.0 = exponents 32 (suc top.0) (omega (arith, top.3)) in
    let under : top.0 < 62 = exponents top.0 62 (omega (arith, top.2)) in
    let few : zeros ≤ 32 = omega (arith, top.1) in
    let least : 2 ^ 31 * 2 ^ (32 - zeros) ≤ w = subst (λ (x : ℕ). x ≤ w) (ap (λ (j : ℕ). 2 ^ j) (omega (arith, top.1)) ∙ pow-add 2 31 (32 - zeros)) top.2 in
    let below : w < 2 ^ 32 * 2 ^ (32 - zeros) = subst (λ (x : ℕ). w < x) (ap (λ (j : ℕ). 2 ^ j) (omega (arith, top.1)) ∙ pow-add 2 32 (32 - zeros)) top.3 in
    (few, record { few = omega (arith, top.1); least = least; below = below; bound = c.requires.1 })

pub overflow_sub-result : goal.overflow_sub-result
overflow_sub-result c = omega (arith, (at c).0)

pub invariant_of-result : goal.invariant_of-result
invariant_of-result c = record { positive = omega arith; headed = (at c).1 }

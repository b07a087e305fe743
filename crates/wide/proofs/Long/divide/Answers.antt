-- `wide::Long::divide` meets its contract: by the law of the guess, and that of going back by what is lacking. Assumes nothing.
use mathlib.Core.Path.{◌≡◌}
use Prim.Native.Nat.{ℕ, ◌+◌, ◌*◌, ◌/◌, ◌%◌, ◌^◌, ◌≤◌, ◌<◌}
use native.Mathlib.Nat.{mod-lt, mul-le-mul_right, le-div_iff_mul-le}
use native.Mathlib.Omega.{arith}
use lib.Pow.{pow_pos}
use Rattle.wide.specs.Head.{Headed}
use Rattle.wide.proofs.Guess.{Guess, guess, Back, back, few}
use Rattle.wide.proofs.Long.divide.Goals as goal
use Rattle.wide.proofs.Long.divide.Goals.{After-lacking-over, After-lower}

-- what is cut off is little for digits of 31 bits
tail-little : {w cut : ℕ} → Headed w cut → 2 ^ 31 * (w % 2 ^ cut) ≤ w / 2 ^ cut * 2 ^ cut
tail-little {w} {cut} h =
    let head : 2 ^ 31 ≤ w / 2 ^ cut = (le-div_iff_mul-le {k = 2 ^ cut} {x = 2 ^ 31} {y = w} (pow_pos cut)).1 h.least in
    omega (arith, mod-lt w (pow_pos cut), mul-le-mul_right (2 ^ cut) head)

by_head : {w cut high low : ℕ} → Headed w cut → low < 2 ^ cut → high * 2 ^ cut + low < 2 * w * 2 ^ 31 → (head left tail : ℕ)
    → head ≡ w / 2 ^ cut → left ≡ high % head * 2 ^ cut → tail ≡ w % 2 ^ cut → Guess high low w (2 ^ cut) head left tail
by_head {w} {cut} {high} {low} h small below head left tail =
    let least : 2 ^ cut ≤ w = omega (arith, h.least) in
    guess high low w (2 ^ cut) head left tail (pow_pos cut) least small (few high low w (2 ^ 31) (2 ^ cut) (pow_pos cut) below (tail-little h))

-- the law of the guess, once the program has its numbers
known : (c : After-lower) → let a = c.args in Guess a.n.high a.n.low a.self.w (2 ^ a.self.cut) c.upper-head.result c.raised.result c.lower.result
known c = by_head c.args.self.headed c.requires.0 c.requires.1 _ _ _ c.upper-head.ensures c.raised.ensures c.lower.ensures

known-back : (c : After-lacking-over) → let a = c.args in let g = a.n.high / c.upper-head.result in
    Back (a.n.high * 2 ^ a.self.cut + a.n.low) (g * c.lower.result) g (c.raised.result + a.n.low) a.self.w c.lacking-over.result
known-back c = back _ _ _ _ _ c.lacking-over.result (known c.before).whole c.lacking-over.ensures.1 c.lacking-over.ensures.2

pub lacking-over-requires : goal.lacking-over-requires
lacking-over-requires c = let k = known c in (k.below, k.little)

pub overflow_sub-result : goal.overflow_sub-result
overflow_sub-result c = (known-back c).within

pub returns : goal.returns
returns c = (known-back (goal.at.returns c).After-lacking-over).divided

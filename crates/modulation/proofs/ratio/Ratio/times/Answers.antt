-- `modulation::ratio::Ratio::times` meets its contract. Assumes nothing.
use mathlib.Core.Path.{refl, sym, ap, ◌∙◌}
use Prim.Native.Nat.{ℕ, ◌+◌, ◌*◌, ◌/◌, ◌%◌, ◌≤◌}
use native.Mathlib.Nat.{mul-le-mul, mod-lt, le_of_lt, div-add-mod'}
use native.Mathlib.Omega.{arith}
use Rattle.wide.proofs.Step.{at-most}
use Rattle.modulation.proofs.Digits.{by_digits}
use Rattle.modulation.proofs.ratio.Ratio.times.Goals as goal

pub overflow_add-behind : goal.overflow_add-behind
overflow_add-behind c =
    let t = c.args.t in let r = c.args.self in
    let u : t / 1048576 ≤ 1048576 = (let a = c.requires in omega arith) in
    let v : t % 1048576 ≤ 1048576 = omega arith in
    let low : r.low ≤ 4398046511104 = rw r.next (at-most 4398046511104 (r.part * 1048576 % r.whole) r.whole (le_of_lt (mod-lt (r.part * 1048576) r.some))) in
    let middle : r.middle ≤ 4398046511104 = rw r.both (at-most 4398046511104 r.part r.whole r.at_most_one) in
    let a = mul-le-mul u low in let b = mul-le-mul v middle in
    omega arith

pub returns-then-behind-upper : goal.returns-then-behind-upper
returns-then-behind-upper c = let t = c.args.t in let r = c.args.self in
    sym (ap (λ (x : ℕ). x * r.part / r.whole) (sym (div-add-mod' t 1048576))
    ∙ by_digits r.part r.whole (t / 1048576) (t % 1048576) r.high r.low r.middle (t / 1048576 * r.low + t % 1048576 * r.middle) r.some r.first r.next r.both refl c.if-behind-upper.true)

-- `modulation::modulation_at` meets its contract. Assumes nothing.
use mathlib.Core.Path.{◌≡◌}
use Prim.Native.Nat.{◌+◌, ◌-◌}
use lib.ListN.{length, take, drop, get_or, length-drop}
use lib.Seq.{take_all}
use native.Mathlib.Nat.{le_of_eq}
use native.Mathlib.Omega.{arith}
use Rattle.lists.specs.Lists.{sum}
use Rattle.lists.proofs.Sums.{part-le-sum, sum_split}
use Rattle.modulation.specs.Totals.{modulation_of}
use Rattle.modulation.proofs.Profile.{sum-next}
use Rattle.modulation.proofs.modulation_at.Goals as goal
use Rattle.modulation.proofs.modulation_at.Goals.{After-sum_of}

totals : (c : After-sum_of)
    → let l = c.args.profile.now in let k = c.args.period in
    (c.sum_of-before.result ≡ sum (take (k - 1) l))
    × (c.sum_of-before.result + get_or l (k - 1) 0 ≡ sum (take k l))
    × (c.sum_of-before.result + get_or l (k - 1) 0 + c.sum_of.result ≡ sum l)
totals c =
    let l = c.args.profile.now in let k = c.args.period in
    let a = sum-next l k c.requires.le_period.0 c.requires.le_period.1 in let b = sum_split l k in
    let d = c.sum_of-before.ensures in
    let e = rw (take_all (length l - k) (drop k l) (le_of_eq (length-drop k l))) at c.sum_of.ensures in
    (omega arith, omega arith, omega arith)

pub overflow_add-upto : goal.overflow_add-upto
overflow_add-upto c = let l = c.args.profile.now in let k = c.args.period in
    let a = sum-next l k c.requires.le_period.0 c.requires.le_period.1 in let b = part-le-sum l 0 k in
    let d = c.sum_of-before.ensures in
    omega arith

pub overflow_add-whole : goal.overflow_add-whole
overflow_add-whole c = let a = totals c in omega arith

pub returns : goal.returns
unfolding modulation_of
returns c = let a = totals (goal.at.returns c).After-sum_of in λ i. record { before = a.0 i; upto = a.1 i; whole = a.2 i }

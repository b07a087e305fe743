-- `sharing::share_into` meets its contract. The invariant: c is the running total, before is floor(t × c / w), and the parts of the weights that
-- are left are still to be written. Assumes nothing.
use mathlib.Core.Path.{refl, ◌∙◌}
use Prim.Native.Nat.{◌+◌, ◌≤◌}
use native.Mathlib.Omega.{arith}
use lib.ListN.{get_or}
use Rattle.lists.specs.Lists.{sum}
use Rattle.lists.proofs.Loops.{adding_le, adding_next, filling_more, filled, drop_more, rest_more, rest-none}
use Rattle.sharing.specs.Sharing.{parts, share}
use Rattle.sharing.proofs.Sharing.{parts-cons, parts-nil}
use Rattle.sharing.proofs.share_into.Goals as goal
use Rattle.sharing.proofs.share_into.Goals.{In-loop-i}

-- what a turn knows: the running total with one weight more stays within the sum
more : (c : In-loop-i)
    → let ws = c.args.weights.figures.now in c.loop-i.c + get_or ws c.loop-i.i 0 ≤ sum ws
more c = adding_le c.loop-i.invariant.1 (drop_more _ _ 0 c.loop-i-test.true)

pub mul_div-up_to-requires : goal.mul_div-up_to-requires
mul_div-up_to-requires c = omega (arith, more (goal.at.mul_div-up_to-requires c).In-loop-i)

pub loop-i-preserved : goal.loop-i-preserved
loop-i-preserved c = let inv = c.loop-i.invariant in
    let below = c.loop-i-test.true in (
      c.mul_div-up_to.ensures,
      adding_next inv.1 below refl,
      filling_more inv.2 below (rest_more (parts _ _ _) _ _ 0 below ∙ parts-cons _ _ _ _ _) (rw (c.mul_div-up_to.ensures, inv.0)),
    )

pub returns : goal.returns
unfolding share
returns c = rw (← c.args.weights.adds)
    (filled c.loop-i.invariant.2 c.loop-i-test.false (rest-none (parts _ _ _) _ _ c.loop-i-test.false ∙ parts-nil _ _ _))

pub overflow_add-c : goal.overflow_add-c
overflow_add-c c = record { fits = omega (arith, more (goal.at.overflow_add-c c).In-loop-i) }

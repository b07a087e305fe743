-- `lists::sum_of` meets its contract. The invariant: total is the sum of the figures passed, and below the limit. Assumes nothing.
use native.Mathlib.Omega.{arith}
use lib.ListN.{drop_of_length-le}
use Rattle.lists.proofs.Loops.{loops, adding_le, added, drop_more}
use Rattle.lists.proofs.sum_of.Goals as goal

pub returns-then-total-figure : goal.returns-then-total-figure
returns-then-total-figure c = omega (arith, adding_le c.loop-figure.invariant.1 (drop_more _ _ 0 c.loop-figure-test.true))

pub returns : goal.returns
returns c = omega (arith, added c.loop-figure.invariant.1 (drop_of_length-le _ c.loop-figure-test.false))

pub loop-figure-preserved : goal.loop-figure-preserved
loop-figure-preserved c = search loops

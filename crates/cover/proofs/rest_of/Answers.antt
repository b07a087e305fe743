-- `cover::rest_of` meets its contract: no row is above what is left, whose sum fits. Assumes nothing.
use native.Mathlib.Omega.{arith}
use Rattle.lists.proofs.Sums.{at-le-sum}
use Rattle.cover.proofs.rest_of.Goals as goal

pub row_sum-requires : goal.row_sum-requires
row_sum-requires c = let a = c.requires.0 0 in let b = at-le-sum c.args.left 0 in (omega arith, omega arith)

pub row_sum-requires-2 : goal.row_sum-requires-2
row_sum-requires-2 c = let a = c.requires.0 1 in let b = at-le-sum c.args.left 1 in (omega arith, omega arith)

pub row_sum-requires-3 : goal.row_sum-requires-3
row_sum-requires-3 c = let a = c.requires.0 2 in let b = at-le-sum c.args.left 2 in (omega arith, omega arith)

pub row_sum-requires-4 : goal.row_sum-requires-4
row_sum-requires-4 c = let a = c.requires.0 3 in let b = at-le-sum c.args.left 3 in (omega arith, omega arith)

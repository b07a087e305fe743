-- `ledger::column_sum` meets its contract: what is summed, with what is left of the column, is the column's sum. Assumes nothing.
use mathlib.Core.Path.{ap}
use Prim.Native.Nat.{ℕ, ◌+◌}
use native.Mathlib.Omega.{arith}
use Rattle.lists.proofs.Loops.{adding, adding_more, adding_le, added}
use Rattle.lists.proofs.Rows.{stride, stride_more, stride_none, column-within}
use Rattle.ledger.specs.Ledger.{kwh_bound}
use Rattle.ledger.proofs.column_sum.Goals as goal

pub loop-figure-init : goal.loop-figure-init
loop-figure-init c = rw (← stride) adding

pub overflow_add-total : goal.overflow_add-total
overflow_add-total c = omega (arith, c.in-Some.ensures.lookup.3.1 0, adding_le c.loop-figure.invariant (stride_more _ c.requires.0 _ _ 0 c.in-Some.ensures.lookup.3.0), column-within c.args.width c.args.start c.args.figures.now kwh_bound _ c.requires.3 c.requires.2)

pub loop-figure-preserved : goal.loop-figure-preserved
loop-figure-preserved c =
    let more = stride_more _ c.requires.0 _ _ 0 c.in-Some.ensures.lookup.3.0 in
    adding_more c.loop-figure.invariant more (ap (λ (x : ℕ). c.loop-figure.total + x) (c.in-Some.ensures.lookup.3.1 0))

pub returns : goal.returns
returns c = added c.loop-figure.invariant (stride_none _ _ _ c.in_default.ensures.lookup.3)

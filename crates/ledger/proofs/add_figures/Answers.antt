-- `ledger::add_figures` meets its contract: each figure is replaced by its sum. Assumes nothing.
use mathlib.Core.Path.{refl}
use Prim.Native.Nat.{◌+◌}
use native.Mathlib.Omega.{arith}
use Rattle.lists.proofs.Loops.{updating_more}
use Rattle.ledger.proofs.Lists.{joined_all}
use Rattle.ledger.proofs.add_figures.Goals as goal

pub loop-i-preserved : goal.loop-i-preserved
loop-i-preserved c = updating_more c.loop-i.invariant (omega arith) refl

pub returns : goal.returns
returns c = joined_all ◌+◌ 0 c.args.more.now c.loop-i.invariant (omega arith) c.requires.same

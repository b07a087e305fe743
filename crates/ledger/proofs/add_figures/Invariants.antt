use Prim.Native.Nat.{◌+◌}
use Rattle.ledger.proofs.Lists.{Joining}
use Rattle.ledger.proofs.add_figures.Given as goal

abbrev pub invariant-loop-i : goal.invariant-loop-i
invariant-loop-i l = Joining ◌+◌ 0 l.more l.i l.initial.figures l.figures

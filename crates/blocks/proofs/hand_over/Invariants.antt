use Rattle.blocks.proofs.Handed.{Handing}
use Rattle.blocks.proofs.hand_over.Given as goal

abbrev pub invariant-loop-i : goal.invariant-loop-i
invariant-loop-i l = Handing l.column l.part l.initial.want l.initial.figures l.want l.figures l.i

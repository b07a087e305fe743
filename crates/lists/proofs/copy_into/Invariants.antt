use Rattle.std.proofs.Common.{◌++◌, length, drop}
use Rattle.lists.proofs.Loops.{Filling}
use Rattle.lists.proofs.copy_into.Given as goal

abbrev pub invariant-loop-i : goal.invariant-loop-i
invariant-loop-i g l = Filling (length l.figures) l.i l.initial.list (l.figures ++ drop (length l.figures) l.initial.list) l.list (drop l.i l.figures)

use Prim.Native.Nat.{◌^◌, ◌<◌}
use lib.ListN.{drop}
use Rattle.lists.proofs.Loops.{Adding}
use Rattle.lists.proofs.sum_of.Given as goal

abbrev pub invariant-loop-figure : goal.invariant-loop-figure
invariant-loop-figure l = (l.total < 2 ^ 62) × Adding l.figures (drop l.figure-index l.figures) l.total

use Prim.Native.Nat.{◌-◌}
use lib.ListN.{length, drop}
use Rattle.lists.specs.Columns.{column}
use Rattle.lists.proofs.Loops.{Adding}
use Rattle.ledger.proofs.column_sum.Given as goal

abbrev pub invariant-loop-figure : goal.invariant-loop-figure
invariant-loop-figure l = Adding (column l.width l.start l.figures) (column l.width 0 (drop l.i l.figures)) l.total

abbrev pub decreases-loop-figure : goal.decreases-loop-figure
decreases-loop-figure l = length l.figures - l.i

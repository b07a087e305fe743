use Prim.Native.Nat.{◌-◌}
use lib.ListN.{length, drop}
use Rattle.lists.specs.Columns.{column}
use Rattle.lists.proofs.Loops.{Passing}
use Rattle.signed.specs.Figures.{is_within}
use Rattle.ledger.specs.Ledger.{accounts_width}
use Rattle.ledger.proofs.column_within.Given as goal

abbrev pub invariant-loop-figure : goal.invariant-loop-figure
invariant-loop-figure l = Passing (is_within l.bound) (column accounts_width l.start l.accounts) (column accounts_width 0 (drop l.i l.accounts))

abbrev pub decreases-loop-figure : goal.decreases-loop-figure
decreases-loop-figure l = length l.accounts - l.i

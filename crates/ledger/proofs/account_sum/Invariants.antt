use Prim.Native.Nat.{◌-◌}
use lib.ListN.{length}
use Rattle.ledger.proofs.Sums.{Totalling}
use Rattle.ledger.proofs.account_sum.Given as goal

abbrev pub invariant-loop-figure : goal.invariant-loop-figure
invariant-loop-figure l = Totalling l.start l.accounts l.i l.total

abbrev pub decreases-loop-figure : goal.decreases-loop-figure
decreases-loop-figure l = length l.accounts - l.i

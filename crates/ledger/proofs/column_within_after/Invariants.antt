use lib.ListN.{drop}
use Rattle.lists.proofs.Loops.{Passing}
use Rattle.signed.specs.Figures.{is_within}
use Rattle.ledger.proofs.Posting.{after}
use Rattle.ledger.proofs.column_within_after.Given as goal

abbrev pub invariant-loop-i : goal.invariant-loop-i
invariant-loop-i l = Passing (is_within l.bound) (after l.accounts l.nets l.rate l.start) (drop l.i (after l.accounts l.nets l.rate l.start))

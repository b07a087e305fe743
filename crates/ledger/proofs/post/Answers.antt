-- `ledger::post` meets its contract: both lists are added to. Assumes nothing.
use Rattle.ledger.specs.Ledger.{added}
use Rattle.ledger.proofs.post.Goals as goal

pub returns : goal.returns
unfolding added
returns c = record {
  allotted = c.add_figures.ensures;
  accounts = c.add_accounts.ensures;
}

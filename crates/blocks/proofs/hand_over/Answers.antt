-- `blocks::hand_over` meets its contract. Assumes nothing.
use Rattle.blocks.proofs.Handed.{handings}
use Rattle.blocks.proofs.hand_over.Goals as goal

pub loop-i-preserved : goal.loop-i-preserved
loop-i-preserved c = search handings

pub returns-clause-want_after : goal.returns-clause-want_after
returns-clause-want_after c = search handings

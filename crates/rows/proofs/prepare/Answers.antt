-- `rows::prepare` meets its contract: no figure is above its sum. Assumes nothing.
use Rattle.lists.proofs.Bounds.{within-sum}
use Rattle.rows.proofs.prepare.Goals as goal

pub nets_into-requires-clause-within : goal.nets_into-requires-clause-within
nets_into-requires-clause-within c = let s = c.requires.metered_bound in (within-sum _ _ s.0, within-sum _ _ s.1, within-sum _ _ s.2)

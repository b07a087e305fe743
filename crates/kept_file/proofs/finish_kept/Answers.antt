-- `finish_kept` meets its contract. Assumes nothing.
use Rattle.kept_file.proofs.KeptFiles.{front_finished}
use Rattle.kept_file.proofs.finish_kept.Goals as goal

pub returns : goal.returns
returns c = front_finished c.in-Some.ensures.cases.enough c.into.ensures c.in-Some.ensures.cases.same c.into-2.ensures c.finish_any.ensures

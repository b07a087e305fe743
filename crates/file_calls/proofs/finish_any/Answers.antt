-- `file_calls::finish_any` meets its contract. Assumes nothing.
use mathlib.Core.Path.{refl}
use Rattle.file_calls.proofs.Checked.{finish_good}
use Rattle.file_calls.proofs.finish_any.Goals as goal

pub finish-requires-clause-longest_in_bounds : goal.finish-requires-clause-longest_in_bounds
finish-requires-clause-longest_in_bounds g c = (finish_good c.in_ok-ask_finish.ensures refl).0

pub finish-requires-clause-valid : goal.finish-requires-clause-valid
finish-requires-clause-valid g c = (finish_good c.in_ok-ask_finish.ensures refl).1

-- `months::iolwarch_settle` meets its contract: by those of `From`, `Month::settle` and `settled_kept`. Assumes nothing.
use Rattle.kept_month.proofs.Kept.{settles}
use Rattle.recorder.proofs.months.iolwarch_settle.Goals as goal

pub returns : goal.returns
returns c = settles _ _ _ _ _ _ _ _ c.from-after.ensures c.settle-answer.ensures c.settled_kept.ensures

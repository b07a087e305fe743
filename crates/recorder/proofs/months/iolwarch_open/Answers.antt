-- `months::iolwarch_open` meets its contract: by those of `From`, `Month::open` and `ended_kept`. Assumes nothing.
use Rattle.kept_month.proofs.Kept.{opens}
use Rattle.recorder.proofs.months.iolwarch_open.Goals as goal

pub returns : goal.returns
returns c = opens _ _ _ _ _ _ c.from-after.ensures c.open-answer.ensures c.ended_kept.ensures

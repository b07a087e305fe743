-- `months::iolwarch_statement` meets its contract: by those of `From`, `Month::statement` and `stated_kept`. Assumes nothing.
use Rattle.kept_month.proofs.Kept.{states}
use Rattle.recorder.proofs.months.iolwarch_statement.Goals as goal

pub returns : goal.returns
returns c = states _ _ _ _ _ c.statement-answer.result c.from.ensures c.statement-answer.ensures c.stated_kept.ensures

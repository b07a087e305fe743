-- `months::iolwarch_statement_size` meets its contract: by those of `From`, `Month::statement_size` and `sized_kept`. Assumes nothing.
use Rattle.kept_month.proofs.Kept.{sizes}
use Rattle.recorder.proofs.months.iolwarch_statement_size.Goals as goal

pub returns : goal.returns
returns c = sizes _ _ _ c.statement_size-answer.result c.from.ensures c.statement_size-answer.ensures c.sized_kept.ensures

-- `finishing::finish` meets its contract. Assumes nothing.
use borrow.Author.Rules.{rules}
use Rattle.month_file.proofs.Ends.{finishes_refused, finishes}
use Rattle.month_file.proofs.finishing.finish.Goals as goal

pub returns-then-eq : goal.returns-then-eq
returns-then-eq g c = finishes_refused (c.at_end-end.ensures _ c.requires.valid) (search rules) c.write_refusal.ensures

pub returns : goal.returns
returns g c = finishes (c.at_end-end.ensures _ c.requires.valid) c.write_month.ensures

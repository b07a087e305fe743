-- `finishing::at_end` meets its contract. Assumes nothing.
use borrow.Author.Rules.{rules}
use Rattle.month_file.proofs.Ends.{ended-refused, ended-line, ended-early, ended-short, ended-settled}
use Rattle.month_file.proofs.finishing.at_end.Goals as goal
use Rattle.month_file.proofs.finishing.at_end.Goals.{then-ne-via-then-ne, then-ne-via-else-ne+then-month}

pub returns-then-eq : goal.returns-then-eq
returns-then-eq c k v = ended-refused v c.args.line.now (search rules)

pub returns-then-length-ne0 : goal.returns-then-length-ne0
returns-then-length-ne0 c k v = ended-line v c.args.line.now (search rules) c.requires.1 c.if-length-ne0.true _ c.unended.ensures

pub returns-then-ne : goal.returns-then-ne
returns-then-ne c k v = elim c.then-ne.branch [
  | then-ne-via-then-ne w ↦ ended-early v c.args.line.now (search rules) c.if-length-ne0.false (search rules) _ c.refused.ensures
  | then-ne-via-else-ne+then-month w ↦ ended-short v c.args.line.now (search rules) c.if-length-ne0.false (search rules) w.if-month.true _ c.refused.ensures
]

pub returns : goal.returns
returns c k v = ended-settled v c.args.line.now (search rules) c.if-length-ne0.false (search rules) c.if-month.false

-- `feeding::feed` meets its contract. Assumes nothing.
use borrow.Author.Rules.{rules}
use Rattle.month_file.proofs.Parts.{feeding_line}
use Rattle.month_file.proofs.feeding.feed.Goals as goal

pub loop-next-preserved : goal.loop-next-preserved
loop-next-preserved g c = (feeding_line c.loop-next.invariant.0 (c.in-Some.ensures _ c.loop-next.file.valid) c.take_line.ensures.moved, search rules)

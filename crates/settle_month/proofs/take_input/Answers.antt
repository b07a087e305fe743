-- `take_input` meets its contract: what was fed so far are the bytes that the reader gave so far. Assumes nothing.
use borrow.Author.Rules.{rules}
use Rattle.settle_month.proofs.Parts.{none_taken, taken_more}
use Rattle.settle_month.proofs.take_input.Goals as goal

pub loop-init : goal.loop-init
loop-init g c = (none_taken, search rules)

pub loop-preserved : goal.loop-preserved
loop-preserved g c = (taken_more c.loop.invariant.0 c.in-Ok.ensures.bytes.0 c.take_part.ensures.fed, search rules)

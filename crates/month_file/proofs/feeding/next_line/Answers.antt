-- `feeding::next_line` meets its contract. Assumes nothing.
use native.Mathlib.Omega.{arith}
use borrow.Author.Rules.{rules}
use Rattle.month_file.proofs.Parts.{skipped, to_the_end, no_room, line-ends}
use Rattle.month_file.proofs.feeding.next_line.Goals as goal

pub returns-then-eq : goal.returns-then-eq
returns-then-eq c k v = skipped v c.args.line.now c.args.part.now c.args.from (search rules)

pub returns-then-end-part : goal.returns-then-end-part
returns-then-end-part c k v = to_the_end v _ _ _ (search rules) c.collect-end.ensures c.if-end-part.true

pub returns-then-part-end-ne10 : goal.returns-then-part-end-ne10
returns-then-part-end-ne10 c k v = no_room v _ _ _ (search rules) c.collect-end.ensures c.if-end-part.false (omega (arith, c.requires.1, c.collect-end.auto.line)) c.if-part-end-ne10.true _ c.refused.ensures

pub returns : goal.returns
returns c k v = line-ends v _ _ _ (search rules) c.collect-end.ensures c.if-end-part.false c.if-part-end-ne10.false

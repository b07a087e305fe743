-- `writing::write_plant_lines` meets its contract. The invariant: the lines of the rows from i on are left to write. Assumes nothing.
use Rattle.signed.proofs.Machine.{read_is}
use Rattle.statement.proofs.Text.{lines_all, lines_more, lines_none}
use Rattle.statement.proofs.Parts.{left-whole, left-room, left-more, left-none}
use Rattle.statement.proofs.writing.write_plant_lines.Goals as goal

pub loop-i-init : goal.loop-i-init
loop-i-init c = left-whole c.requires.room (lines_all _ _ _)

pub write_plant_line-end-requires : goal.write_plant_line-end-requires
write_plant_line-end-requires c = left-room c.loop-i.invariant _ _ (lines_more _ _ _ _ c.loop-i-test.true (read_is _ c.net-1.given) (read_is _ c.money-1.given))

pub loop-i-preserved : goal.loop-i-preserved
loop-i-preserved c = left-more c.loop-i.invariant _ _ (lines_more _ _ _ _ c.loop-i-test.true (read_is _ c.net-1.given) (read_is _ c.money-1.given)) c.write_plant_line-end.ensures

pub returns : goal.returns
returns c = left-none c.loop-i.invariant (lines_none _ _ _ _ c.loop-i-test.false)

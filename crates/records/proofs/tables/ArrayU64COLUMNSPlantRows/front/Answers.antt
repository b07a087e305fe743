-- `tables`, C's columns: `front` meets its contract, a row a turn. Assumes nothing.
use Rattle.std.proofs.Common.{arith}
use Rattle.lists.proofs.Loops.{tabling_more, tabled}
use Rattle.records.specs.Records.{row_at}
use Rattle.records.proofs.Whole.{length-whole, front_whole}
use Rattle.records.proofs.tables.ArrayU64COLUMNSPlantRows.front.Goals as goal

pub row_at-requires : goal.row_at-requires
row_at-requires c = (omega (arith, c.told-self), omega (arith, c.requires.0, c.loop-i-test.true, length-whole c.args.self.now c.told-self))

pub loop-i-preserved : goal.loop-i-preserved
loop-i-preserved c = tabling_more (row_at c.args.self.now) c.loop-i.invariant (omega (arith, c.loop-i-test.true)) c.row_at.ensures

pub returns : goal.returns
returns c =
    front_whole c.args.self.now c.told-self c.args.n c.args.room.now
    (tabled (row_at c.args.self.now) c.loop-i.invariant (omega (arith, c.loop-i-test.false))) c.requires.0

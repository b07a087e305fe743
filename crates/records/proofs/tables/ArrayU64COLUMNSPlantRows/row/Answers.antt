-- `tables`, C's columns: `row` meets its contract. Assumes nothing.
use Rattle.std.proofs.Common.{arith, ◌∙◌}
use Rattle.records.proofs.Whole.{length-whole, row_whole}
use Rattle.records.proofs.tables.ArrayU64COLUMNSPlantRows.row.Goals as goal

pub row_at-requires : goal.row_at-requires
row_at-requires c = (omega (arith, c.told-self), omega (arith, c.requires, length-whole c.args.self.now c.told-self))

pub returns : goal.returns
returns c = c.row_at.ensures ∙ row_whole c.args.self.now c.told-self c.args.i c.requires

-- `tables`, C's columns: `put` meets its contract. Assumes nothing.
use Rattle.std.proofs.Common.{arith}
use Rattle.records.proofs.Whole.{length-whole, put_whole}
use Rattle.records.proofs.tables.ArrayU64COLUMNSPlantTable.put.Goals as goal

pub put_row-requires : goal.put_row-requires
put_row-requires c = (omega (arith, c.told-self), omega (arith, c.requires, length-whole c.args.self.now c.told-self))

pub returns-clause-placed : goal.returns-clause-placed
returns-clause-placed c = put_whole c.args.self.now c.told-self c.args.i c.args.plant c.requires c.put_row.ensures

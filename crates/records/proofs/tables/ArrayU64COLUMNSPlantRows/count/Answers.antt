-- `tables`, C's columns: `count` meets its contract. Assumes nothing.
use Rattle.std.proofs.Common.{sym}
use Rattle.records.proofs.Whole.{length-whole}
use Rattle.records.proofs.tables.ArrayU64COLUMNSPlantRows.count.Goals as goal

pub returns : goal.returns
returns c = sym (length-whole c.args.self.now c.told-self)

-- `records::put_plants` meets its contract: a turn writes the next row. Assumes nothing.
use Rattle.std.proofs.Common.{◌∙◌}
use Rattle.records.proofs.Rows.{put_more, put_all}
use Rattle.records.proofs.put_plants.Goals as goal

pub loop-i-preserved : goal.loop-i-preserved
loop-i-preserved c = put_more _ _ _ c.loop-i-test.true c.put_row.ensures ∙ c.loop-i.invariant

pub returns : goal.returns
returns c = put_all _ _ _ c.loop-i-test.false ∙ c.loop-i.invariant

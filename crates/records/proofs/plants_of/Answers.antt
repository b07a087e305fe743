-- `records::plants_of` meets its contract: a turn reads the next row. Assumes nothing.
use Rattle.std.proofs.Common.{arith, append-nil, ◌∙◌}
use Rattle.lists.proofs.Loops.{tabling_more, tabled}
use Rattle.records.specs.Records.{row_at, rows_of}
use Rattle.records.proofs.plants_of.Goals as goal

pub loop-i-preserved : goal.loop-i-preserved
loop-i-preserved c = tabling_more (row_at c.args.columns.now) c.loop-i.invariant (omega (arith, c.loop-i-test.true)) c.row_at.ensures

pub returns : goal.returns
unfolding rows_of
returns c = tabled (row_at c.args.columns.now) c.loop-i.invariant (omega arith) ∙ append-nil _

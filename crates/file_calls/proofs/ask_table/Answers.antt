-- `file_calls::ask_table` meets its contract: a turn asks the next row. Assumes nothing.
use Rattle.std.proofs.Common.{arith}
use Rattle.std.proofs.lemmas.Result.{err_from_is_err_and}
use Rattle.file_calls.proofs.Tables.{refused_at, passed, passed_all}
use Rattle.file_calls.proofs.ask_table.Goals as goal

pub returns-in_err-ask_row : goal.returns-in_err-ask_row
returns-in_err-ask_row g c =
    let p = err_from_is_err_and c.from_residual.result c.from_residual.ensures.1 in
    rw (p.1, p.2) (refused_at c.args.rows (g.T.PlantRows.rows c.args.plants.now) c.requires c.loop-i.before c.loop-i.i (omega (arith, c.loop-i-test.true)) c.row-plant.ensures _ c.in_err-ask_row.ensures c.loop-i.invariant)

pub loop-i-preserved : goal.loop-i-preserved
loop-i-preserved g c = passed c.args.rows (g.T.PlantRows.rows c.args.plants.now) c.requires c.loop-i.before c.loop-i.i (omega (arith, c.loop-i-test.true)) c.row-plant.ensures c.in_ok-ask_row.ensures c.loop-i.invariant

pub returns : goal.returns
returns g c = passed_all c.args.rows (g.T.PlantRows.rows c.args.plants.now) c.requires c.loop-i.before c.loop-i.i (omega (arith, c.loop-i-test.false)) c.loop-i.invariant

use mathlib.Core.Path.{◌≡◌}
use lib.ListN.{take, drop}
use Rattle.questions.specs.Questions.{rows_number}
use Rattle.file_calls.proofs.ask_table.Given as goal

abbrev pub invariant-loop-i : goal.invariant-loop-i
invariant-loop-i g l =
    let all = take l.rows (g.T.PlantRows.rows l.plants) in
    rows_number 0 0 all ≡ rows_number l.before.submarket l.before.number (drop l.i all)

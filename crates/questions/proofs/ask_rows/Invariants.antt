use mathlib.Core.Path.{◌≡◌}
use lib.ListN.{drop}
use Rattle.questions.specs.Questions.{rows_number}
use Rattle.questions.proofs.ask_rows.Given as goal

abbrev pub invariant-loop-plant : goal.invariant-loop-plant
invariant-loop-plant l = rows_number 0 0 l.plants ≡ rows_number l.before.submarket l.before.number (drop l.plant-index l.plants)

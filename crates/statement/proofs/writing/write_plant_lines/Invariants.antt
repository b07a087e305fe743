use Rattle.statement.specs.Statement.{plant_lines}
use Rattle.statement.proofs.Text.{lines_from}
use Rattle.statement.proofs.Parts.{Left}
use Rattle.statement.proofs.writing.write_plant_lines.Given as goal

abbrev pub invariant-loop-i : goal.invariant-loop-i
invariant-loop-i l = Left (plant_lines l.plants l.ledger.allotted.now l.ledger.accounts.now) l.at l.initial.text l.end l.text (lines_from l.plants l.ledger.allotted.now l.ledger.accounts.now l.i)

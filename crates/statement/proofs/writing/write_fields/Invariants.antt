use lib.ListN.{drop}
use Rattle.statement.specs.Writing.{fields_text}
use Rattle.statement.proofs.Parts.{Left}
use Rattle.statement.proofs.writing.write_fields.Given as goal

abbrev pub invariant-loop-figure : goal.invariant-loop-figure
invariant-loop-figure l = Left (fields_text l.figures) l.at l.initial.text l.end l.text (fields_text (drop l.figure-index l.figures))

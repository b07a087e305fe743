use Rattle.lists.proofs.Loops.{Tabling}
use Rattle.records.specs.Records.{row_at}
use Rattle.records.proofs.plants_of.Given as goal

abbrev pub invariant-loop-i : goal.invariant-loop-i
invariant-loop-i l = Tabling (row_at l.columns) 512 l.i l.initial.plant-items l.plant-items

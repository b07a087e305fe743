use Rattle.lists.proofs.Loops.{Tabling}
use Rattle.records.specs.Records.{row_at}
use Rattle.records.proofs.tables.ArrayU64COLUMNSPlantRows.front.Given as goal

abbrev pub invariant-loop-i : goal.invariant-loop-i
invariant-loop-i l = Tabling (row_at l.self) l.n l.i l.initial.room l.room

use Rattle.lists.specs.Columns.{◌⊓◌, within, four, by_row}
use Rattle.plants.specs.Plants.{submarkets_of}
use Rattle.rows.proofs.Fours.{Starting}
use Rattle.rows.proofs.start_into.Given as goal

abbrev pub invariant-loop-i : goal.invariant-loop-i
invariant-loop-i l = Starting (by_row 0 (four (λ s. within s (submarkets_of l.plants) (l.metered ⊓ l.covered)))) l.allotment l.i

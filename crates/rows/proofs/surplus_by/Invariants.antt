use Rattle.lists.specs.Columns.{◌⊖◌}
use Rattle.plants.specs.Plants.{submarkets_of}
use Rattle.rows.proofs.Submarkets.{Totalling}
use Rattle.rows.proofs.surplus_by.Given as goal

abbrev pub invariant-loop-i : goal.invariant-loop-i
invariant-loop-i l = Totalling (submarkets_of l.plants) (l.metered ⊖ l.covered) l.i l.surplus

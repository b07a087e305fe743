use mathlib.Core.Path.{◌≡◌}
use mathlib.Core.List.{map}
use lib.ListN.{take}
use Rattle.modulation.specs.Guarantee.{guarantee_with}
use Rattle.modulation.specs.Totals.{part_by}
use Rattle.modulation.proofs.guarantees_into.Given as goal

abbrev pub invariant-loop-i : goal.invariant-loop-i
invariant-loop-i l = take l.i l.out ≡ map (guarantee_with (part_by l.ratios)) (take l.i l.plants)

-- `modulation::guarantees_into` meets its contract. Assumes nothing.
use mathlib.Core.Path.{sym, ap, ◌∙◌}
use mathlib.Core.List.{map}
use native.Mathlib.Omega.{arith}
use lib.Seq.{take_all}
use Rattle.sharing.specs.Sharing.{part_between}
use Rattle.modulation.specs.Guarantee.{guarantee_with}
use Rattle.modulation.specs.Totals.{part_by}
use Rattle.modulation.proofs.Profile.{limits-at}
use Rattle.modulation.proofs.guarantees_into.Goals as goal

pub guaranteed-requires : goal.guaranteed-requires
guaranteed-requires c = limits-at c.requires.within c.loop-i.i

pub returns : goal.returns
returns c =
    let e = c.new-ratios.ensures in let plants = c.args.plants.now in
    sym (take_all c.loop-i.i c.loop-i.out (omega arith)) ∙ c.loop-i.invariant ∙ ap (map (guarantee_with (part_by c.new-ratios.result))) (take_all c.loop-i.i plants (omega arith))
    ∙ (λ k. map (guarantee_with (λ q. part_between q (e.2 k) (e.0 k) (e.1 k))) plants)

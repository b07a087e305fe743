-- `modulation::guarantees_of` meets its contract. Assumes nothing.
use mathlib.Core.Path.{◌≡◌, ◌∙◌}
use mathlib.Core.List.{map}
use native.Mathlib.Omega.{arith}
use Rattle.modulation.specs.Guarantee.{guarantee_in}
use Rattle.modulation.proofs.Profile.{ordered, modulates, guarantees_are, guarantees-le}
use Rattle.modulation.proofs.guarantees_of.Goals as goal

pub guarantees_into-requires-clause-ordered : goal.guarantees_into-requires-clause-ordered
guarantees_into-requires-clause-ordered c =
    let k = c.requires.le_period in
    rw c.modulation_at.ensures (ordered c.args.profile.now c.args.period k.2 k.3)

pub returns : goal.returns
returns c =
    let k = c.requires.le_period in
    let is : c.guarantees_into.new.out ≡ map (guarantee_in c.args.profile.now c.args.period) c.args.plants.now =
    c.guarantees_into.ensures ∙ guarantees_are c.args.profile.now c.args.period k.0 k.1 (modulates c.modulation_at.ensures) c.args.plants.now in
    let small = guarantees-le c.args.profile.now c.args.period k.0 k.1 c.args.plants.now c.requires.a_len.1 c.requires.within in
    record { a_after = is; value = c.sum_of.ensures ∙ rw is (omega arith) }

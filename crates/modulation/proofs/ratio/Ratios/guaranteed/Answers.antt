-- `modulation::ratio::Ratios::guaranteed` meets its contract. Assumes nothing.
use Prim.Native.Nat.{◌≤◌}
use native.Mathlib.Nat.{mul-le-mul}
use native.Mathlib.Omega.{arith}
use Rattle.modulation.proofs.Digits.{scaled}
use Rattle.modulation.proofs.Profile.{part-le}
use Rattle.modulation.proofs.ratio.Ratios.guaranteed.Goals as goal

pub overflow_mul-result : goal.overflow_mul-result
overflow_mul-result c =
    let part : c.modulated-part.result ≤ c.args.plant.guarantee = rw c.modulated-part.ensures (part-le c.args.plant.guarantee _ _ _ c.args.self.upto.at_most_one) in
    omega (arith, mul-le-mul (scaled part c.requires.1) c.requires.2)

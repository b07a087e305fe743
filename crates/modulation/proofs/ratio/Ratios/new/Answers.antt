-- `modulation::ratio::Ratios::new` meets its contract. Assumes nothing.
use native.Mathlib.Omega.{arith}
use Rattle.modulation.proofs.ratio.Ratios.new.Goals as goal

pub new-requires : goal.new-requires
new-requires c = let o = c.requires in (omega (arith, o.lower, o.upper), o.some, o.small)

-- `rows::deficits_into` meets its contract. Assumes nothing.
use mathlib.Core.Path.{refl}
use Prim.Native.Nat.{◌-◌}
use native.Mathlib.Omega.{arith}
use Rattle.rows.proofs.Fours.{rowwise_written}
use Rattle.rows.proofs.deficits_into.Goals as goal

pub returns : goal.returns
returns c = rowwise_written ◌-◌ 0 refl c.args.covered.now c.args.metered.now c.loop-i.d (omega arith) (omega arith) (λ k h. c.loop-i.invariant k (omega arith))

-- `fields::next_comma` meets its contract. Assumes nothing.
use Prim.Native.Nat.{◌-◌}
use native.Mathlib.Omega.{arith}
use lib.ListN.{length, take, drop, length-take, length-drop}
use Rattle.lines.proofs.Commas.{comma-le}
use Rattle.lines.proofs.fields.next_comma.Goals as goal

pub overflow_add-result : goal.overflow_add-result
overflow_add-result c =
    let l = c.args.line.now in
    let rest = drop c.args.from l in
    omega (arith, c.well_formed.0.1, comma-le (take (length l - c.args.from) rest), length-take (length l - c.args.from) rest, length-drop c.args.from l)

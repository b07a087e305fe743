use Prim.Native.Nat.{◌-◌}
use Rattle.lines.proofs.Commas.{Skipping}
use Rattle.lines.proofs.fields.field_start.Given as goal

abbrev pub invariant-loop-passed : goal.invariant-loop-passed
invariant-loop-passed l = Skipping l.line l.index l.at (l.index - l._passed)

use mathlib.Core.Path.{◌≡◌}
use Prim.Native.Nat.{◌+◌, ◌≤◌}
use lib.Dec.{eqb}
use lib.ListN.{take}
use Rattle.std.specs.Prelude.{count_by}
use Rattle.lines.proofs.reading.count_fields.Given as goal

abbrev pub invariant-loop-b : goal.invariant-loop-b
invariant-loop-b l = (l.count ≡ count_by (λ b. eqb b 44) (take l.b-index l.bytes) + 1) × (l.count ≤ l.b-index + 1)

use Prim.Native.Nat.{◌<◌}
use lib.ListN.{length}
use Rattle.lines.specs.Fields.{fields}
use Rattle.lines.specs.Inner.{Starts}
use Rattle.lines.proofs.Lines.{Gathering}
use Rattle.lines.proofs.reading.read_fields.Given as goal

abbrev pub invariant-loop-figure : goal.invariant-loop-figure
invariant-loop-figure l = record { read : Gathering (fields l.bytes) l.figure-index l.figures; next : l.figure-index < length (fields l.bytes) → Starts l.bytes l.figure-index l.at }

-- `fields::field_start` meets its contract: a turn passes over a field. Assumes nothing.
use mathlib.Core.Path.{◌≡◌}
use Prim.Native.Nat.{◌+◌, ◌-◌}
use native.Mathlib.Omega.{arith}
use Rattle.lines.proofs.Commas.{skipping_more, skipped_all}
use Rattle.lines.proofs.fields.field_start.Goals as goal

pub returns-then-line-end : goal.returns-then-line-end
returns-then-line-end c = skipped_all c.loop-passed.invariant (omega arith) c.next_comma-end.ensures c.if-line-end.true

pub loop-passed-preserved : goal.loop-passed-preserved
loop-passed-preserved c =
    let one_less : c.args.index - c.loop-passed._passed - 1 ≡ c.args.index - (c.loop-passed._passed + 1) = omega arith in
    rw one_less at (skipping_more c.loop-passed.invariant (omega arith) c.next_comma-end.ensures c.if-line-end.false)

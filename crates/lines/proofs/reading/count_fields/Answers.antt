-- `reading::count_fields` meets its contract. Assumes nothing.
use mathlib.Core.Path.{ap, ◌∙◌}
use Prim.Native.Nat.{◌+◌}
use native.Mathlib.Omega.{arith}
use lib.Dec.{eqb}
use lib.Seq.{take_all}
use Rattle.std.specs.Prelude.{count_by}
use Rattle.lines.proofs.Commas.{commas_counted}
use Rattle.lines.proofs.reading.count_fields.Goals as goal

pub returns : goal.returns
returns c =
    let bs = c.args.bytes.now in
    c.from.ensures ∙ c.loop-b.invariant.0 ∙ ap (λ l. count_by (λ b. eqb b 44) l + 1) (take_all c.loop-b.b-index bs (omega arith)) ∙ commas_counted bs

-- `fields::field_at` meets its contract. Assumes nothing.
use mathlib.Core.Path.{refl}
use native.Mathlib.Omega.{arith}
use Rattle.lines.proofs.Commas.{next_low, next-high, field_part}
use Rattle.lines.proofs.fields.field_at.Goals as goal

pub slice_bounds-result-count : goal.slice_bounds-result-count
slice_bounds-result-count c = omega (arith, next_low c.args.line.now c.args.from)

pub slice_bounds-result-start : goal.slice_bounds-result-start
slice_bounds-result-start c = omega (arith, next_low c.args.line.now c.args.from)

pub slice_bounds-result-end : goal.slice_bounds-result-end
slice_bounds-result-end c = omega (arith, next-high c.args.line.now c.args.from c.requires)

-- the part that is handed back begins where the field stands,
-- and has the bytes before the next comma
pub returns : goal.returns
returns c = record { place = refl; content = field_part c.args.line.now c.args.from c.requires c.next_comma-end.result c.next_comma-end.ensures }

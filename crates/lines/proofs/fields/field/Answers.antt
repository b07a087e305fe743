-- `fields::field` meets its contract. Assumes nothing.
use mathlib.Core.Path.{refl, sym, ap}
use Prim.Native.Nat.{ℕ}
use native.Mathlib.Nat.{zero-add}
use Rattle.refusals.proofs.Asking.{refused_number}
use Rattle.lines.proofs.Parts.{part_none, part-there}
use Rattle.lines.proofs.fields.field.Goals as goal

pub returns-in-Ok-clause-part : goal.returns-in-Ok-clause-part
returns-in-Ok-clause-part c = part-there c.args.index (c.in-Ok.ensures).number refl (c.in-Ok.ensures).start c.field_at.ensures

pub returns-in-Err-clause-part : goal.returns-in-Err-clause-part
returns-in-Err-clause-part c =
    part_none {line = c.args.line} c.args.index (c.in-Err.ensures).number (refused_number c.in-Err.refusal)
    (record { place = ap (λ (k : ℕ). (c.args.line.ref_ptr.0, k)) (sym (zero-add c.args.line.ref_ptr.1)); content = refl })

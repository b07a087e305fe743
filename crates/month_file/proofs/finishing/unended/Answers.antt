-- `finishing::unended` meets its contract. Assumes nothing.
use mathlib.Core.Path.{refl}
use Rattle.refusals.proofs.Asking.{refused_number}
use Rattle.file_lines.proofs.Taken.{places, many_places}
use Rattle.month_file.proofs.Ends.{unended-refused, unended-31}
use Rattle.month_file.proofs.finishing.unended.Goals as goal

pub returns-in-Ok : goal.returns-in-Ok
returns-in-Ok c = unended-31 _ _ places _ _ many_places c.in-Ok.ensures _ c.refused.ensures refl

pub returns-in-Err : goal.returns-in-Err
returns-in-Err c = unended-refused _ _ places _ _ many_places c.in-Err.ensures _ c.refused-in-Err.ensures (λ z. refused_number c.in-Err.refusal z)

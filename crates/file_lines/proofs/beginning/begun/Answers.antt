-- `beginning::begun` meets its contract. Assumes nothing.
use mathlib.Core.Path.{refl}
use Rattle.refusals.proofs.Asking.{refused_number}
use Rattle.file_lines.specs.File.{begun}
use Rattle.file_lines.proofs.Moves.{refuses-by, begins-by}
use Rattle.file_lines.proofs.beginning.begun.Goals as goal

pub returns-in-Err : goal.returns-in-Err
unfolding begun
returns-in-Err c k lent = refuses-by _ k lent _ _ _ _ c.refused.ensures c.in-Err.ensures (λ z. refused_number c.in-Err.refusal z)

pub returns-in-Ok : goal.returns-in-Ok
unfolding begun
returns-in-Ok c k lent = begins-by _ k lent _ _ _ _ 0 c.requires c.in-Ok.ensures refl c.at_stage.ensures

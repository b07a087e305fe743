-- `feed_kept` meets its contract. Assumes nothing.
use mathlib.Core.Path.{refl}
use Rattle.refusals.proofs.Asking.{refused_number}
use Rattle.kept_file.proofs.KeptFiles.{fed_short, front_refused, front_taken}
use Rattle.kept_file.proofs.feed_kept.Goals as goal

pub returns-in_default : goal.returns-in_default
returns-in_default c = rw c.refused.ensures (fed_short c.in_default.ensures.cases refl)

pub returns-in-Ok : goal.returns-in-Ok
returns-in-Ok c =
    front_taken _ _ _ _ _ _ _ c.in-Some.ensures.cases.enough c.feed_any.new.plants c.from-meant.ensures c.in-Some.ensures.cases.same c.in-Ok.ensures.fed refl c.feed_any.auto.line c.taken.ensures

pub returns-in-Err : goal.returns-in-Err
returns-in-Err c =
    rw c.refused-in-Err.ensures
    (front_refused _ _ _ _ _ _ _ c.in-Some.ensures.cases.enough c.feed_any.new.plants c.from-meant.ensures c.in-Some.ensures.cases.same c.in-Err.ensures.fed refl (λ z. refused_number c.in-Err.refusal z))

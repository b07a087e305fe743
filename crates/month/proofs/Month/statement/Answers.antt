-- `Month::statement` meets its contract: accepted, the statement stands at the front of the lent bytes. Assumes nothing.
use mathlib.Core.Path.{sym}
use mathlib.Core.Path.{ap}
use native.Mathlib.Omega.{arith}
use Rattle.statement.specs.Statement.{room_for}
use Rattle.month.proofs.StatementAsked.{granted, stated}
use Rattle.month.proofs.Month.statement.Goals as goal

pub overflow_sub-self : goal.overflow_sub-self
overflow_sub-self c = (granted _ _ _ _ (sym c.in_ok-ask_statement.ensures)).sized.due.begun

pub write_rows-requires-clause-room : goal.write_rows-requires-clause-room
write_rows-requires-clause-room c = let g = granted _ _ _ _ (sym c.in_ok-ask_statement.ensures) in
    omega (arith, g.room, ap room_for g.sized.due.lent)

pub write_rows-requires-clause-in_limits : goal.write_rows-requires-clause-in_limits
write_rows-requires-clause-in_limits c = (granted _ _ _ _ (sym c.in_ok-ask_statement.ensures)).sized.limits

pub returns : goal.returns
returns c = stated _ _ _ _ (sym c.in_ok-ask_statement.ensures) _ _ c.write_rows.ensures

-- `stating::write_rows` meets its contract: a statement within limits can be written, and has room in what 22 asks for. Assumes nothing.
use native.Mathlib.Omega.{arith}
use Rattle.statement.proofs.Limits.{callable}
use Rattle.month.proofs.stating.write_rows.Goals as goal

pub write_statement-requires-clause-room : goal.write_statement-requires-clause-room
write_statement-requires-clause-room c = omega (arith, (callable _ _ _ c.requires.in_limits).1, c.requires.room)

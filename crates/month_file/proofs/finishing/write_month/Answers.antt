-- `finishing::write_month` meets its contract. Assumes nothing.
use mathlib.Core.Path.{refl}
use Rattle.refusals.proofs.Asking.{refused_number}
use Rattle.month.specs.Statement.{statement_of}
use Rattle.month_file.proofs.Ends.{some-due, in_limits, closing_stated, closing_refused}
use Rattle.month_file.proofs.finishing.write_month.Goals as goal

pub returns-in-Err : goal.returns-in-Err
returns-in-Err g c = closing_refused c.requires.0 _ c.in-Err.ensures (λ z. refused_number c.in-Err.refusal z) (rw (← c.number.ensures) c.write_refusal.ensures)

pub overflow_sub-month : goal.overflow_sub-month
overflow_sub-month g c = some-due c.requires.0 _ c.in_default.ensures

pub write_rows-requires-clause-in_limits : goal.write_rows-requires-clause-in_limits
write_rows-requires-clause-in_limits g c = rw (c.front-plants.ensures, c.ledger_of-ledger.ensures) (in_limits c.requires.0 _ c.in_default.ensures)

pub returns : goal.returns
unfolding statement_of
returns g c = closing_stated c.requires.0 _ c.in_default.ensures refl (rw (← c.front-plants.ensures, ← c.ledger_of-ledger.ensures) c.write_rows.ensures)

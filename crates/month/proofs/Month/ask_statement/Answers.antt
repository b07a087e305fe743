-- `Month::ask_statement` meets its contract: 2 answered yes tells of P. Assumes nothing.
use mathlib.Core.Path.{sym}
use Rattle.month.proofs.StatementAsked.{sizing-asked}
use Rattle.month.proofs.Month.ask_statement.Goals as goal

pub room_for-requires : goal.room_for-requires
room_for-requires c = (sizing-asked _ _ _ (sym c.in_ok-ask_sizing.ensures)).due.plants

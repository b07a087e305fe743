-- `Month::statement_size` meets its contract: what question 22 asks for, in which every statement within limits has room. Assumes nothing.
use mathlib.Core.Path.{sym}
use Rattle.month.proofs.StatementAsked.{sizing-asked, sized}
use Rattle.month.proofs.Month.statement_size.Goals as goal

pub room_for-requires : goal.room_for-requires
room_for-requires c = (sizing-asked _ _ _ (sym c.in_ok-ask_sizing.ensures)).due.plants

pub returns : goal.returns
returns c = sized _ _ _ (sym c.in_ok-ask_sizing.ensures) _ c.room_for.ensures

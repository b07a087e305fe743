-- `file_calls::ask_file` meets its contract. Assumes nothing.
use mathlib.Core.Path.{sym}
use Rattle.std.proofs.lemmas.Result.{err_from_is_err_and}
use Rattle.file_calls.proofs.Checked.{room_refused, room_asked, valid_asked}
use Rattle.file_calls.proofs.ask_file.Goals as goal

pub returns-in_err-ask : goal.returns-in_err-ask
returns-in_err-ask g c = let p = err_from_is_err_and c.from_residual.result c.from_residual.ensures.1 in rw (p.1, p.2) (room_refused _ c.is_room.ensures _ c.in_err-ask.ensures)

pub returns : goal.returns
returns g c = valid_asked (room_asked _ c.is_room.ensures (sym c.in_ok-ask.ensures)) _ c.is_valid.ensures _ c.ask-2.ensures

-- `file_calls::ask_finish` meets its contract. Assumes nothing.
use mathlib.Core.Path.{sym}
use Rattle.std.proofs.lemmas.Result.{err_from_is_err_and}
use Rattle.file_calls.specs.Checking as def
use Rattle.file_calls.proofs.Checked.{finish_refused, room_asked, text_refused, text_asked, valid_asked}
use Rattle.file_calls.proofs.ask_finish.Goals as goal

pub returns-in_err-ask : goal.returns-in_err-ask
returns-in_err-ask g c = let p = err_from_is_err_and c.from_residual.result c.from_residual.ensures.1 in rw (p.1, p.2) (finish_refused _ c.is_room.ensures _ c.in_err-ask.ensures)

pub returns-in_err-ask-2 : goal.returns-in_err-ask-2
returns-in_err-ask-2 g c = let r = c.from_residual-in_err-ask-2 in
    let p = err_from_is_err_and r.result r.ensures.1 in
    rw (p.1, p.2) (text_refused (room_asked _ c.is_room.ensures (sym c.in_ok-ask.ensures)) _ c.room_for.ensures _ c.in_err-ask-2.ensures)

pub returns : goal.returns
returns g c = def.FinishNumber.wide (λ _. text_asked _ _ c.room_for.ensures (sym c.in_ok-ask-2.ensures))
    (valid_asked (room_asked _ c.is_room.ensures (sym c.in_ok-ask.ensures)) _ c.is_valid.ensures _ c.ask-3.ensures)

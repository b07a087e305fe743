-- `settle_input` meets its contract: the parts are fed from the state before the first byte on. Assumes nothing.
use mathlib.Core.Path.{ap}
use borrow.Author.Rules.{rules}
use Rattle.std.specs.Prelude.{is_some, Some}
use Rattle.month_file.proofs.Run.{fresh_is}
use Rattle.settle_month.proofs.Parts.{taken-written}
use Rattle.settle_month.proofs.settle_input.Goals as goal

pub returns : goal.returns
returns g c =
    taken-written (fresh_is c.requires.fresh _ c.args.line.now c.args.file.now.valid.lent) c.take_input.ensures.taken (ap is_some {y = Some tt} (search rules))
    (rw (← c.view.ensures) c.finish.ensures)

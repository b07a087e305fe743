-- `reading::read_line` meets its contract. Assumes nothing.
use mathlib.Core.Path.{sym, ap, ◌∙◌}
use native.Mathlib.Omega.{arith}
use mathlib.Core.List.{◌++◌}
use lib.ListN.{length, take, drop}
use lib.Seq.{length-take-le}
use Rattle.std.proofs.lemmas.Result.{err_from_is_err_and}
use Rattle.lists.proofs.Questions.{then_no, then_yes}
use Rattle.refusals.proofs.Asking.{refused_number}
use Rattle.lines.proofs.Lines.{number_split, refused_with, accepted_with}
use Rattle.lines.proofs.reading.read_line.Goals as goal

pub returns-in_err-read : goal.returns-in_err-read
returns-in_err-read c =
    let p = err_from_is_err_and c.from_residual.result c.from_residual.ensures.1 in
    rw (p.1, p.2)
    (refused_with c.args.line.now c.args.figures.now (refused_number _) (then_no _ _ _ (c.in_err-read.ensures).number (refused_number _) ∙ sym (number_split c.args.line.now (length c.args.figures.now))))

pub returns-in_err-ask : goal.returns-in_err-ask
returns-in_err-ask c =
    let p = err_from_is_err_and c.from_residual-in_err-ask.result c.from_residual-in_err-ask.ensures.1 in
    rw (p.1, p.2)
    (refused_with c.args.line.now c.args.figures.now (refused_number _)
    (then_yes _ _ _ (c.in_ok-read.ensures).number (rw ((c.in_ok-read.ensures).read.count) at c.in_err-ask.ensures) ∙ sym (number_split c.args.line.now (length c.args.figures.now))))

pub returns : goal.returns
returns c =
    let read = c.in_ok-read.read in
    let few = (c.in_ok-read.ensures).read.few in
    accepted_with c.args.line.now c.args.figures.now (c.in_ok-read.ensures).number (c.in_ok-read.ensures).read c.in_ok-ask.ensures
    (c.copy_into.ensures ∙ ap (λ n. take read.fields c.read_to.new.figures ++ drop n c.args.figures.now) (length-take-le read.fields c.read_to.new.figures (omega (arith, c.read_to.auto.figures))))

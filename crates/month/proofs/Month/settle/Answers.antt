-- `Month::settle` meets its contract: refused by 12 to 18 or by 19, every list is as it came; else the hour's figures are written and added. Assumes nothing.
use mathlib.Core.Path.{sym, ◌∙◌}
use native.Mathlib.Nat.{le_of_eq}
use native.Mathlib.Omega.{arith}
use lib.IntN.{pos}
use lib.ListN.{replicate}
use lib.Seq.{length-take-le}
use Rattle.std.proofs.lemmas.Result.{err_from_is_err_and}
use Rattle.lists.proofs.Parts.{front_count, whole-written}
use Rattle.month.proofs.Asked.{inputs, bounds}
use Rattle.month.proofs.Workable.{few, roomy, due-small, workable, postable}
use Rattle.month.proofs.Ends.{refused_bounds, written}
use Rattle.month.proofs.Month.settle.Goals as goal

pub slice_bounds-figures-end : goal.slice_bounds-figures-end
slice_bounds-figures-end c = roomy (inputs _ _ _ _ _ _ (sym c.in_ok-ask_inputs.ensures))

pub slice_bounds-figures-end-2 : goal.slice_bounds-figures-end-2
slice_bounds-figures-end-2 c = front_count _ (replicate 2048 0) (roomy (inputs _ _ _ _ _ _ (sym c.in_ok-ask_inputs.ensures)))

pub slice_bounds-nets-end : goal.slice_bounds-nets-end
slice_bounds-nets-end c = few (inputs _ _ _ _ _ _ (sym c.in_ok-ask_inputs.ensures))

pub slice_bounds-nets-end-2 : goal.slice_bounds-nets-end-2
slice_bounds-nets-end-2 c = front_count _ (replicate 512 (pos 0)) (few (inputs _ _ _ _ _ _ (sym c.in_ok-ask_inputs.ensures)))

pub work-worked-requires : goal.work-worked-requires
work-worked-requires c =
    let q = inputs _ _ _ _ _ _ (sym c.in_ok-ask_inputs.ensures) in
    workable q (length-take-le _ (replicate 2048 0) (roomy q)) (length-take-le _ (replicate 512 (pos 0)) (few q))

pub ask_bounds-requires : goal.ask_bounds-requires
ask_bounds-requires c = postable (inputs _ _ _ _ _ _ (sym c.in_ok-ask_inputs.ensures)) c.work-worked.ensures

pub returns-in_err-ask_bounds : goal.returns-in_err-ask_bounds
returns-in_err-ask_bounds c =
    let p = err_from_is_err_and c.from_residual-in_err-ask_bounds.result c.from_residual-in_err-ask_bounds.ensures.1 in
    rw (p.1, p.2) (refused_bounds _ _ _ _ _ _ (sym c.in_ok-ask_inputs.ensures) _ _ _ c.work-worked.ensures _ c.in_err-ask_bounds.ensures)

pub copy_into-requires : goal.copy_into-requires
copy_into-requires c =
    le_of_eq (c.work-worked.auto.allotment ∙ length-take-le _ (replicate 2048 0) (roomy (inputs _ _ _ _ _ _ (sym c.in_ok-ask_inputs.ensures))))

pub post-requires : goal.post-requires
post-requires c = postable (inputs _ _ _ _ _ _ (sym c.in_ok-ask_inputs.ensures)) c.work-worked.ensures (bounds _ _ (sym c.in_ok-ask_bounds.ensures)).0

pub overflow_add-self : goal.overflow_add-self
overflow_add-self c = omega (arith, due-small (inputs _ _ _ _ _ _ (sym c.in_ok-ask_inputs.ensures)))

pub returns : goal.returns
returns c = written _ _ _ _ _ _ (sym c.in_ok-ask_inputs.ensures) _ _ _ c.work-worked.ensures c.in_ok-ask_bounds.ensures _ _ _
    (whole-written _ _ _ c.copy_into.ensures (le_of_eq (sym (c.work-worked.auto.allotment ∙ length-take-le _ (replicate 2048 0) (roomy (inputs _ _ _ _ _ _ (sym c.in_ok-ask_inputs.ensures)))))))
    c.post.ensures.allotted c.post.ensures.accounts

-- `ledger::account_sum` meets its contract: what is summed, with what is left of the column, is the column's sum. Assumes nothing.
use mathlib.Core.Path.{◌≡◌, sym, ap, ◌∙◌, subst}
use Prim.Native.Nat.{◌+◌}
use native.Mathlib.Omega.{arith}
use lib.IntN.{ℤ, pos, nat_abs, ◌+ℤ◌}
use lib.ListN.{get_or}
use mir.Syntax.{w64}
use mir.Val.{to_z, of_z}
use Rattle.signed.proofs.Machine.{read_is, result_is}
use Rattle.ledger.specs.Ledger.{accounts_width}
use Rattle.ledger.proofs.Sums.{Totalling, totalling, totalling_more, totalled}
use Rattle.ledger.proofs.account_sum.Goals as goal
use Rattle.ledger.proofs.account_sum.Goals.{After-plus-arg-1}

-- the figure, as the machine reads it
figure_is : (c : After-plus-arg-1) → to_z w64 (of_z w64 c.in-Some.figure.now) ≡ get_or c.args.accounts.now c.loop-figure.i (pos 0)
figure_is c = read_is _ c.plus-arg-1.given ∙ c.in-Some.ensures.lookup.3.1 (pos 0)

pub loop-figure-init : goal.loop-figure-init
loop-figure-init c = totalling

pub plus-total-requires : goal.plus-total-requires
plus-total-requires c = omega (arith, ap nat_abs (figure_is (goal.at.plus-total-requires c).After-plus-arg-1), c.loop-figure.invariant.small, c.requires.small.at c.loop-figure.i, c.in-Some.ensures.lookup.3.0)

pub loop-figure-preserved : goal.loop-figure-preserved
loop-figure-preserved c = subst (λ (z : ℤ). Totalling c.args.start c.args.accounts.now (c.loop-figure.i + accounts_width) z)
    (sym (result_is c.plus-total.result c.plus-total.type_inv (c.plus-total.ensures ∙ ap (λ (x : ℤ). to_z w64 c.loop-figure.total-bits +ℤ x) (figure_is (goal.at.loop-figure-preserved c).After-plus-arg-1))))
    (totalling_more c.requires c.loop-figure.invariant c.in-Some.ensures.lookup.3.0)

pub returns : goal.returns
returns c = totalled c.loop-figure.invariant c.in_default.ensures.lookup.3

-- `ledger::column_within` meets its contract: what is left of the column decides. Assumes nothing.
use mathlib.Core.Path.{◌≡◌, ap, ◌∙◌}
use native.Mathlib.Omega.{arith}
use lib.IntN.{pos}
use lib.ListN.{get_or}
use Rattle.signed.specs.Figures.{is_within}
use Rattle.signed.proofs.Machine.{read_is}
use Rattle.lists.proofs.Questions.{called_no, called_yes}
use Rattle.lists.proofs.Loops.{passing, passing_more, halted, passed}
use Rattle.lists.proofs.Rows.{stride, stride_more, stride_none}
use Rattle.ledger.proofs.column_within.Goals as goal
use Rattle.ledger.proofs.column_within.Goals.{After-is_within}

-- what the call says of the figure itself
test : (c : After-is_within) → c.is_within.result ≡ is_within c.args.bound (get_or c.args.accounts.now c.loop-figure.i (pos 0))
test c = c.is_within.ensures ∙ ap (is_within c.args.bound) (read_is _ c.is_within-arg-1.given ∙ c.in-Some.ensures.lookup.3.1 (pos 0))

pub loop-figure-init : goal.loop-figure-init
loop-figure-init c = rw (← stride) passing

pub returns-then-not-is_within : goal.returns-then-not-is_within
returns-then-not-is_within c = halted c.loop-figure.invariant (stride_more _ (omega arith) _ _ (pos 0) c.in-Some.ensures.lookup.3.0) (called_no _ _ (test (goal.at.returns-then-not-is_within c).After-is_within) c.if-not-is_within.true)

pub loop-figure-preserved : goal.loop-figure-preserved
loop-figure-preserved c = passing_more c.loop-figure.invariant (stride_more _ (omega arith) _ _ (pos 0) c.in-Some.ensures.lookup.3.0) (called_yes _ _ (test (goal.at.loop-figure-preserved c).After-is_within) c.if-not-is_within.false)

pub returns : goal.returns
returns c = passed c.loop-figure.invariant (stride_none _ _ _ c.in_default.ensures.lookup.3)

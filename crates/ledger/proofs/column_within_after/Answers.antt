-- `ledger::column_within_after` meets its contract: the sums not yet passed decide. Assumes nothing.
use mathlib.Core.Path.{◌≡◌, sym, ap, ap₂, ◌∙◌}
use Prim.Native.Nat.{◌+◌, ◌*◌}
use native.Mathlib.Omega.{arith}
use lib.IntN.{ℤ, pos, nat_abs, ◌+ℤ◌, ◌*ℤ◌}
use lib.ListN.{get_or}
use mir.Syntax.{w64}
use mir.Val.{to_z, of_z}
use Rattle.lists.proofs.Loops.{passing_more, halted, passed}
use Rattle.lists.proofs.Questions.{called_no, called_yes}
use Rattle.signed.specs.Figures.{is_within}
use Rattle.signed.proofs.Machine.{read_is, result_is}
use Rattle.ledger.specs.Ledger.{accounts_width}
use Rattle.ledger.proofs.Posting.{rated_small, after, after_more, after_none, after-at}
use Rattle.ledger.proofs.column_within_after.Goals as goal
use Rattle.ledger.proofs.column_within_after.Goals.{After-is_within, After-plus-arg-1, After-times-arg-1, After-times-more, At-loop-i}

-- the row's figures, as the machine reads them
module _ (c : At-loop-i) where
  net : ℤ
  net = get_or c.args.nets.now c.loop-i.i (pos 0)

  figure : ℤ
  figure = get_or c.args.accounts.now (accounts_width * c.loop-i.i + c.args.start) (pos 0)

  more : ℤ
  more = net *ℤ pos c.args.rate

net_is : (c : After-times-arg-1) → to_z w64 (of_z w64 (net c.before.before)) ≡ net c.before.before
unfolding net
net_is c = read_is _ c.times-arg-1.given

more-is : (c : After-times-more) → to_z w64 (of_z w64 c.times-more.result) ≡ more c.before.before.before
unfolding net more
more-is c =
    result_is c.times-more.result c.times-more.type_inv
    (c.times-more.ensures ∙ ap (λ (z : ℤ). z *ℤ pos c.args.rate) (net_is c.before))

figure_is : (c : After-plus-arg-1) → to_z w64 (of_z w64 (figure c.before.before.before.before)) ≡ figure c.before.before.before.before
unfolding figure
figure_is c = read_is _ c.plus-arg-1.given

-- the test is of the figure of the list that the contract names
test : (c : After-is_within)
    → let s = c.args in
    c.is_within.result ≡ is_within s.bound (get_or (after s.accounts.now s.nets.now s.rate s.start) c.loop-i.i (pos 0))
unfolding net more figure
test c =
    let s = c.args in
    c.is_within.ensures
    ∙ ap (is_within s.bound)
    (result_is c.plus-figure.result c.plus-figure.type_inv
    (c.plus-figure.ensures ∙ ap₂ ◌+ℤ◌ (figure_is c.before.before) (more-is c.before.before.before))
    ∙ sym (after-at s.accounts.now s.nets.now s.rate s.start c.requires.1 c.requires.0 c.loop-i.i))

pub plus-figure-requires : goal.plus-figure-requires
unfolding net more figure
plus-figure-requires c = omega (arith, ap nat_abs (figure_is c), ap nat_abs (more-is (goal.at.plus-figure-requires c).After-times-more), rated_small c.requires.1 c.loop-i.i, c.requires.1.ledger.at (accounts_width * c.loop-i.i + c.args.start))

pub returns-then-not-is_within : goal.returns-then-not-is_within
returns-then-not-is_within c = halted c.loop-i.invariant (after_more _ _ _ _ c.requires.1 c.requires.0 c.loop-i-test.true) (called_no _ _ (test (goal.at.returns-then-not-is_within c).After-is_within) c.if-not-is_within.true)

pub loop-i-preserved : goal.loop-i-preserved
loop-i-preserved c = passing_more c.loop-i.invariant (after_more _ _ _ _ c.requires.1 c.requires.0 c.loop-i-test.true) (called_yes _ _ (test (goal.at.loop-i-preserved c).After-is_within) c.if-not-is_within.false)

pub returns : goal.returns
returns c = passed c.loop-i.invariant (after_none _ _ _ _ c.requires.1 c.requires.0 c.loop-i-test.false)

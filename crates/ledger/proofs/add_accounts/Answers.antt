-- `ledger::add_accounts` meets its contract: each row's two accounts are replaced by their sums. Assumes nothing.
use mathlib.Core.Path.{◌≡◌, sym, ap, ◌∙◌}
use Prim.Native.Nat.{ℕ, ◌+◌, ◌*◌}
use native.Mathlib.Nat.{add-zero}
use native.Mathlib.Omega.{arith}
use lib.IntN.{ℤ, pos, nat_abs, ◌+ℤ◌, ◌*ℤ◌}
use lib.ListN.{get_or}
use mir.Syntax.{w64}
use mir.Val.{to_z, of_z}
use Rattle.lists.proofs.Loops.{filling_kept}
use Rattle.signed.specs.Figures.{accounts_of}
use Rattle.signed.proofs.Accounts.{length-accounts, net_at, money_at}
use Rattle.signed.proofs.Machine.{read_is, result_is}
use Rattle.ledger.specs.Ledger.{accounts_width}
use Rattle.ledger.proofs.Lists.{Joining, joining_more, joined_all}
use Rattle.ledger.proofs.Posting.{rated_small}
use Rattle.ledger.proofs.add_accounts.Goals as goal
use Rattle.ledger.proofs.add_accounts.Goals.{After-accounts-1, After-times-money}

-- the row's net and money, as the machine reads them
money-is : (c : After-times-money) → to_z w64 (of_z w64 c.times-money.result) ≡ get_or c.args.nets.now c.loop-i.i (pos 0) *ℤ pos c.args.tariff
money-is c =
    result_is c.times-money.result c.times-money.type_inv
    (c.times-money.ensures ∙ ap (λ (z : ℤ). z *ℤ pos c.args.tariff) (read_is _ c.times-arg-1.given))

-- after the row's net
half : (c : After-accounts-1)
    → let s = c.args in
    Joining ◌+ℤ◌ (pos 0) (accounts_of s.tariff s.nets.now) (accounts_width * c.loop-i.i + 1) s.accounts.now c.add_at.new.figures
half c =
    let s = c.args in
    let more = accounts_of s.tariff s.nets.now in
    joining_more ◌+ℤ◌ (pos 0) more (accounts_width * c.loop-i.i + 0) (accounts_width * c.loop-i.i + 1) c.loop-i.invariant (omega arith) (omega arith) (omega arith)
    (read_is _ c.times-arg-1.given ∙ sym (ap (λ (k : ℕ). get_or more k (pos 0)) (add-zero (accounts_width * c.loop-i.i)) ∙ net_at s.tariff s.nets.now c.loop-i.i))
    c.add_at.ensures

pub add_at-requires-in-loop-i : goal.add_at-requires-in-loop-i
add_at-requires-in-loop-i c = omega (arith, ap nat_abs (money-is (goal.at.add_at-requires-in-loop-i c).After-times-money), rated_small c.requires c.loop-i.i, c.requires.ledger.at (accounts_width * c.loop-i.i + 1), ap nat_abs (filling_kept (half (goal.at.add_at-requires-in-loop-i c).After-accounts-1).now (pos 0)), (half (goal.at.add_at-requires-in-loop-i c).After-accounts-1).now.same)

pub loop-i-preserved : goal.loop-i-preserved
loop-i-preserved c = let s = c.args in
    joining_more ◌+ℤ◌ (pos 0) (accounts_of s.tariff s.nets.now) (accounts_width * c.loop-i.i + 1) (accounts_width * (c.loop-i.i + 1)) (half (goal.at.loop-i-preserved c).After-accounts-1) (omega arith) (omega arith) (omega arith)
    (money-is (goal.at.loop-i-preserved c).After-times-money ∙ sym (money_at s.tariff s.nets.now c.loop-i.i))
    c.add_at-in-loop-i.ensures

pub returns : goal.returns
returns c = let s = c.args in
    let long = length-accounts s.tariff s.nets.now in
    joined_all ◌+ℤ◌ (pos 0) (accounts_of s.tariff s.nets.now) c.loop-i.invariant (omega arith) (omega arith)

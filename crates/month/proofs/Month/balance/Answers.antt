-- `Month::balance` meets its contract: accepted, the sums of a ledger that question 19 found in bounds. Assumes nothing.
use mathlib.Core.Path.{sym}
use native.Mathlib.Omega.{arith}
use Rattle.ledger.proofs.Bounds.{bounded, summable}
use Rattle.month.proofs.Asked.{balance}
use Rattle.month.proofs.Month.balance.Goals as goal

pub column_sums-requires : goal.column_sums-requires
column_sums-requires c = let b = balance _ _ (sym c.in_ok-ask_balance.ensures) in
    (omega arith, (bounded _ b.inside).allotted)

pub account_sum-requires : goal.account_sum-requires
account_sum-requires c = let b = balance _ _ (sym c.in_ok-ask_balance.ensures) in
    summable _ b.inside (omega arith)

pub account_sum-requires-2 : goal.account_sum-requires-2
account_sum-requires-2 c = let b = balance _ _ (sym c.in_ok-ask_balance.ensures) in
    summable _ b.inside (omega arith)

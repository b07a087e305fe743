-- What is promised of the month as C keeps it. Assumes nothing.
use Rattle.std.specs.Prelude.{◌≡◌, ℕ, List}
use Rattle.plants.specs.declared.Plant.{Plant}
use Rattle.ledger.specs.Ledger.{Ledger}
use Rattle.month.specs.declared.Month.{Month}
use Rattle.month.specs.Calls.{open_call, settle_call, balance_call, close_call}
use Rattle.month.specs.Statement.{statement_call, Sizing}
use Rattle.kept_month.specs.declared.KeptMonth.{KeptMonth}
use Rattle.kept_month.specs.declared.KeptSized.{KeptSized}
use Rattle.kept_month.specs.Months.{month_of, kept_of, open_kept, settle_kept, close_kept, balance_kept, statement_kept, SizeKept}

-- the month that a call hands back stands for the one that the call inside hands back, so the next call goes on from it
pub record Months : Type 0 where
  pub back : (m : Month) → month_of (kept_of m) ≡ m
  pub opened : (k : KeptMonth) (plants : List Plant) (profile : List ℕ) (tariff : ℕ) (l : Ledger)
      → month_of (open_kept k plants profile tariff l).answer.month ≡ (open_call (month_of k) plants profile tariff l).answer.month
  pub settled : (k : KeptMonth) (plants : List Plant) (profile metered lent : List ℕ) (l : Ledger)
      → month_of (settle_kept k plants profile metered lent l).answer.month ≡ (settle_call (month_of k) plants profile metered lent l).answer.month
  pub closed : (k : KeptMonth) → month_of (close_kept k).month ≡ (close_call (month_of k)).month
  pub balanced : (k : KeptMonth) (l : Ledger) → month_of (balance_kept k l).month ≡ (balance_call (month_of k) l).month
  pub stated : (k : KeptMonth) (plants : List Plant) (l : Ledger) (lent : List ℕ)
      → month_of (statement_kept k plants l lent).answer.month ≡ (statement_call (month_of k) plants l lent).answer.month
  pub sized : (k : KeptMonth) (plants : List Plant) (l : Ledger) (r : KeptSized) → SizeKept k plants l r
      → Sizing (month_of k) plants l (record { number = r.number; month = month_of r.month; size = r.size })

-- What is promised of more rows than a month may have: a call that is lent them is refused as their number alone says, whatever the rows are. Assumes nothing.
use Rattle.std.specs.Prelude.{◌≡◌, ℕ, ◌<◌, List, length}
use Rattle.plants.specs.declared.Plant.{Plant}
use Rattle.ledger.specs.Ledger.{Ledger}
use Rattle.month.specs.declared.Month.{Month}
use Rattle.month.specs.Answers.{Sized}
use Rattle.month.specs.Questions.{own_number}
use Rattle.month.specs.Calls.{open_call, SettleEnd, unsettled, settle_call}
use Rattle.month.specs.Statement.{due_number, StatementEnd, statement_call, Sizing}

pub record Many : Type 0 where
  -- open: one answer for all tables of so many rows
  pub opened : (m : Month) (ps qs : List Plant) (profile : List ℕ) (tariff : ℕ) (l : Ledger) → length ps ≡ length qs → 512 < length qs
      → open_call m ps profile tariff l ≡ open_call m qs profile tariff l
  -- settle: 12, 2 to 4 or 13, which are asked of the month and of how many rows and profile figures are lent
  pub settled : (m : Month) (plants : List Plant) (profile metered lent : List ℕ) (l : Ledger) → 512 < length plants
      → ◌≡◌ {A = SettleEnd} (record { answer = unsettled m (own_number m (length plants) (length profile)); allotment = lent; ledger = l })
      (settle_call m plants profile metered lent l)
  -- the statement: 21, 2, 3 or 13
  pub stated : (m : Month) (plants : List Plant) (l : Ledger) → 512 < length plants → (lent : List ℕ)
      → ◌≡◌ {A = StatementEnd} (record { answer = record { number = due_number m (length plants); month = m; length = 0 }; bytes = lent })
      (statement_call m plants l lent)
  -- sizing: one answer for all tables of so many rows
  pub sized : (m : Month) (ps qs : List Plant) (l : Ledger) → length ps ≡ length qs → 512 < length qs → {r : Sized} → Sizing m ps l r → Sizing m qs l r

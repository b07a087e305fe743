-- What each call answers: its number, the month handed back, and its figures. Each is joined from a call's answer and the month; a refusal has
-- zeros beside its number. Assumes nothing.
use Rattle.std.specs.Prelude.{ℕ, ℤ, pos, List, Result, Ok, Err}
use Rattle.lists.specs.Columns.{four}
use Rattle.refusals.specs.declared.Refusal.{Refusal}
use Rattle.refusals.specs.Numbers.{refusal_number, number as answered}
use Rattle.transfer.specs.declared.Table.{Table}
use Rattle.transfer.specs.Calls.{no_table}
use Rattle.hour.specs.declared.Worked.{Worked}
use Rattle.month.specs.declared.Month.{Month}
use Rattle.month.specs.declared.Balance.{Balance}

-- open and close
pub record Ended : Type 0 where
  pub number : ℕ
  pub month : Month

abbrev pub ended : {A : Type 0} → Result A Refusal → Month → Ended
ended r m = record { number = answered r; month = m }

-- settle: Z, A and both tables
pub record Settled : Type 0 where
  pub number : ℕ
  pub month : Month
  pub secondary : ℕ
  pub guarantees : ℕ
  pub cover_table : Table
  pub secondary_table : Table

abbrev pub settled : Result Worked Refusal → Month → Settled
settled (Ok w) m =
    record { number = 0; month = m; secondary = w.secondary; guarantees = w.guarantees; cover_table = w.cover_table; secondary_table = w.secondary_table }
settled (Err r) m =
    record {
      number = refusal_number r;
      month = m;
      secondary = 0;
      guarantees = 0;
      cover_table = record { rows = no_table };
      secondary_table = record { rows = no_table };
    }

-- balance: the four column sums, the sum of nets and the sum of money
pub record Balanced : Type 0 where
  pub number : ℕ
  pub month : Month
  pub columns : List ℕ
  pub net : ℤ
  pub money : ℤ

abbrev pub balanced : Result Balance Refusal → Month → Balanced
balanced (Ok b) m = record { number = 0; month = m; columns = b.columns; net = b.net; money = b.money }
balanced (Err r) m = record { number = refusal_number r; month = m; columns = four (λ _. 0); net = pos 0; money = pos 0 }

-- the statement call: the statement's length in bytes
pub record Stated : Type 0 where
  pub number : ℕ
  pub month : Month
  pub length : ℕ

abbrev pub stated : Result ℕ Refusal → Month → Stated
stated (Ok n) m = record { number = 0; month = m; length = n }
stated (Err r) m = record { number = refusal_number r; month = m; length = 0 }

-- the sizing call: a size that the statement does not pass, at most 128P + 128
pub record Sized : Type 0 where
  pub number : ℕ
  pub month : Month
  pub size : ℕ

abbrev pub sized : Result ℕ Refusal → Month → Sized
sized (Ok n) m = record { number = 0; month = m; size = n }
sized (Err r) m = record { number = refusal_number r; month = m; size = 0 }

-- The month as a C program keeps it. An enum cannot cross, so the stage is a number. Assumes nothing.
use Rattle.std.specs.Prelude.{◌≡◌, ℕ, cond, List, eqb}
use Rattle.lists.specs.Questions.{outcome}
use Rattle.plants.specs.declared.Plant.{Plant}
use Rattle.ledger.specs.Ledger.{Ledger}
use Rattle.month.specs.declared.Month.{Month}
use Rattle.month.specs.declared.Stage.{Stage}
use Rattle.month.specs.declared.Stage.TheVariants.{Blank, Open, Closed}
use Rattle.month.specs.Answers.{Ended, Settled, Stated, Sized}
use Rattle.month.specs.Calls.{open_call, settle_call, balance_call, close_call}
use Rattle.month.specs.Statement.{statement_call, Sizing}
use Rattle.kept_month.specs.declared.KeptMonth.{KeptMonth}
use Rattle.kept_month.specs.declared.KeptEnd.{KeptEnd}
use Rattle.kept_month.specs.declared.KeptSettle.{KeptSettle}
use Rattle.kept_month.specs.declared.KeptBalance.{KeptBalance}
use Rattle.kept_month.specs.declared.KeptStated.{KeptStated}
use Rattle.kept_month.specs.declared.KeptSized.{KeptSized}

-- every number is read as a stage: 1 is open, 2 closed, and any other blank
unfoldable pub stage_of : ℕ → Stage
stage_of n = cond (eqb n 1) Open (cond (eqb n 2) Closed Blank)

-- ... and the number of a stage
unfoldable pub stage_number : Stage → ℕ
stage_number Blank = 0
stage_number Open = 1
stage_number Closed = 2

-- the month that C's stands for, and how a month is kept for C
unfoldable pub month_of : KeptMonth → Month
month_of k = record { stage = stage_of k.stage; plants = k.plants; periods = k.periods; tariff = k.tariff; due = k.due }

unfoldable pub kept_of : Month → KeptMonth
kept_of m = record { stage = stage_number m.stage; plants = m.plants; periods = m.periods; tariff = m.tariff; due = m.due }

-- accepted, the month that the call hands back; refused, the caller's own, figure for figure
unfoldable pub handed_back : ℕ → KeptMonth → Month → KeptMonth
handed_back number k m = outcome number (kept_of m) (λ _. k)

-- open's and close's answer, as C gets it
unfoldable pub ended_kept : KeptMonth → Ended → KeptEnd
ended_kept k r = record { number = r.number; month = handed_back r.number k r.month }

-- settle's answer, as C gets it
unfoldable pub settled_kept : KeptMonth → Settled → KeptSettle
settled_kept k r =
    record {
      number = r.number;
      month = handed_back r.number k r.month;
      secondary = r.secondary;
      guarantees = r.guarantees;
      cover_table = r.cover_table;
      secondary_table = r.secondary_table;
    }

-- the statement's answer, as C gets it; its month is the caller's own
unfoldable pub stated_kept : KeptMonth → Stated → KeptStated
stated_kept k r = record { number = r.number; month = k; length = r.length }

-- the sizing call's answer, as C gets it; its month is the caller's own
unfoldable pub sized_kept : KeptMonth → Sized → KeptSized
sized_kept k r = record { number = r.number; month = k; size = r.size }

-- open: the answer, and the ledger afterwards
pub record OpenKeptEnd : Type 0 where
  pub answer : KeptEnd
  pub ledger : Ledger

unfoldable pub open_kept : KeptMonth → List Plant → List ℕ → ℕ → Ledger → OpenKeptEnd
open_kept k plants profile tariff l =
    let r = open_call (month_of k) plants profile tariff l in
    record { answer = ended_kept k r.answer; ledger = r.ledger }

-- settle: the answer, and the allotment list and the ledger afterwards
pub record SettleKeptEnd : Type 0 where
  pub answer : KeptSettle
  pub allotment : List ℕ
  pub ledger : Ledger

unfoldable pub settle_kept : KeptMonth → List Plant → List ℕ → List ℕ → List ℕ → Ledger → SettleKeptEnd
settle_kept k plants profile metered lent l =
    let r = settle_call (month_of k) plants profile metered lent l in
    record { answer = settled_kept k r.answer; allotment = r.allotment; ledger = r.ledger }

-- close; the ledger has no part in it
unfoldable pub close_kept : KeptMonth → KeptEnd
close_kept k = ended_kept k (close_call (month_of k))

-- balance, which changes no month
unfoldable pub balance_kept : KeptMonth → Ledger → KeptBalance
balance_kept k l =
    let r = balance_call (month_of k) l in
    record { number = r.number; month = k; columns = r.columns; net = r.net; money = r.money }

-- statement, which changes no month: the answer, and the lent bytes afterwards
pub record StatementKeptEnd : Type 0 where
  pub answer : KeptStated
  pub bytes : List ℕ

unfoldable pub statement_kept : KeptMonth → List Plant → Ledger → List ℕ → StatementKeptEnd
statement_kept k plants l lent =
    let r = statement_call (month_of k) plants l lent in
    record { answer = stated_kept k r.answer; bytes = r.bytes }

-- statement_size, which changes no month: number and size are a sizing call's inside, whose size is free in its range
pub record SizeKept (k : KeptMonth) (plants : List Plant) (l : Ledger) (r : KeptSized) : Type 0 where
  pub month : r.month ≡ k
  pub sizing : Sizing (month_of k) plants l (record { number = r.number; month = month_of k; size = r.size })

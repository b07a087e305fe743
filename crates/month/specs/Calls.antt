-- "Calls": what each call answers and leaves. With a number other than 0 the month, the ledger and the lent list are as they came, and every
-- other part of the answer is zero. Assumes nothing.
use Rattle.std.specs.Prelude.{ℕ, ◌+◌, List, pos, length}
use Rattle.lists.specs.Lists.{sum, sumℤ}
use Rattle.lists.specs.Columns.{four}
use Rattle.lists.specs.Questions.{outcome}
use Rattle.transfer.specs.Calls.{no_table}
use Rattle.plants.specs.declared.Plant.{Plant}
use Rattle.hour.specs.Hour.{hour_of, guarantees, secondary, cover_table, secondary_table, allotment}
use Rattle.ledger.specs.Ledger.{Ledger, zeros, allotted_in, net_column, money_column}
use Rattle.month.specs.declared.Month.{Month}
use Rattle.month.specs.declared.Stage.TheVariants.{Blank, Open, Closed}
use Rattle.month.specs.Answers.{Ended, Settled, Balanced}
use Rattle.month.specs.Questions.{open_number, settle_number, close_number, balance_number, posted}

-- a month that no open has begun
abbrev pub blank : Month
blank = record { stage = Blank; plants = 0; periods = 0; tariff = 0; due = 0 }

-- a month just opened: P, H and TEO, and 'period 1 due'
abbrev pub opened_month : ℕ → ℕ → ℕ → Month
opened_month p h tariff = record { stage = Open; plants = p; periods = h; tariff = tariff; due = 1 }

-- the month after a settle, which 'moves the period on'
abbrev pub onward : Month → Month
onward m = record { stage = m.stage; plants = m.plants; periods = m.periods; tariff = m.tariff; due = m.due + 1 }

-- the month after a close, which 'ends the month'
abbrev pub closed_month : Month → Month
closed_month m = record { stage = Closed; plants = m.plants; periods = m.periods; tariff = m.tariff; due = m.due }

-- a refused settle's answer: zeros beside the number
abbrev pub unsettled : Month → ℕ → Settled
unsettled m n =
    record { number = n; month = m; secondary = 0; guarantees = 0; cover_table = record { rows = no_table }; secondary_table = record { rows = no_table } }

-- 'Open sets the ledger to zeros and period 1 due'
pub record OpenEnd : Type 0 where
  pub answer : Ended
  pub ledger : Ledger

unfoldable pub open_call : Month → List Plant → List ℕ → ℕ → Ledger → OpenEnd
open_call m plants profile tariff l =
    outcome (open_number m plants profile tariff l)
    (record {
      answer = record { number = 0; month = opened_month (length plants) (length profile) tariff };
      ledger = zeros (length plants);
    })
    (λ n. record { answer = record { number = n; month = m }; ledger = l })

-- 'Settle .. fills an allotment list (four a plant), adds to the ledger, moves the period on, and answers Z, A and both tables'
pub record SettleEnd : Type 0 where
  pub answer : Settled
  pub allotment : List ℕ
  pub ledger : Ledger

unfoldable pub settle_call : Month → List Plant → List ℕ → List ℕ → List ℕ → Ledger → SettleEnd
settle_call m plants profile metered lent l =
    outcome (settle_number m plants profile metered lent l)
    (let h = hour_of plants profile metered m.due in
    record {
      answer = record {
        number = 0;
        month = onward m;
        secondary = secondary h;
        guarantees = sum (guarantees h);
        cover_table = record { rows = cover_table h };
        secondary_table = record { rows = secondary_table h };
      };
      allotment = allotment h;
      ledger = posted l h m.tariff;
    })
    (λ n. record { answer = unsettled m n; allotment = lent; ledger = l })

-- 'Balance answers the four column sums, the sum of nets and the sum of money'
unfoldable pub balance_call : Month → Ledger → Balanced
balance_call m l =
    outcome (balance_number m l)
    (record {
      number = 0;
      month = m;
      columns = four (λ s. sum (allotted_in s l));
      net = sumℤ (net_column l);
      money = sumℤ (money_column l);
    })
    (λ n. record { number = n; month = m; columns = four (λ _. 0); net = pos 0; money = pos 0 })

-- 'Close ends the month'
unfoldable pub close_call : Month → Ended
close_call m =
    outcome (close_number m)
    (record { number = 0; month = closed_month m })
    (λ n. record { number = n; month = m })

-- "Hours to prove by hand": m1 to m8 as one list, proved over the definitions by computing, and the example file's month as a list of calls.
-- Assumes nothing.
use Rattle.std.specs.Prelude.{◌≡◌, refl, ℕ, replicate, pos, negsuc}
use mathlib.Core.List.{List, [], ◌∷◌, map, flatten}
use Rattle.lists.specs.Lists.{sum, sumℤ, every, at_most}
use Rattle.lists.specs.Columns.{rowwise, joined, totals, transpose, column}
use Rattle.lists.specs.Questions.{◌then◌, first_no, in_range, outcome}
use Rattle.signed.specs.Figures.{is_within, accounts_of}
use Rattle.sharing.specs.Sharing.{parts, share}
use Rattle.transfer.specs.Transfer.{serve, transfer}
use Rattle.sharing.specs.Calls.{sharing_number, sharing_call}
use Rattle.transfer.specs.Calls.{no_table, apart, transfer_number, transfer_call}
use Rattle.blocks.specs.Portion.{portion}
use Rattle.cover.specs.Cover.{own, own_parts, table, got, rest}
use Rattle.plants.specs.declared.Plant.{Plant}
use Rattle.hour.specs.Hour.{Hour, hour_of, modulated, guaranteed, submarkets, guarantees, secondary, covered, deficit, surplus, left_over, rights, own_cover, cover_got, own_secondary, secondary_got, cover_table, secondary_table, figure, nets, allotment}
use Rattle.ledger.specs.Ledger.{in_bounds, zeros, added}
use Rattle.statement.specs.Worked.{plant, plants, ledger}
use Rattle.month.specs.declared.Month.{Month}
use Rattle.month.specs.declared.Stage.TheVariants.{Closed}
use Rattle.questions.specs.Questions.{sizes_number, placed, numbered, row_number, rows_number, lengths_number, ledger_number, tables_number}
use Rattle.month.specs.Questions.{is_open, is_blank, open_number, own_number, metered_number, inputs_number, posted, bounds_number, settle_number, close_number, balance_number}
use Rattle.month.specs.Calls.{blank, open_call, settle_call, balance_call, close_call}
use Rattle.demand.specs.Tally.{Call, opens, settles, balances, closes, State, number, next, after, Entry, entries}

-- an hour with one period and the plants 10 and 11 of submarket 1 and 20 of submarket 2
abbrev hour : ℕ → ℕ → ℕ → ℕ → ℕ → ℕ → ℕ → Hour
hour q₁ q₂ q₃ whole g₁ g₂ g₃ =
    hour_of (plant 1 10 q₁ ∷ plant 1 11 q₂ ∷ plant 2 20 q₃ ∷ []) (whole ∷ []) (g₁ ∷ g₂ ∷ g₃ ∷ []) 1

-- (m4): Q 101, with factors of 970,000 and 900,000 millionths
abbrev small : Plant
small = record { submarket = 1; number = 1; guarantee = 101; loss = 970000; availability = 900000 }

-- (m3): Q 100 over three periods of 1
abbrev hundred : Plant
hundred = plant 1 1 100

-- (m1) and (m2): the file's hour, and 240 kWh over the same plants; (m5) all Q zero
abbrev h1 : Hour
h1 = hour 100 50 60 180 130 20 30

abbrev h2 : Hour
h2 = hour 100 50 60 240 200 0 40

abbrev h5 : Hour
h5 = hour 0 0 0 180 130 20 30

-- m1 to m8 of 'Hours to prove by hand'
pub record Worked : Type 0 where
  -- 85 | 43 | 22 and 30; nets 45, −23, −22: as the statement shows them (`statement` Worked)
  m1 : allotment h1 ≡ ledger.allotted
  m1·accounts : accounts_of 1300 (nets h1) ≡ ledger.accounts
  m1·covered : covered h1 ≡ 85 ∷ 43 ∷ 52 ∷ []
  m2 : allotment h2 ≡ 114 ∷ 0 ∷ 0 ∷ 0 ∷ 57 ∷ 0 ∷ 0 ∷ 0 ∷ 29 ∷ 40 ∷ 0 ∷ 0 ∷ []
  m2·secondary : secondary h2 ≡ 30
  m2·rights : rights h2 ≡ 14 ∷ 7 ∷ 9 ∷ []
  m2·nets : nets h2 ≡ pos 86 ∷ negsuc 56 ∷ negsuc 28 ∷ []
  m3 : map (λ k. modulated (hour_of (hundred ∷ []) (1 ∷ 1 ∷ 1 ∷ []) (1 ∷ []) k) hundred) (1 ∷ 2 ∷ 3 ∷ []) ≡ 33 ∷ 33 ∷ 34 ∷ []
  m4 : guaranteed (hour_of (small ∷ []) (1 ∷ []) (1 ∷ []) 1) small ≡ 87
  m5 : allotment h5 ≡ 130 ∷ 0 ∷ 0 ∷ 0 ∷ 20 ∷ 0 ∷ 0 ∷ 0 ∷ 0 ∷ 30 ∷ 0 ∷ 0 ∷ []
  m5·nets : nets h5 ≡ pos 0 ∷ pos 0 ∷ pos 0 ∷ []
  -- left 1, 1, 0, 0, need 0, 0, 1, 1: 2 gives 3, then 1 gives 4
  m6 : transfer_call (1 ∷ 1 ∷ 0 ∷ 0 ∷ []) (0 ∷ 0 ∷ 1 ∷ 1 ∷ [])
      ≡ record {
        number = 0;
        table = record { rows = (0 ∷ 0 ∷ 0 ∷ 1 ∷ []) ∷ (0 ∷ 0 ∷ 1 ∷ 0 ∷ []) ∷ (0 ∷ 0 ∷ 0 ∷ 0 ∷ []) ∷ (0 ∷ 0 ∷ 0 ∷ 0 ∷ []) ∷ [] };
      }
  m7 : sharing_call 0 (0 ∷ 0 ∷ []) (7 ∷ 7 ∷ []) ≡ record { number = 0; parts = 0 ∷ 0 ∷ [] }
  m8 : sharing_call 1 (0 ∷ []) (7 ∷ []) ≡ record { number = 25; parts = 7 ∷ [] }

pub worked : Worked
unfolding rowwise sum every at_most joined totals transpose flatten ◌then◌ first_no in_range outcome parts share serve transfer apart sharing_number sharing_call transfer_number transfer_call hour_of modulated guaranteed portion own own_parts table got rest submarkets guarantees secondary covered deficit surplus left_over rights own_cover cover_got own_secondary secondary_got cover_table secondary_table figure nets allotment accounts_of
worked =
    record {
      m1 = refl;
      m1·accounts = refl;
      m1·covered = refl;
      m2 = refl;
      m2·secondary = refl;
      m2·rights = refl;
      m2·nets = refl;
      m3 = refl;
      m4 = refl;
      m5 = refl;
      m5·nets = refl;
      m6 = refl;
      m7 = refl;
      m8 = refl;
    }

-- The file's month as a list of calls, with two that are refused: from a blank month and a ledger of ones
abbrev pub start : State
start = record { month = blank; ledger = record { allotted = replicate 12 1; accounts = replicate 6 (pos 1) } }

abbrev pub calls : List Call
calls =
    balances ∷ opens plants (180 ∷ []) 1300 ∷ closes ∷ settles plants (180 ∷ []) (130 ∷ 20 ∷ 30 ∷ []) (replicate 12 0) ∷ balances ∷ closes ∷ []

-- ... and the month that they leave
abbrev pub closed : Month
closed = record { stage = Closed; plants = 3; periods = 1; tariff = 1300; due = 2 }

-- What that list answers and leaves: its numbers, its ledger and its month, and what a settle at its place and a balance after it answer
pub record Listed : Type 0 where
  numbers : map (λ (e : Entry). e.answered) (entries start calls) ≡ 21 ∷ 0 ∷ 20 ∷ 0 ∷ 0 ∷ 0 ∷ []
  left : (after start calls).ledger ≡ ledger
  settled : let s = after start (balances ∷ opens plants (180 ∷ []) 1300 ∷ closes ∷ []) in
      let r = settle_call s.month plants (180 ∷ []) (130 ∷ 20 ∷ 30 ∷ []) (replicate 12 7) s.ledger in
      let a = r.answer in
      (a.secondary ≡ 0) × (a.guarantees ≡ 210) × (a.secondary_table.rows ≡ no_table)
      × (a.cover_table.rows ≡ (0 ∷ 22 ∷ 0 ∷ 0 ∷ []) ∷ replicate 3 (replicate 4 0))
      × (r.allotment ≡ ledger.allotted)
  columns : let s = after start calls in (balance_call s.month s.ledger).columns ≡ 150 ∷ 30 ∷ 0 ∷ 0 ∷ []
  month : (after start calls).month ≡ closed

pub listed : Listed
unfolding rowwise sum every at_most joined totals transpose flatten ◌then◌ first_no in_range outcome parts share serve transfer apart sharing_number sharing_call transfer_number transfer_call hour_of modulated guaranteed portion own own_parts table got rest submarkets guarantees secondary covered deficit surplus left_over rights own_cover cover_got own_secondary secondary_got cover_table secondary_table figure nets allotment accounts_of column sumℤ is_within in_bounds zeros added posted is_open is_blank sizes_number placed numbered row_number rows_number lengths_number ledger_number tables_number open_number own_number metered_number inputs_number bounds_number settle_number close_number balance_number open_call settle_call balance_call close_call number next after entries
listed = record { numbers = refl; left = refl; settled = (refl, refl, refl, refl, refl); columns = refl; month = refl }

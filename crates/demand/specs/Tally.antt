-- "The tally of a list": calls in a list, the tally from their numbers and arguments alone, and demand 3. Assumes nothing.
use Rattle.std.specs.Prelude.{◌≡◌, ℕ, ◌+◌, ◌*◌, ◌≤◌, List, [], ◌∷◌, ◌++◌, map, pos, ◌+ℤ◌, ◌*ℤ◌, length, take, drop, get_or}
use Rattle.std.proofs.Math.Option.{Option, none, some}
use Rattle.lists.specs.Lists.{sum, sumℤ}
use Rattle.lists.specs.Columns.{within, four, at}
use Rattle.lists.specs.Questions.{outcome}
use Rattle.plants.specs.declared.Plant.{Plant}
use Rattle.hour.specs.Hour.{Hour, hour_of, submarkets, covered, surplus}
use Rattle.ledger.specs.Ledger.{Ledger, allotted_in, net_column, money_column, net_of, money_of, zeros}
use Rattle.month.specs.declared.Month.{Month}
use Rattle.month.specs.Answers.{Settled}
use Rattle.month.specs.declared.Stage.TheVariants.{Blank}
use Rattle.month.specs.Questions.{posted}
use Rattle.month.specs.Calls.{open_call, settle_call, balance_call, close_call}
use Rattle.month.specs.Statement.{statement_call}
use Rattle.statement.specs.Statement.{statement_text}

-- A call, with what it takes besides the month and the ledger
pub data Call : Type 0 where
  opens : List Plant → List ℕ → ℕ → Call
  settles : List Plant → List ℕ → List ℕ → List ℕ → Call
  balances : Call
  closes : Call

-- What goes on from call to call
pub record State : Type 0 where
  pub month : Month
  pub ledger : Ledger

-- The number that a call answers
unfoldable pub number : State → Call → ℕ
number s (opens plants profile tariff) = (open_call s.month plants profile tariff s.ledger).answer.number
number s (settles plants profile metered lent) = (settle_call s.month plants profile metered lent s.ledger).answer.number
number s balances = (balance_call s.month s.ledger).number
number s closes = (close_call s.month).number

-- ... and what it leaves: the month that it hands back, and the ledger
unfoldable pub next : State → Call → State
next s (opens plants profile tariff) =
    let r = open_call s.month plants profile tariff s.ledger in record { month = r.answer.month; ledger = r.ledger }
next s (settles plants profile metered lent) =
    let r = settle_call s.month plants profile metered lent s.ledger in record { month = r.answer.month; ledger = r.ledger }
next s balances = record { month = (balance_call s.month s.ledger).month; ledger = s.ledger }
next s closes = record { month = (close_call s.month).month; ledger = s.ledger }

-- What a list of calls leaves
unfoldable pub after : State → List Call → State
after s [] = s
after s (c ∷ cs) = after (next s c) cs

-- A call and the number that it answered
pub record Entry : Type 0 where
  pub call : Call
  pub answered : ℕ

-- ... of each call of a list
unfoldable pub entries : State → List Call → List Entry
entries s [] = []
entries s (c ∷ cs) = record { call = c; answered = number s c } ∷ entries (next s c) cs

-- The tally: figures as the ledger has, a TEO and a count k; there is none before the first accepted open
pub record Tally : Type 0 where
  pub figures : Ledger
  pub tariff : ℕ
  pub count : ℕ

-- an accepted call
unfoldable pub tallied : Option Tally → Call → Option Tally
tallied t (opens plants profile tariff) = some (record { figures = zeros (length plants); tariff = tariff; count = 0 })
tallied none (settles plants profile metered lent) = none
tallied (some t) (settles plants profile metered lent) =
    let k = t.count + 1 in
    some (record { figures = posted t.figures (hour_of plants profile metered k) t.tariff; tariff = t.tariff; count = k })
tallied t balances = t
tallied t closes = t

-- a list, on from a tally
unfoldable pub tally : Option Tally → List Entry → Option Tally
tally t [] = t
tally t (e ∷ es) = tally (outcome e.answered (tallied t e.call) (λ _. t)) es

-- The hours accepted since the last accepted open, the latest first, after one more accepted call
unfoldable pub hours_after : List Hour → Call → List Hour
hours_after hs (opens plants profile tariff) = []
hours_after hs (settles plants profile metered lent) = hour_of plants profile metered (length hs + 1) ∷ hs
hours_after hs balances = hs
hours_after hs closes = hs

-- ... after a list's calls, of which a refused one changes nothing
unfoldable pub hours : List Hour → List Entry → List Hour
hours hs [] = hs
hours hs (e ∷ es) = hours (outcome e.answered (hours_after hs e.call) (λ _. hs)) es

-- The figures of hours (the latest first) added to a ledger of zeros for p plants, at a tariff
unfoldable pub summed : ℕ → ℕ → List Hour → Ledger
summed p tariff [] = zeros p
summed p tariff (h ∷ hs) = posted (summed p tariff hs) h tariff

-- Generation metered in submarket s; generation and covered guarantee of the plant in row i
abbrev pub metered_in : ℕ → Hour → ℕ
metered_in s h = sum (within s (submarkets h) h.metered)

abbrev pub metered_of_row : ℕ → Hour → ℕ
metered_of_row i h = get_or h.metered i 0

abbrev pub covered_of_row : ℕ → Hour → ℕ
covered_of_row i h = get_or (covered h) i 0

-- The four figures of row i, added up
abbrev pub row_allotted : ℕ → Ledger → ℕ
row_allotted i l = sum (take 4 (drop (4 * i) l.allotted))

-- A ledger adds up over hours: columns, rows, nets, money, covered guarantees
pub record AddsUp (l : Ledger) (hs : List Hour) : Type 0 where
  pub columns : (s : ℕ) → 1 ≤ s → s ≤ 4 → sum (allotted_in s l) ≡ sum (map (metered_in s) hs)
  pub rows : (i : ℕ) → pos (row_allotted i l) +ℤ net_of i l ≡ pos (sum (map (metered_of_row i) hs))
  pub nets_zero : sumℤ (net_column l) ≡ pos 0
  pub money_zero : sumℤ (money_column l) ≡ pos 0
  pub covered_met : (i : ℕ) → sum (map (covered_of_row i) hs) ≤ row_allotted i l

-- With an accepted open, the ledger is the tally, and adds up over the hours; the month goes with them
pub record IsTally (s : State) (t : Tally) (hs : List Hour) : Type 0 where
  pub figures : s.ledger ≡ t.figures
  pub sums : s.ledger ≡ summed s.month.plants t.tariff hs
  pub adds_up : AddsUp s.ledger hs
  pub counted : t.count ≡ length hs
  pub due : s.month.due ≡ t.count + 1
  pub tariff : s.month.tariff ≡ t.tariff
  -- each row's money is its net × TEO
  pub priced : (i : ℕ) → money_of i s.ledger ≡ net_of i s.ledger *ℤ pos t.tariff

-- ... with none, the ledger is as it was
abbrev pub Left : State → State → Option Tally → List Hour → Type 0
Left start s none hs = s.ledger ≡ start.ledger
Left start s (some t) hs = IsTally s t hs

-- What submarket s sends out by both answered tables
abbrev pub sent : ℕ → Settled → ℕ
sent s r = sum (at s r.cover_table.rows []) + sum (at s r.secondary_table.rows [])

-- Demand 3, of a list of calls: what it leaves; each accepted balance and each accepted settle in it, where `before` are the calls before
pub record Demand3 (start : State) (calls : List Call) : Type 0 where
  pub left : Left start (after start calls) (tally none (entries start calls)) (hours [] (entries start calls))
  pub balanced : (before rest : List Call) → calls ≡ before ++ balances ∷ rest
      → let s = after start before in
      let r = balance_call s.month s.ledger in
      r.number ≡ 0
      → (t : Tally) × (tally none (entries start before) ≡ some t)
      × (r.columns ≡ four (λ k. sum (allotted_in k t.figures))) × (r.net ≡ pos 0) × (r.money ≡ pos 0)
  pub sent_out : (before rest : List Call) (plants : List Plant) (profile metered lent : List ℕ)
      → calls ≡ before ++ settles plants profile metered lent ∷ rest
      → let s = after start before in
      let r = (settle_call s.month plants profile metered lent s.ledger).answer in
      r.number ≡ 0
      → (t : Tally) × (tally none (entries start before) ≡ some t)
      × ((k : ℕ) → 1 ≤ k → k ≤ 4 → sent k r ≤ at k (surplus (hour_of plants profile metered (t.count + 1))) 0)

-- ... of every list of calls, from a blank month and any ledger
abbrev pub Demand3·holds : Type 0
Demand3·holds = (start : State) → start.month.stage ≡ Blank → (calls : List Call) → Demand3 start calls

-- An accepted statement after a list is that of the tally: 'the count is .. that of the settles accepted since the last accepted opening'
pub record StatementOfTally (start : State) (calls : List Call) (plants : List Plant) (lent : List ℕ) : Type 0 where
  pub tallied : Tally
  pub is_tally : tally none (entries start calls) ≡ some tallied
  pub text : let s = after start calls in
      let text = statement_text (length (hours [] (entries start calls))) plants tallied.figures in
      (statement_call s.month plants s.ledger lent).bytes ≡ text ++ drop (length text) lent

-- ... after every list of calls from a blank month, whatever plants and bytes are lent
abbrev pub StatementOfTally·holds : Type 0
StatementOfTally·holds = (start : State) → start.month.stage ≡ Blank → (calls : List Call) (plants : List Plant) (lent : List ℕ)
    → (statement_call (after start calls).month plants (after start calls).ledger lent).answer.number ≡ 0 → StatementOfTally start calls plants lent

-- Demand 3: after any list of calls. Assumes nothing.
use mathlib.Core.Path.{◌≡◌, refl, sym, ap, ap₂, ◌∙◌, subst}
use mathlib.Core.Bool.{true, not, false≢true}
use Prim.Native.Nat.{ℕ, zero, suc, ◌+◌, ◌-◌, ◌≤◌}
use native.Mathlib.Omega.{arith}
use mathlib.Core.List.{List, [], ◌∷◌, ◌++◌}
use mathlib.Core.Option.{Option, none, some}
use lib.IntN.{pos, ◌*ℤ◌}
use lib.ListN.{length, drop}
use Rattle.lists.specs.Lists.{sum, sumℤ}
use Rattle.lists.specs.Columns.{four, at}
use Rattle.lists.specs.Questions.{outcome}
use Rattle.lists.proofs.Questions.{accepted, number_itself, outcome-part}
use Rattle.plants.specs.declared.Plant.{Plant}
use Rattle.hour.specs.Hour.{Hour, hour_of, surplus, cover_table, secondary_table}
use Rattle.hour.proofs.Hour.{sent-sum}
use Rattle.ledger.specs.Ledger.{Ledger, zeros, allotted_in, net_column, money_column, net_of, money_of}
use Rattle.month.specs.declared.Month.{Month}
use Rattle.month.specs.Answers.{Balanced, Ended}
use Rattle.month.specs.declared.Stage.TheVariants.{Blank}
use Rattle.month.specs.Questions.{is_open, is_blank, open_number, settle_number, close_number, balance_number, posted}
use Rattle.month.specs.Calls.{opened_month, onward, closed_month, OpenEnd, open_call, SettleEnd, settle_call, balance_call, close_call}
use Rattle.month.specs.Statement.{statement_number, statement_of, StatementEnd, statement_call}
use Rattle.statement.specs.Statement.{statement_text}
use Rattle.demand.specs.Tally.{Call, opens, settles, balances, closes, State, number, next, after, entries, Tally, tallied, tally, hours_after, hours, summed, AddsUp, IsTally, Left, sent, Demand3·holds, StatementOfTally·holds}
use Rattle.demand.proofs.Sums.{zeros-add_up, zeros-priced, posted-adds_up, posted-priced}
use Rattle.month.proofs.Accepted.{open_number_lem, settle_number_lem, balance_number_lem, close_number_lem, Settles, settle_accepted, close_accepted}
use Rattle.month.proofs.Asked.{balance}
use Rattle.month.proofs.StatementAsked.{granted}

-- what holds between two calls
abbrev Inv : State → State → Option Tally → List Hour → Type 0
Inv start s none hs = (s.month.stage ≡ Blank) × (s.ledger ≡ start.ledger)
Inv start s (some t) hs = IsTally s t hs

-- a blank month is not open
blank_shut : (m : Month) → m.stage ≡ Blank → is_open m.stage ≡ true → ⊥
unfolding is_open
blank_shut m b o = false≢true (sym (ap is_open b) ∙ o)

-- what an accepted call leaves
changed : State → Call → State
changed s (opens plants profile tariff) =
    record { month = opened_month (length plants) (length profile) tariff; ledger = zeros (length plants) }
changed s (settles plants profile metered lent) =
    record { month = onward s.month; ledger = posted s.ledger (hour_of plants profile metered s.month.due) s.month.tariff }
changed s balances = s
changed s closes = record { month = closed_month s.month; ledger = s.ledger }

next_is : (s : State) (c : Call) → next s c ≡ outcome (number s c) (changed s c) (λ _. s)
unfolding next number changed
next_is s (opens plants profile tariff) =
    unfold open_call in outcome-part (λ (r : OpenEnd). record { month = r.answer.month; ledger = r.ledger }) (open_number s.month plants profile tariff s.ledger) _ _
    ∙ ap (λ (n : ℕ). outcome n (changed s (opens plants profile tariff)) (λ _. s)) (sym (open_number_lem s.month plants profile tariff s.ledger))
next_is s (settles plants profile metered lent) =
    unfold settle_call in outcome-part (λ (r : SettleEnd). record { month = r.answer.month; ledger = r.ledger }) (settle_number s.month plants profile metered lent s.ledger) _ _
    ∙ ap (λ (n : ℕ). outcome n (changed s (settles plants profile metered lent)) (λ _. s)) (sym (settle_number_lem s.month plants profile metered lent s.ledger))
next_is s balances =
    unfold balance_call in outcome-part (λ (r : Balanced). record { month = r.month; ledger = s.ledger }) (balance_number s.month s.ledger) _ _
    ∙ ap (λ (n : ℕ). outcome n (changed s balances) (λ _. s)) (sym (balance_number_lem s.month s.ledger))
next_is s closes =
    unfold close_call in outcome-part (λ (r : Ended). record { month = r.month; ledger = s.ledger }) (close_number s.month) _ _
    ∙ ap (λ (n : ℕ). outcome n (changed s closes) (λ _. s)) (sym (close_number_lem s.month))

-- an accepted settle
module _ (s : State) (t : Tally) (hs : List Hour) (inv : IsTally s t hs) (plants : List Plant) (profile metered lent : List ℕ)
    (ok : Settles s.month plants profile metered) where
  abbrev hour : ℕ → Hour
  hour k = hour_of plants profile metered k

  settled : IsTally (changed s (settles plants profile metered lent))
      (record { figures = posted t.figures (hour (t.count + 1)) t.tariff; tariff = t.tariff; count = t.count + 1 })
      (hour (length hs + 1) ∷ hs)
  unfolding changed summed
  settled =
      record {
        figures = λ i. posted (inv.figures i) (hour (inv.due i)) (inv.tariff i);
        sums = λ i. posted (inv.sums i) (hour ((inv.due ∙ ap (λ (n : ℕ). n + 1) inv.counted) i)) (inv.tariff i);
        adds_up =
            subst (λ (k : ℕ). AddsUp (posted s.ledger (hour s.month.due) s.month.tariff) (hour k ∷ hs))
            (inv.due ∙ ap (λ (n : ℕ). n + 1) inv.counted)
            (posted-adds_up s.ledger (hour s.month.due) (ok.sound s.month.due) s.month.tariff hs inv.adds_up);
        counted = let e = inv.counted in omega arith;
        due = ap (λ (n : ℕ). n + 1) inv.due;
        tariff = inv.tariff;
        priced = subst (λ (p : ℕ). (i : ℕ) → money_of i (posted s.ledger (hour s.month.due) s.month.tariff) ≡ net_of i (posted s.ledger (hour s.month.due) s.month.tariff) *ℤ pos p)
            inv.tariff
            (posted-priced s.ledger (hour s.month.due) (ok.sound s.month.due) s.month.tariff
            (subst (λ (p : ℕ). (i : ℕ) → money_of i s.ledger ≡ net_of i s.ledger *ℤ pos p) (sym inv.tariff) inv.priced));
      }

-- an accepted call keeps it
kept : (start s : State) (t : Option Tally) (hs : List Hour) → Inv start s t hs → (c : Call) → number s c ≡ 0
    → Inv start (changed s c) (tallied t c) (hours_after hs c)
unfolding number changed tallied hours_after summed
kept start s t hs inv (opens plants profile tariff) e = record { figures = refl; sums = refl; adds_up = zeros-add_up (length plants); counted = refl; due = refl; tariff = refl; priced = zeros-priced (length plants) tariff }
kept start s none hs inv (settles plants profile metered lent) e =
    absurd (blank_shut s.month inv.0 (settle_accepted s.month plants profile metered lent s.ledger e).is_opened)
kept start s (some t) hs inv (settles plants profile metered lent) e =
    settled s t hs inv plants profile metered lent (settle_accepted s.month plants profile metered lent s.ledger e)
kept start s t hs inv balances e = inv
kept start s none hs inv closes e = absurd (blank_shut s.month inv.0 (close_accepted s.month (sym (close_number_lem s.month) ∙ e)))
kept start s (some t) hs inv closes e =
    record { figures = inv.figures; sums = inv.sums; adds_up = inv.adds_up; counted = inv.counted; due = inv.due; tariff = inv.tariff; priced = inv.priced }

step : (start s : State) (t : Option Tally) (hs : List Hour) → Inv start s t hs → (c : Call)
    → Inv start (next s c) (outcome (number s c) (tallied t c) (λ _. t)) (outcome (number s c) (hours_after hs c) (λ _. hs))
unfolding outcome
step start s t hs inv c =
    subst (λ x. Inv start x (outcome (number s c) (tallied t c) (λ _. t)) (outcome (number s c) (hours_after hs c) (λ _. hs))) (sym (next_is s c)) (go (number s c) refl)
  where
    go : (n : ℕ) → number s c ≡ n → Inv start (outcome n (changed s c) (λ _. s)) (outcome n (tallied t c) (λ _. t)) (outcome n (hours_after hs c) (λ _. hs))
    go zero e = kept start s t hs inv c e
    go (suc n) e = inv

-- a list of calls keeps it
run : (start s : State) (t : Option Tally) (hs : List Hour) → Inv start s t hs → (cs : List Call)
    → Inv start (after s cs) (tally t (entries s cs)) (hours hs (entries s cs))
unfolding after entries tally hours
run start s t hs inv [] = inv
run start s t hs inv (c ∷ cs) = run start (next s c) _ _ (step start s t hs inv c) cs

left_of : (start s : State) (t : Option Tally) (hs : List Hour) → Inv start s t hs → Left start s t hs
left_of start s none hs inv = inv.1
left_of start s (some t) hs inv = inv

-- an accepted balance
balanced' : (start s : State) (t? : Option Tally) (hs : List Hour) → Inv start s t? hs → (balance_call s.month s.ledger).number ≡ 0
    → (t : Tally) × (t? ≡ some t) × ((balance_call s.month s.ledger).columns ≡ four (λ k. sum (allotted_in k t.figures)))
    × ((balance_call s.month s.ledger).net ≡ pos 0) × ((balance_call s.month s.ledger).money ≡ pos 0)
unfolding is_blank
balanced' start s none hs inv e =
    absurd (false≢true (sym (ap (λ x. not (is_blank x)) inv.0) ∙ (balance s.month s.ledger (sym (balance_number_lem s.month s.ledger) ∙ e)).not_blank))
balanced' start s (some t) hs inv e =
    let yes = sym (balance_number_lem s.month s.ledger) ∙ e in
    let r = balance_yes s.month s.ledger yes in (
      t,
      refl,
      ap (λ (b : Balanced). b.columns) r ∙ (λ i. four (λ k. sum (allotted_in k (inv.figures i)))),
      ap (λ (b : Balanced). b.net) r ∙ inv.adds_up.nets_zero,
      ap (λ (b : Balanced). b.money) r ∙ inv.adds_up.money_zero,
    )
  where
    balance_yes : (m : Month) (l : Ledger) → balance_number m l ≡ 0 → balance_call m l
        ≡ record { number = 0; month = m; columns = four (λ s. sum (allotted_in s l)); net = sumℤ (net_column l); money = sumℤ (money_column l) }
    balance_yes m l e = unfold balance_call in accepted (balance_number m l) _ _ e

-- an accepted settle
settle_yes : (m : Month) (plants : List Plant) (profile metered lent : List ℕ) (l : Ledger) → (settle_call m plants profile metered lent l).answer.number ≡ 0
    → (let r = (settle_call m plants profile metered lent l).answer in let h = hour_of plants profile metered m.due in
    (r.cover_table.rows ≡ cover_table h) × (r.secondary_table.rows ≡ secondary_table h))
unfolding settle_call
settle_yes m plants profile metered lent l e =
    let r = accepted (settle_number m plants profile metered lent l) _ _ (sym (settle_number_lem m plants profile metered lent l) ∙ e) in
    (ap (λ (x : SettleEnd). x.answer.cover_table.rows) r, ap (λ (x : SettleEnd). x.answer.secondary_table.rows) r)

sent_out' : (s : State) (plants : List Plant) (profile metered lent : List ℕ) → (settle_call s.month plants profile metered lent s.ledger).answer.number ≡ 0
    → (k : ℕ) → 1 ≤ k → k ≤ 4
    → sent k (settle_call s.month plants profile metered lent s.ledger).answer ≤ at k (surplus (hour_of plants profile metered s.month.due)) 0
sent_out' s plants profile metered lent e k l h =
    let x = hour_of plants profile metered s.month.due in
    let r = settle_yes s.month plants profile metered lent s.ledger e in
    rw (r.0, r.1)
    (sent-sum x ((settle_accepted s.month plants profile metered lent s.ledger e).sound s.month.due) k l h)

-- ... in the period after the tally's count
sent_out'' : (start s : State) (t? : Option Tally) (hs : List Hour) → Inv start s t? hs
    → (plants : List Plant) (profile metered lent : List ℕ) → (settle_call s.month plants profile metered lent s.ledger).answer.number ≡ 0
    → (t : Tally) × (t? ≡ some t)
    × ((k : ℕ) → 1 ≤ k → k ≤ 4
    → sent k (settle_call s.month plants profile metered lent s.ledger).answer ≤ at k (surplus (hour_of plants profile metered (t.count + 1))) 0)
sent_out'' start s none hs inv plants profile metered lent e =
    absurd (blank_shut s.month inv.0 (settle_accepted s.month plants profile metered lent s.ledger e).is_opened)
sent_out'' start s (some t) hs inv plants profile metered lent e = (
  t,
  refl,
  λ k l h. subst
      (λ (d : ℕ). sent k (settle_call s.month plants profile metered lent s.ledger).answer ≤ at k (surplus (hour_of plants profile metered d)) 0)
      inv.due (sent_out' s plants profile metered lent e k l h),
)

pub demand3 : Demand3·holds
demand3 start blank calls =
    record {
      left = left_of start (after start calls) (tally none (entries start calls)) (hours [] (entries start calls)) (run start start none [] (blank, refl) calls);
      balanced = λ before rest split e.
          balanced' start (after start before) (tally none (entries start before)) (hours [] (entries start before)) (run start start none [] (blank, refl) before) e;
      sent_out = λ before rest plants profile metered lent split e.
          sent_out'' start (after start before) (tally none (entries start before)) (hours [] (entries start before)) (run start start none [] (blank, refl) before)
          plants profile metered lent e;
    }

-- an accepted statement writes its text
statement-number : (m : Month) (plants : List Plant) (l : Ledger) (lent : List ℕ) → (statement_call m plants l lent).answer.number ≡ statement_number m plants l (length lent)
unfolding statement_call
statement-number m plants l lent = outcome-part (λ (r : StatementEnd). r.answer.number) (statement_number m plants l (length lent)) _ _ ∙ number_itself _

stated' : (start s : State) (t? : Option Tally) (hs : List Hour) → Inv start s t? hs → (plants : List Plant) (lent : List ℕ)
    → statement_number s.month plants s.ledger (length lent) ≡ 0
    → (t : Tally) × (t? ≡ some t)
    × (let text = statement_text (length hs) plants t.figures in (statement_call s.month plants s.ledger lent).bytes ≡ text ++ drop (length text) lent)
unfolding is_blank statement_call statement_of
stated' start s none hs inv plants lent e =
    absurd (false≢true (sym (ap (λ x. not (is_blank x)) inv.0) ∙ (granted s.month plants s.ledger (length lent) e).sized.due.not_blank))
stated' start s (some t) hs inv plants lent e =
    let settled : s.month.due - 1 ≡ length hs = omega (arith, inv.due, inv.counted) in
    let text : statement_text (s.month.due - 1) plants s.ledger ≡ statement_text (length hs) plants t.figures =
    ap₂ (λ n l. statement_text n plants l) settled inv.figures in
    (t, refl, ap (λ (x : StatementEnd). x.bytes) (accepted (statement_number s.month plants s.ledger (length lent)) _ _ e) ∙ ap (λ x. x ++ drop (length x) lent) text)

pub statement_of_tally : StatementOfTally·holds
statement_of_tally start blank calls plants lent e =
    let s = after start calls in
    let r = stated' start s (tally none (entries start calls)) (hours [] (entries start calls)) (run start start none [] (blank, refl) calls) plants lent
    (sym (statement-number s.month plants s.ledger lent) ∙ e) in
    record { tallied = r.0; is_tally = r.1; text = r.2 }

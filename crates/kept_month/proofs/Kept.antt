-- Months as a C program keeps them: what each call answers, and the promises of `specs/Laws`. Assumes nothing.
use mathlib.Core.Path.{◌≡◌, refl, sym, ◌∙◌}
use mathlib.Core.List.{List}
use Prim.Native.Nat.{ℕ, zero, suc}
use lib.ListN.{length}
use Rattle.lists.specs.Questions.{outcome}
use Rattle.lists.proofs.Questions.{same_either, outcome-part}
use Rattle.std.specs.Prelude.{Result}
use Rattle.refusals.specs.declared.Refusal.{Refusal}
use Rattle.plants.specs.declared.Plant.{Plant}
use Rattle.ledger.specs.Ledger.{Ledger}
use Rattle.month.specs.declared.Month.{Month}
use Rattle.month.specs.declared.Stage.{Stage}
use Rattle.month.specs.declared.Stage.TheVariants.{Blank, Open, Closed}
use Rattle.month.specs.Answers.{Ended, Settled, Balanced, stated, sized}
use Rattle.month.specs.Questions.{open_number, settle_number, close_number, balance_number}
use Rattle.month.specs.Calls.{OpenEnd, open_call, SettleEnd, settle_call, balance_call, close_call}
use Rattle.month.specs.Statement.{statement_number, StatementEnd, statement_call, Sizing}
use Rattle.kept_month.specs.declared.KeptMonth.{KeptMonth}
use Rattle.kept_month.specs.declared.KeptEnd.{KeptEnd}
use Rattle.kept_month.specs.declared.KeptSettle.{KeptSettle}
use Rattle.kept_month.specs.declared.KeptStated.{KeptStated}
use Rattle.kept_month.specs.declared.KeptSized.{KeptSized}
use Rattle.kept_month.specs.Months.{stage_of, stage_number, month_of, kept_of, handed_back, ended_kept, settled_kept, stated_kept, sized_kept, OpenKeptEnd, open_kept, SettleKeptEnd, settle_kept, close_kept, balance_kept, StatementKeptEnd, statement_kept, SizeKept}
use Rattle.kept_month.specs.Laws.{Months}

-- ---- the stage

stage_back : (s : Stage) → stage_of (stage_number s) ≡ s
unfolding stage_of stage_number
stage_back Blank = refl
stage_back Open = refl
stage_back Closed = refl

-- ---- what the calls answer, from what their callees do

pub opens : (k : KeptMonth) (plants : List Plant) (profile : List ℕ) (tariff : ℕ) (l after : Ledger) {m : Month} {x : Ended} {r : KeptEnd} → m ≡ month_of k
    → ◌≡◌ {A = OpenEnd} (record { answer = x; ledger = after }) (open_call m plants profile tariff l) → r ≡ ended_kept k x
    → ◌≡◌ {A = OpenKeptEnd} (record { answer = r; ledger = after }) (open_kept k plants profile tariff l)
unfolding open_kept
opens k plants profile tariff l after p e q = rw (q, ← p, ← e)

pub settles : (k : KeptMonth) (plants : List Plant) (profile metered lent allotment : List ℕ) (l after : Ledger) {m : Month} {x : Settled} {r : KeptSettle} → m ≡ month_of k
    → ◌≡◌ {A = SettleEnd} (record { answer = x; allotment = allotment; ledger = after }) (settle_call m plants profile metered lent l) → r ≡ settled_kept k x
    → ◌≡◌ {A = SettleKeptEnd} (record { answer = r; allotment = allotment; ledger = after }) (settle_kept k plants profile metered lent l)
unfolding settle_kept
settles k plants profile metered lent allotment l after p e q = rw (q, ← p, ← e)

pub states : (k : KeptMonth) (plants : List Plant) (l : Ledger) (lent after : List ℕ) (a : Result ℕ Refusal) {m : Month} {r : KeptStated} → m ≡ month_of k
    → ◌≡◌ {A = StatementEnd} (record { answer = stated a m; bytes = after }) (statement_call m plants l lent) → r ≡ stated_kept k (stated a (month_of k))
    → ◌≡◌ {A = StatementKeptEnd} (record { answer = r; bytes = after }) (statement_kept k plants l lent)
unfolding statement_kept
states k plants l lent after a p e q = rw (q, ← p, ← e)

pub sizes : (k : KeptMonth) (plants : List Plant) (l : Ledger) (a : Result ℕ Refusal) {m : Month} {r : KeptSized} → m ≡ month_of k → Sizing m plants l (sized a m)
    → r ≡ sized_kept k (sized a (month_of k)) → SizeKept k plants l r
unfolding sized_kept
sizes k plants l a {m} p s q =
    let x = sized a m in
    let own : Sizing m plants l (record { number = x.number; month = m; size = x.size }) =
    record { number = s.number; month = refl; refused = s.refused; enough = s.enough; most = s.most } in
    rw (q, ← p) (record { month = refl; sizing = rw (← p) own })

-- ---- the promises

back : (m : Month) → month_of (kept_of m) ≡ m
unfolding month_of kept_of
back m = rw (stage_back m.stage)

-- what a call leaves by its number: accepted, its month is kept; refused, it is the one that was meant
handed : {A : Type 0} (number : A → ℕ) (month : A → Month) (k : KeptMonth) (n : ℕ) (y : A) (f : ℕ → A)
    → number y ≡ 0 → ((i : ℕ) → number (f i) ≡ i) → ((i : ℕ) → month (f i) ≡ month_of k)
    → month_of (handed_back (number (outcome n y f)) k (month (outcome n y f))) ≡ month (outcome n y f)
unfolding handed_back outcome
handed number month k zero y f a b c = rw a (back _)
handed number month k (suc n) y f a b c = rw (b (suc n)) (sym (c (suc n)))

pub months : Months
unfolding open_kept settle_kept close_kept balance_kept statement_kept ended_kept settled_kept stated_kept open_call settle_call close_call balance_call statement_call
months =
    record {
      back = back;
      opened = λ k plants profile tariff l.
          handed (λ (r : OpenEnd). r.answer.number) (λ (r : OpenEnd). r.answer.month) k (open_number (month_of k) plants profile tariff l) _ _ refl (λ i. refl) (λ i. refl);
      settled = λ k plants profile metered lent l.
          handed (λ (r : SettleEnd). r.answer.number) (λ (r : SettleEnd). r.answer.month) k (settle_number (month_of k) plants profile metered lent l) _ _ refl (λ i. refl) (λ i. refl);
      closed = λ k. handed (λ (r : Ended). r.number) (λ (r : Ended). r.month) k (close_number (month_of k)) _ _ refl (λ i. refl) (λ i. refl);
      balanced = λ k l. sym (outcome-part (λ (r : Balanced). r.month) (balance_number (month_of k) l) _ _ ∙ same_either _ _);
      stated = λ k plants l lent. sym (outcome-part (λ (r : StatementEnd). r.answer.month) (statement_number (month_of k) plants l (length lent)) _ _ ∙ same_either _ _);
      sized = λ k plants l r h. rw h.month h.sizing;
    }

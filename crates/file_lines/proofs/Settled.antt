-- A G line that is settled. Assumes nothing.
use mathlib.Core.Path.{◌≡◌, refl, sym, ap, ap₂, ◌∙◌}
use mathlib.Core.Bool.{true}
use mathlib.Core.List.{List}
use Prim.Native.Nat.{ℕ, ◌+◌, ◌*◌, ◌≤◌}
use native.Mathlib.Omega.{arith}
use lib.IntN.{ℤ}
use lib.ListN.{length, take, replicate, length-replicate, take-append-drop}
use lib.Seq.{length-take-le}
use Rattle.lists.specs.Questions.{outcome}
use Rattle.lists.proofs.Questions.{accepted}
use Rattle.plants.specs.declared.Plant.{Plant}
use Rattle.ledger.specs.Ledger.{Ledger, in_bounds}
use Rattle.month.specs.declared.Month.{Month}
use Rattle.std.specs.Prelude.{Result, Ok, Err}
use Rattle.refusals.specs.declared.Refusal.{Refusal}
use Rattle.refusals.specs.Numbers.{number}
use Rattle.hour.specs.declared.Worked.{Worked}
use Rattle.month.specs.Answers as answer
use Rattle.month.specs.Answers.{Settled}
use Rattle.month.specs.Questions.{settle_number}
use Rattle.month.specs.Calls.{onward, SettleEnd, settle_call}
use Rattle.month.proofs.Accepted.{settle_number_lem}
use Rattle.month.proofs.Asked as question
use Rattle.file_lines.specs.declared.FileStage.TheVariants.{Metering}
use Rattle.file_lines.specs.declared.MonthFile.{MonthFile}
use Rattle.file_lines.specs.File as file
use Rattle.file_lines.specs.File.{settles, settled}
use Rattle.file_lines.specs.State.{Kept, ledger_of, Lent, Settling, Valid, Moved, at_stage, monthed, at_refusal, at_call, settled_of}
use Rattle.file_lines.proofs.Moves.{moved_as, refuses-by, called}
use Rattle.file_lines.proofs.Opened.{with_ledger, put_back, lent-after, ledger-after, settles_moved}

-- of the allotment list settle asks the length alone
settle_alike : (m : Month) (plants : List Plant) (profile metered lent other : List ℕ) (l : Ledger) → length lent ≡ length other
    → settle_number m plants profile metered lent l ≡ settle_number m plants profile metered other l
unfolding settle_number
settle_alike m plants profile metered lent other l p = rw p

-- accepted, what settle answers and leaves does not hang on the allotment list lent
settle_same : (m : Month) (plants : List Plant) (profile metered lent other : List ℕ) (l : Ledger)
    → settle_number m plants profile metered lent l ≡ 0 → settle_number m plants profile metered other l ≡ 0
    → settle_call m plants profile metered lent l ≡ settle_call m plants profile metered other l
unfolding settle_call
settle_same m plants profile metered lent other l p q = accepted _ _ _ p ∙ sym (accepted _ _ _ q)

-- ... the month with the next period due
pub settle_month : (m : Month) (plants : List Plant) (profile metered lent : List ℕ) (l : Ledger) → settle_number m plants profile metered lent l ≡ 0
    → (settle_call m plants profile metered lent l).answer.month ≡ onward m
unfolding settle_call
settle_month m plants profile metered lent l z = ap (λ (r : SettleEnd). r.answer.month) (accepted _ _ _ z)

-- ... and a ledger in its bounds
settle_bounded : (m : Month) (plants : List Plant) (profile metered lent : List ℕ) (l : Ledger) → settle_number m plants profile metered lent l ≡ 0
    → in_bounds (settle_call m plants profile metered lent l).ledger ≡ true
unfolding settle_call
settle_bounded m plants profile metered lent l z =
    ap (λ (r : SettleEnd). in_bounds r.ledger) (accepted _ _ _ z) ∙ (question.settled m plants profile metered lent l z).1.1

module _ (f : MonthFile) (k : Kept) (metering : f.stage ≡ Metering) (v : Valid f k) (metered lent : List ℕ) (end : Settled) (ds ys : List ℕ) (zs : List ℤ)
    (few : length lent ≡ 4 * f.month.plants)
    (e : ◌≡◌ {A = SettleEnd} (record { answer = end; allotment = ds; ledger = record { allotted = ys; accounts = zs } })
    (settle_call f.month (take f.month.plants k.plants) (take f.month.periods k.profile) metered lent (ledger_of f.month.plants k)))
    (many : length ys ≡ length (take (4 * f.month.plants) k.allotted)) (more : length zs ≡ length (take (2 * f.month.plants) k.accounts)) where
  abbrev m : Month
  m = f.month

  abbrev rows : List Plant
  rows = take m.plants k.plants

  abbrev profile : List ℕ
  profile = take m.periods k.profile

  abbrev ledger : Ledger
  ledger = ledger_of m.plants k

  abbrev after : Kept
  after = with_ledger k m.plants ys zs

  abbrev zeros : List ℕ
  zeros = replicate (4 * length rows) 0

  g : Settling f k
  g = v.settling metering

  h_rows : length rows ≡ m.plants
  h_rows = length-take-le m.plants k.plants (omega (arith, g.counted.plants, v.lent.plants))

  lents : Lent after
  lents = lent-after k v.lent m.plants g.counted.plants ys zs many more

  alike : settle_number m rows profile metered lent ledger ≡ settle_number m rows profile metered zeros ledger
  alike =
      settle_alike m rows profile metered lent zeros ledger
      (few ∙ ap (λ (n : ℕ). 4 * n) (sym h_rows) ∙ sym (length-replicate (4 * length rows) 0))

  asks : end.number ≡ settle_number m rows profile metered lent ledger
  asks = ap (λ (r : SettleEnd). r.answer.number) e ∙ settle_number_lem _ _ _ _ _ _

  settling_refused : (end.number ≡ 0 → ⊥) → Moved f (settled_of f k metered) (at_refusal f end.number) after
  unfolding settled_of settled
  settling_refused z =
      refuses-by f after lents _ end.number (settle_call m rows profile metered zeros ledger).answer.number _ refl
      (asks ∙ alike ∙ sym (settle_number_lem m rows profile metered zeros ledger)) z

  module _ (z : end.number ≡ 0) where
    none : settle_number m rows profile metered lent ledger ≡ 0
    none = sym asks ∙ z

    left : ◌≡◌ {A = SettleEnd} (record { answer = end; allotment = ds; ledger = record { allotted = ys; accounts = zs } }) (settle_call m rows profile metered zeros ledger)
    left = e ∙ settle_same m rows profile metered lent zeros ledger none (sym alike ∙ none)

    month_is : end.month ≡ onward m
    month_is = ap (λ (r : SettleEnd). r.answer.month) e ∙ settle_month m rows profile metered lent ledger none

    ledger_is : ledger_of m.plants after ≡ record { allotted = ys; accounts = zs }
    ledger_is = ledger-after k v.lent m.plants g.counted.plants ys zs many more

    settles_on : settled_of f k metered ≡ settles rows profile end.month (record { allotted = ys; accounts = zs })
    unfolding settled_of settled outcome
    settles_on =
        ap (λ (r : SettleEnd). outcome r.answer.number (settles rows profile r.answer.month r.ledger) (file.refuses (f.count + 1))) (sym left) ∙ rw z

    settling-settled : Moved f (settled_of f k metered) (monthed (at_stage f Metering) end.month) after
    settling-settled =
        moved_as f after lents
        (settles_moved f after lents (onward m) ledger_is
        (record {
          is_opened = g.counted.is_opened;
          plants = g.counted.plants;
          some = g.counted.some;
          periods = g.counted.periods;
          due = omega (arith, (question.settled m rows profile metered lent ledger none).0.meter.due);
          lines = omega (arith, g.counted.lines);
        })
        g.rows (ap (λ (r : SettleEnd). in_bounds r.ledger) e ∙ settle_bounded m rows profile metered lent ledger none))
        (ap (monthed (at_stage f Metering)) (sym month_is))
        (ap (λ (n : Month). settles rows profile n (record { allotted = ys; accounts = zs })) (sym month_is) ∙ sym settles_on)

  settling_called : {r : MonthFile} → r ≡ at_call f end.number end.month → Moved f (settled_of f k metered) r after
  settling_called = called f end.number end.month (λ r. Moved f (settled_of f k metered) r after) settling_refused settling-settled

-- the number and the month of an answer
answer_number : (r : Result Worked Refusal) (m : Month) → (answer.settled r m).number ≡ number r
answer_number (Ok w) m = refl
answer_number (Err n) m = refl

answer_month : (r : Result Worked Refusal) (m : Month) → (answer.settled r m).month ≡ m
answer_month (Ok w) m = refl
answer_month (Err n) m = refl

-- what settle answers and leaves of the period due
-- a month's plants have room
pub few_enough : {f : MonthFile} {k : Kept} → f.stage ≡ Metering → Valid f k → f.month.plants ≤ 512
few_enough s v = (v.settling s).counted.plants

pub settling_answered : {f : MonthFile} {k : Kept} → f.stage ≡ Metering → Valid f k → (metered : List ℕ) (r : Result Worked Refusal) (m : Month) {ds ys : List ℕ} {zs : List ℤ}
    → ◌≡◌ {A = SettleEnd} (record { answer = answer.settled r m; allotment = ds; ledger = record { allotted = ys; accounts = zs } })
    (settle_call f.month (take f.month.plants k.plants) (take f.month.periods k.profile) metered (take (4 * f.month.plants) (replicate 2048 0))
    (record { allotted = take (4 * f.month.plants) k.allotted; accounts = take (2 * f.month.plants) k.accounts }))
    → length ys ≡ length (take (4 * f.month.plants) k.allotted) → length zs ≡ length (take (2 * f.month.plants) k.accounts)
    → {g : MonthFile} → g ≡ at_call f (number r) m → Moved f (settled_of f k metered) g (put_back k f.month.plants f.month.periods ys zs)
unfolding ledger_of
settling_answered {f} {k} s v metered r m e many more q =
    rw (take-append-drop f.month.periods k.profile)
    (settling_called _ _ s v _ _ _ _ _ _
    (length-take-le _ (replicate 2048 0) (omega (arith, (v.settling s).counted.plants, length-replicate {A = ℕ} 2048 0))) e many more
    (q ∙ sym (ap₂ (λ (n : ℕ) (a : Month). at_call f n a) (answer_number r m) (answer_month r m))))

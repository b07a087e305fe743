-- The month opened after the last H line. Assumes nothing.
use mathlib.Core.Path.{◌≡◌, refl, sym, ap, ap₂, ◌∙◌}
use mathlib.Core.Bool.{true}
use mathlib.Core.List.{List, ◌++◌}
use Prim.Native.Nat.{ℕ, ◌+◌, ◌*◌, ◌≤◌}
use native.Mathlib.Omega.{arith}
use lib.IntN.{ℤ, pos}
use lib.ListN.{length, take, drop, length-replicate, take-append-drop}
use lib.Seq.{length-take-le, length_front, take_at}
use Rattle.lists.specs.Questions.{outcome}
use Rattle.lists.proofs.Questions.{accepted}
use Rattle.plants.specs.declared.Plant.{Plant}
use Rattle.ledger.specs.Ledger.{Ledger, zeros, in_bounds}
use Rattle.ledger.proofs.Bounds.{zeros_in_bounds}
use Rattle.month.specs.declared.Month.{Month}
use Rattle.month.specs.Answers.{Ended}
use Rattle.questions.specs.Questions.{lengths_number, tables_number, rows_number}
use Rattle.questions.proofs.Asked.{Lengths}
use Rattle.month.specs.Questions.{is_open, open_number}
use Rattle.month.specs.Calls.{blank, opened_month, OpenEnd, open_call}
use Rattle.month.proofs.Accepted.{open_number_lem}
use Rattle.month.proofs.Asked as asked
use Rattle.file_lines.specs.declared.FileStage.TheVariants.{Metering}
use Rattle.file_lines.specs.declared.MonthFile.{MonthFile}
use Rattle.file_lines.specs.File as file
use Rattle.file_lines.specs.File.{settles, opened}
use Rattle.file_lines.specs.State.{Kept, kept, ledger_of, progress_at, progress_of, Lent, Counted, Moved, at_stage, monthed, at_refusal, at_call, Openable, opened_of}
use Rattle.file_lines.proofs.Moves.{lent_as, valid_at, moved_as, refuses-by, called}

-- of the ledger open asks the lengths alone
open_alike : (m : Month) (plants : List Plant) (profile : List ℕ) (t : ℕ) (l g : Ledger) → length l.allotted ≡ length g.allotted → length l.accounts ≡ length g.accounts
    → open_number m plants profile t l ≡ open_number m plants profile t g
unfolding open_number tables_number lengths_number
open_alike m plants profile t l g p q = rw (p, q)

-- the lists with other ledger figures at their front
abbrev pub with_ledger : Kept → ℕ → List ℕ → List ℤ → Kept
with_ledger k p ys zs =
    kept k.plants k.profile (ys ++ drop (4 * p) k.allotted) (zs ++ drop (2 * p) k.accounts)

-- ... and the profile put together from the front that was lent and the rest
abbrev pub put_back : Kept → ℕ → ℕ → List ℕ → List ℤ → Kept
put_back k p n ys zs =
    kept k.plants (take n k.profile ++ drop n k.profile) (ys ++ drop (4 * p) k.allotted) (zs ++ drop (2 * p) k.accounts)

-- the ledger of n plants has four figures and two accounts for each
pub ledger-long : (k : Kept) → Lent k → (n : ℕ) → n ≤ 512 → Lengths n (ledger_of n k)
unfolding ledger_of
ledger-long k lent n few =
    record {
      allotted = length-take-le (4 * n) k.allotted (omega (arith, few, lent.allotted));
      accounts = length-take-le (2 * n) k.accounts (omega (arith, few, lent.accounts));
    }

module _ (k : Kept) (lent : Lent k) (p : ℕ) (few : p ≤ 512) (ys : List ℕ) (zs : List ℤ)
    (many : length ys ≡ length (take (4 * p) k.allotted)) (more : length zs ≡ length (take (2 * p) k.accounts)) where
  pub lent-after : Lent (with_ledger k p ys zs)
  lent-after = lent_as lent refl refl (length_front k.allotted ys (4 * p) many) (length_front k.accounts zs (2 * p) more)

  pub ledger-after : ledger_of p (with_ledger k p ys zs) ≡ record { allotted = ys; accounts = zs }
  unfolding ledger_of
  ledger-after =
      let long = ledger-long k lent p few in
      ap₂ (λ (a : List ℕ) (b : List ℤ). record { allotted = a; accounts = b }) (take_at ys _ (4 * p) (many ∙ long.allotted)) (take_at zs _ (2 * p) (more ∙ long.accounts))

-- an accepted open or settle: the state among G lines, with its month and its ledger
pub settles_moved : (f : MonthFile) (k : Kept) → Lent k → (m : Month) {l : Ledger} → ledger_of m.plants k ≡ l → Counted m (f.count + 1)
    → rows_number 0 0 (take m.plants k.plants) ≡ 0 → in_bounds l ≡ true
    → Moved f (settles (take m.plants k.plants) (take m.periods k.profile) m l) (monthed (at_stage f Metering) m) k
unfolding at_stage progress_at progress_of
settles_moved f k lent m e c rows b =
    record {
      empty = refl;
      counted = refl;
      stands = ap (settles (take m.plants k.plants) (take m.periods k.profile) m) e;
      valid = valid_at _ k lent (omega arith) Metering refl (record { counted = c; rows = rows; bounded = ap in_bounds e ∙ b });
    }

module _ (f : MonthFile) (k : Kept) (o : Openable f k) (end : Ended) (ys : List ℕ) (zs : List ℤ)
    (e : ◌≡◌ {A = OpenEnd} (record { answer = end; ledger = record { allotted = ys; accounts = zs } })
    (open_call blank (take f.plants k.plants) (take f.periods k.profile) f.tariff (ledger_of f.plants k)))
    (many : length ys ≡ length (take (4 * f.plants) k.allotted)) (more : length zs ≡ length (take (2 * f.plants) k.accounts)) where
  abbrev rows : List Plant
  rows = take f.plants k.plants

  abbrev profile : List ℕ
  profile = take f.periods k.profile

  abbrev after : Kept
  after = with_ledger k f.plants ys zs

  lents : Lent after
  lents = lent-after k o.lent f.plants o.plants ys zs many more

  abbrev fresh : OpenEnd
  fresh = open_call blank rows profile f.tariff (zeros (length rows))

  h_rows : length rows ≡ f.plants
  h_rows = length-take-le f.plants k.plants (omega (arith, o.plants, o.lent.plants))

  h_figures : length profile ≡ f.periods
  h_figures = length-take-le f.periods k.profile (omega (arith, o.periods, o.lent.profile))

  -- the ledger lent is as long as one of zeros
  alike : open_number blank rows profile f.tariff (ledger_of f.plants k) ≡ open_number blank rows profile f.tariff (zeros (length rows))
  unfolding zeros ledger_of
  alike =
      let long = ledger-long k o.lent f.plants o.plants in
      open_alike blank rows profile f.tariff _ _ (long.allotted ∙ rw h_rows (sym (length-replicate (4 * f.plants) 0)))
      (long.accounts ∙ rw h_rows (sym (length-replicate (2 * f.plants) (pos 0))))

  asks : end.number ≡ open_number blank rows profile f.tariff (ledger_of f.plants k)
  asks = ap (λ (r : OpenEnd). r.answer.number) e ∙ open_number_lem _ _ _ _ _

  opening-refused : (end.number ≡ 0 → ⊥) → Moved f (opened_of f k) (at_refusal f end.number) after
  unfolding opened_of opened
  opening-refused z =
      refuses-by f after lents _ end.number fresh.answer.number _ refl
      (asks ∙ alike ∙ sym (open_number_lem _ _ _ _ _)) z

  -- the month that is opened
  abbrev month : Month
  month = opened_month f.plants f.periods f.tariff

  abbrev is_opened : OpenEnd
  is_opened = record { answer = record { number = 0; month = month }; ledger = zeros f.plants }

  open_is : (l : Ledger) → open_number blank rows profile f.tariff l ≡ 0 → open_call blank rows profile f.tariff l ≡ is_opened
  unfolding open_call
  open_is l z =
      accepted _ _ _ z
      ∙ ap₂ (λ (n h : ℕ). record { answer = record { number = 0; month = opened_month n h f.tariff }; ledger = zeros n }) h_rows h_figures

  module _ (z : end.number ≡ 0) where
    none : open_number blank rows profile f.tariff (ledger_of f.plants k) ≡ 0
    none = sym asks ∙ z

    left : ◌≡◌ {A = OpenEnd} (record { answer = end; ledger = record { allotted = ys; accounts = zs } }) is_opened
    left = e ∙ open_is _ none

    ledger_is : ledger_of f.plants after ≡ zeros f.plants
    ledger_is = ledger-after k o.lent f.plants o.plants ys zs many more ∙ ap (λ (r : OpenEnd). r.ledger) left

    opens : opened_of f k ≡ settles rows profile month (zeros f.plants)
    unfolding opened_of opened outcome
    opens = ap (λ (r : OpenEnd). outcome r.answer.number (settles rows profile r.answer.month r.ledger) (file.refuses (f.count + 1))) (open_is _ (sym alike ∙ none))

    opening-opened : Moved f (opened_of f k) (monthed (at_stage f Metering) end.month) after
    unfolding is_open
    opening-opened =
        let q = asked.opened blank rows profile f.tariff _ none in
        moved_as f after lents
        (settles_moved f after lents month ledger_is
        (record {
          is_opened = refl;
          plants = o.plants;
          some = omega (arith, h_figures, q.0.some_periods);
          periods = o.periods;
          due = omega arith;
          lines = omega (arith, o.counted);
        })
        q.1.rows (zeros_in_bounds f.plants))
        (ap (monthed (at_stage f Metering)) (sym (ap (λ (r : OpenEnd). r.answer.month) left))) (sym opens)

  opening_called : {r : MonthFile} → r ≡ at_call f end.number end.month → Moved f (opened_of f k) r after
  opening_called = called f end.number end.month (λ r. Moved f (opened_of f k) r after) opening-refused opening-opened

-- what open answers and leaves of a blank month
pub opening_answered : {f : MonthFile} {k : Kept} → Openable f k → {m : Month} → m ≡ blank → {end : Ended} {ys : List ℕ} {zs : List ℤ}
    → ◌≡◌ {A = OpenEnd} (record { answer = end; ledger = record { allotted = ys; accounts = zs } })
    (open_call m (take f.plants k.plants) (take f.periods k.profile) f.tariff (record { allotted = take (4 * f.plants) k.allotted; accounts = take (2 * f.plants) k.accounts }))
    → length ys ≡ length (take (4 * f.plants) k.allotted) → length zs ≡ length (take (2 * f.plants) k.accounts)
    → {r : MonthFile} → r ≡ at_call f end.number end.month → Moved f (opened_of f k) r (put_back k f.plants f.periods ys zs)
unfolding ledger_of
opening_answered {f} {k} o b e many more q =
    rw (take-append-drop f.periods k.profile) (opening_called _ _ o _ _ _ (rw (sym b) e) many more q)

-- What the state stands for once a line is read. Assumes nothing.
use mathlib.Core.Path.{◌≡◌, refl, sym, ap, subst, ◌∙◌}
use Prim.Native.Nat.{ℕ, zero, suc, ◌+◌, ◌≤◌}
use native.Mathlib.Omega.{arith}
use lib.ListN.{length, take}
use Rattle.lists.specs.Questions.{outcome}
use Rattle.lists.proofs.Questions.{refuses, accepts}
use Rattle.refusals.specs.declared.Refusal.{Refusal}
use Rattle.refusals.specs.Numbers.{refusal_number}
use Rattle.refusals.proofs.Asking.{refused_number}
use Rattle.month.specs.declared.Month.{Month}
use Rattle.month.specs.declared.Stage.TheVariants.{Blank}
use Rattle.month.specs.Calls.{blank}
use Rattle.questions.specs.Questions.{sizes_number}
use Rattle.questions.proofs.Asked.{sizes}
use Rattle.file_lines.specs.declared.FileStage.{FileStage}
use Rattle.file_lines.specs.declared.FileStage.TheVariants as stage
use Rattle.file_lines.specs.declared.FileStage.TheVariants.{First, Metering, Refused}
use Rattle.file_lines.specs.declared.MonthFile.{MonthFile}
use Rattle.file_lines.specs.File as file
use Rattle.file_lines.specs.File.{Progress, gathers, begun}
use Rattle.file_lines.specs.State.{Kept, progress_at, progress_of, Lent, Gathering, Settling, Valid, Moved, at_stage, monthed, at_refusal, at_call}

-- lists of the same lengths
pub lent_as : {k q : Kept} → Lent k → length q.plants ≡ length k.plants → length q.profile ≡ length k.profile
    → length q.allotted ≡ length k.allotted → length q.accounts ≡ length k.accounts → Lent q
lent_as l a b c d =
    record {
      plants = omega (arith, l.plants, a);
      profile = omega (arith, l.profile, b);
      allotted = omega (arith, l.allotted, c);
      accounts = omega (arith, l.accounts, d);
    }

-- ---- a state, by its stage

pub by_stage {ℓ} : {A : Type ℓ} (s : FileStage) → (s ≡ First → A) → (s ≡ stage.Gathering → A) → (s ≡ Metering → A) → (s ≡ Refused → A) → A
by_stage First a b c d = a refl
by_stage stage.Gathering a b c d = b refl
by_stage Metering a b c d = c refl
by_stage Refused a b c d = d refl

-- what is asked of a state at a stage
abbrev pub Asked : FileStage → MonthFile → Kept → Type 0
Asked First f k = f.count ≡ 0
Asked stage.Gathering f k = Gathering f
Asked Metering f k = Settling f k
Asked Refused f k = Unit

module _ (f : MonthFile) (k : Kept) (lent : Lent k) (h : f.length ≤ 8192) where
  pub valid_at : (s : FileStage) → f.stage ≡ s → Asked s f k → Valid f k
  valid_at s e a =
      record {
        lent = lent;
        short = h;
        begun = λ q. subst (λ (t : FileStage). Asked t f k) (sym e ∙ q) a;
        gathering = λ q. subst (λ (t : FileStage). Asked t f k) (sym e ∙ q) a;
        settling = λ q. subst (λ (t : FileStage). Asked t f k) (sym e ∙ q) a;
      }

-- ---- a line that is read

-- a month's default
pub blank_is : (m : Month) → (m.stage ≡ Blank) × ((m.plants ≡ 0) × ((m.periods ≡ 0) × ((m.tariff ≡ 0) × (m.due ≡ 0)))) → m ≡ blank
blank_is m h = λ i. record { stage = h.0 i; plants = h.1.0 i; periods = h.1.1.0 i; tariff = h.1.1.1.0 i; due = h.1.1.1.1 i }

-- a state with other sizes and lines taken
abbrev pub gathered : MonthFile → ℕ → ℕ → ℕ → ℕ → ℕ → MonthFile
gathered f periods plants tariff rows figures =
    record {
      stage = f.stage;
      length = f.length;
      count = f.count;
      plants = plants;
      periods = periods;
      tariff = tariff;
      rows = rows;
      figures = figures;
      month = f.month;
      number = f.number;
    }

-- a call that was refused
pub answered-refused : (f g : MonthFile) (r : Refusal) (m : Month) → g ≡ at_refusal f (refusal_number r) → g ≡ at_call f (refusal_number r) m
unfolding at_call
answered-refused f g r m e = refuses (refusal_number r) (refusal_number r) _ g (at_refusal f) refl (λ z. refused_number r z) e

pub ruleset answered = (answered-refused)

-- what holds of a state with a refusal, and of one with the month that a call hands back, holds once the call has answered
pub called : (f : MonthFile) (n : ℕ) (m : Month) (holds : MonthFile → Type 0) → ((n ≡ 0 → ⊥) → holds (at_refusal f n)) → (n ≡ 0 → holds (monthed (at_stage f Metering) m))
    → {r : MonthFile} → r ≡ at_call f n m → holds r
unfolding at_call outcome
called f zero m holds refused taken e = subst holds (sym e) (taken refl)
called f (suc n) m holds refused taken e = subst holds (sym e) (refused (λ z. omega (arith, z)))

module _ (f : MonthFile) (k : Kept) (lent : Lent k) where
  -- a refusal
  pub refused_moved : (n : ℕ) → Moved f (file.refuses (f.count + 1) n) (at_refusal f n) k
  unfolding at_refusal at_stage progress_at progress_of
  refused_moved n =
      record {
        empty = refl;
        counted = refl;
        stands = refl;
        valid = valid_at _ k lent (omega arith) Refused refl tt;
      }

  pub moved_as : {p q : Progress} {r g : MonthFile} → Moved f p r k → r ≡ g → p ≡ q → Moved f q g k
  moved_as {p} {q} {r} {g} m e d = subst (λ (h : MonthFile). Moved f q h k) e (subst (λ (h : Progress). Moved f h r k) d m)

  -- ... by a number of questions
  pub refuses-by : (r : MonthFile) (n m : ℕ) (y : Progress) → r ≡ at_refusal f n → n ≡ m → (n ≡ 0 → ⊥)
      → Moved f (outcome m y (file.refuses (f.count + 1))) r k
  refuses-by r n m y e q z = moved_as (refused_moved n) (sym e) (refuses n m y _ (file.refuses (f.count + 1)) q z refl)

  -- a P or H line, or the first, after which others are due
  pub gathers_moved : (periods plants tariff rows figures : ℕ) → Gathering (gathered (at_stage f stage.Gathering) periods plants tariff rows figures)
      → Moved f (gathers (record { periods = periods; plants = plants; tariff = tariff }) (take rows k.plants) (take figures k.profile))
      (gathered (at_stage f stage.Gathering) periods plants tariff rows figures) k
  unfolding at_stage progress_at progress_of
  gathers_moved periods plants tariff rows figures g =
      record { empty = refl; counted = refl; stands = refl; valid = valid_at _ k lent (omega arith) stage.Gathering refl g }

  -- the first line
  pub begins-by : (g : MonthFile) (periods plants tariff n : ℕ) → f.count ≡ 0 → n ≡ sizes_number plants periods tariff → n ≡ 0 → g ≡ at_stage f stage.Gathering
      → Moved f (begun (f.count + 1) (record { periods = periods; plants = plants; tariff = tariff })) (gathered g periods plants tariff 0 0) k
  unfolding begun at_stage
  begins-by g periods plants tariff n none q z e =
      let s = sizes plants periods tariff n q z in
      moved_as
      (gathers_moved periods plants tariff 0 0
      (record { plants = s.plants; periods = s.periods; rows = omega arith; figures = omega (arith, s.some_periods); counted = omega (arith, none) }))
      (ap (λ (h : MonthFile). gathered h periods plants tariff 0 0) (sym e)) (accepts n (sizes_number plants periods tariff) _ _ (file.refuses (f.count + 1)) q z refl)

-- The number that a call answers, and what an accepted call tells: the month's stage, and that the hour of an accepted settle is sound. Assumes nothing.
use mathlib.Core.Path.{◌≡◌, sym, ◌∙◌}
use mathlib.Core.Bool.{true}
use Prim.Native.Nat.{ℕ}
use mathlib.Core.List.{List, [], ◌∷◌, map}
use Rattle.lists.proofs.Questions.{asked, number_itself, outcome-part}
use Rattle.blocks.specs.Portion.{Standing}
use Rattle.plants.specs.declared.Plant.{Plant}
use Rattle.hour.specs.Hour.{hour_of}
use Rattle.hour.proofs.Hour.{Sound}
use Rattle.hour.proofs.Limits.{sound_of}
use Rattle.ledger.specs.Ledger.{Ledger}
use Rattle.month.specs.declared.Month.{Month}
use Rattle.questions.specs.Questions.{rows_number}
use Rattle.questions.proofs.Asked.{first-row}
use Rattle.month.specs.Answers.{Balanced, Ended}
use Rattle.month.specs.Questions.{is_open, open_number, settle_number, close_number, balance_number}
use Rattle.month.proofs.Asked.{Inputs, settled}
use Rattle.month.specs.Calls.{OpenEnd, open_call, SettleEnd, settle_call, balance_call, close_call}

-- the number answered is that of the questions
pub open_number_lem : (m : Month) (plants : List Plant) (profile : List ℕ) (t : ℕ) (l : Ledger) → (open_call m plants profile t l).answer.number ≡ open_number m plants profile t l
unfolding open_call
open_number_lem m plants profile t l = outcome-part (λ (r : OpenEnd). r.answer.number) (open_number m plants profile t l) _ _ ∙ number_itself _

pub settle_number_lem : (m : Month) (plants : List Plant) (profile metered lent : List ℕ) (l : Ledger)
    → (settle_call m plants profile metered lent l).answer.number ≡ settle_number m plants profile metered lent l
unfolding settle_call
settle_number_lem m plants profile metered lent l =
    outcome-part (λ (r : SettleEnd). r.answer.number) (settle_number m plants profile metered lent l) _ _ ∙ number_itself _

pub balance_number_lem : (m : Month) (l : Ledger) → (balance_call m l).number ≡ balance_number m l
unfolding balance_call
balance_number_lem m l = outcome-part (λ (r : Balanced). r.number) (balance_number m l) _ _ ∙ number_itself _

pub close_number_lem : (m : Month) → (close_call m).number ≡ close_number m
unfolding close_call
close_number_lem m = outcome-part (λ (r : Ended). r.number) (close_number m) _ _ ∙ number_itself _

abbrev subs : List Plant → List ℕ
subs ps = map (λ (p : Plant). p.submarket) ps

-- accepted rows stand by submarket
pub rows-standing : (s n : ℕ) (ps : List Plant) → rows_number s n ps ≡ 0 → Standing s (subs ps)
rows-standing s n [] e = tt
rows-standing s n (p ∷ ps) e =
    let r = first-row s n p ps e in
    (r.placed, r.some, r.limited.submarket, rows-standing p.submarket p.number ps r.others)

-- the hour of accepted inputs is sound, whatever its period
pub inputs_sound : {m : Month} {plants : List Plant} {profile metered : List ℕ} {lent : ℕ} {l : Ledger} → Inputs m plants profile metered lent l
    → (k : ℕ) → Sound (hour_of plants profile metered k)
inputs_sound q k = sound_of _ _ _ k (rows-standing 0 0 _ q.tables.rows) (q.meter.meters ∙ sym q.own.rows)

-- a settle call that is accepted: the month is open, and the hour is sound
pub record Settles (m : Month) (plants : List Plant) (profile metered : List ℕ) : Type 0 where
  pub is_opened : is_open m.stage ≡ true
  pub sound : (k : ℕ) → Sound (hour_of plants profile metered k)

pub settle_accepted : (m : Month) (plants : List Plant) (profile metered lent : List ℕ) (l : Ledger)
    → (settle_call m plants profile metered lent l).answer.number ≡ 0 → Settles m plants profile metered
settle_accepted m plants profile metered lent l e =
    let q = (settled m plants profile metered lent l (sym (settle_number_lem m plants profile metered lent l) ∙ e)).0 in
    record { is_opened = q.own.is_opened; sound = inputs_sound q }

pub close_accepted : (m : Month) → close_number m ≡ 0 → is_open m.stage ≡ true
unfolding close_number
close_accepted m e = (asked _ _ _ tt e).0

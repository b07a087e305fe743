-- The month opened, over its G lines to its close: it is refused, or its calls are the file's, and then it is stated. Assumes nothing.
use mathlib.Core.Path.{◌≡◌, refl, sym, ap, ap₂, subst, ◌∙◌}
use mathlib.Core.Bool.{Bool, true, false, cond}
use mathlib.Core.List.{List, [], ◌∷◌, map, head-eq_of_cons-eq, tail-eq_of_cons-eq}
use Prim.Native.Nat.{ℕ, zero, suc, ◌+◌, ◌-◌, ◌*◌, ◌≤◌}
use native.Mathlib.Omega.{arith}
use borrow.Author.Tests.{leb-true, eqb-true, le-leb, eq-eqb}
use lib.Dec.{eqb, leb}
use lib.ListN.{length, drop, get_or, replicate}
use Rattle.lists.specs.Questions.{outcome}
use Rattle.lists.proofs.Questions.{accepted, asked, both}
use Rattle.lines.specs.Reading.{line_start}
use Rattle.plants.specs.declared.Plant.{Plant}
use Rattle.ledger.specs.Ledger.{Ledger}
use Rattle.month.specs.declared.Month.{Month}
use Rattle.month.specs.Questions.{close_number}
use Rattle.month.specs.Calls.{onward, SettleEnd, settle_call, close_call}
use Rattle.month.specs.Statement.{statement_of}
use Rattle.demand.specs.Tally as call
use Rattle.demand.specs.Tally.{State, number, after, entries}
use Rattle.file_lines.specs.File.{FileLine, whole, settles, figures_of, meter_turn, in_turn, taken, refusal, printed, following}
use Rattle.file_lines.specs.File as file
use Rattle.file_lines.specs.State.{is_refused}
use Rattle.file_demand.specs.Sums.{metered_in, hour_calls, Accepted, Rising, Readable}
use Rattle.month.proofs.Accepted.{settle_number_lem, close_number_lem}
use Rattle.file_lines.proofs.Settled.{settle_month}
use Rattle.file_demand.proofs.Followed.{Followed, holds, on, later, stopped, ended-early, by_number, IsRead, by-line, line_taken, AreLines, next-line, no_lines, one_line, after_one, rising_as}

abbrev state : Month → Ledger → State
state m l = record { month = m; ledger = l }

-- the periods still due, each with its G line
abbrev pub Due : Month → List (List ℕ) → Type 0
Due m gs = Rising 4 m.due (m.periods + 1 - m.due) gs

pub record Metered (plants : List Plant) (profile : List ℕ) (m : Month) (l : Ledger) (ls : List FileLine) : Type 0 where
  pub gs : List (List ℕ)
  pub are_lines : AreLines ls gs
  pub meters : Due m gs
  pub accepts : Accepted (state m l) (hour_calls plants profile (metered_in gs))

-- the end: the month is closed
module _ (plants : List Plant) (profile : List ℕ) (m : Month) (l : Ledger) where
  closes : m.due ≡ m.periods + 1 → (close_call m).number ≡ 0 → Metered plants profile m l []
  unfolding number entries
  closes e z =
      record {
        gs = [];
        are_lines = record { is_lines = refl; readable = refl };
        meters = rising_as refl (omega (arith, e)) (no_lines 4 m.due);
        accepts = ap (λ (n : ℕ). n ∷ []) z;
      }

  by_close : (k n : ℕ) → m.due ≡ m.periods + 1 → (close_call m).number ≡ n
      → Followed (Metered plants profile m l []) k [] (outcome n (statement_of (close_call m).month plants l) (refusal k))
  unfolding outcome following printed
  by_close k zero e z = holds (closes e z)
  by_close k (suc n) e z = stopped k n []

  by_end : (k : ℕ) (b : Bool) → eqb m.due (m.periods + 1) ≡ b
      → Followed (Metered plants profile m l []) k [] (cond b (outcome (close_call m).number (statement_of (close_call m).month plants l) (refusal k)) (refusal (k + 1) 31))
  by_end k true e = by_close k (close_call m).number (eqb-true m.due (m.periods + 1) e) refl
  by_end k false e = ended-early k

-- 20, of an accepted close
close_due : (m : Month) → (close_call m).number ≡ 0 → m.due ≡ m.periods + 1
unfolding close_number
close_due m z =
    let asks : close_number m ≡ 0 = sym (close_number_lem m) ∙ z in
    eqb-true _ _ (asked _ _ [] tt (asked _ _ _ tt (asked _ _ _ tt asks).1).1).0

-- a G line: its period is settled
module _ (plants : List Plant) (profile : List ℕ) (m : Month) (l : Ledger) (g : List ℕ) where
  abbrev end : SettleEnd
  end = settle_call m plants profile (drop 1 (figures_of g)) (replicate (4 * length plants) 0) l

  abbrev InTurn : Type 0
  InTurn = (line_start g ≡ 4) × (m.due ≤ m.periods) × (get_or (figures_of g) 0 0 ≡ m.due)

  is_turn : meter_turn m (line_start g) (get_or (figures_of g) 0 0) ≡ true → InTurn
  is_turn e =
      let a = both (eqb (line_start g) 4) _ e in
      let b = both (leb m.due m.periods) _ a.1 in
      (eqb-true (line_start g) 4 a.0, leb-true m.due m.periods b.0, eqb-true (get_or (figures_of g) 0 0) m.due b.1)

  turn_is : InTurn → meter_turn m (line_start g) (get_or (figures_of g) 0 0) ≡ true
  turn_is t = rw (eq-eqb _ _ t.0, le-leb _ _ t.1, eq-eqb _ _ t.2) refl

  module _ (z : end.answer.number ≡ 0) (gs : List (List ℕ)) where
    month_on : end.answer.month ≡ onward m
    month_on = settle_month m plants profile _ _ l (sym (settle_number_lem m plants profile _ (replicate (4 * length plants) 0) l) ∙ z)

    one_due : InTurn → Due end.answer.month gs → Due m (g ∷ gs)
    one_due t r = rising_as refl (omega (arith, t.1)) (one_line t.0 t.2 (subst (λ (n : Month). Due n gs) month_on r))

    due_one : Due m (g ∷ gs) → InTurn × Due end.answer.month gs
    due_one r =
        let a = after_one r in
        let some = a.1 in
        ((a.2, omega (arith, some), a.3), subst (λ (n : Month). Due n gs) (sym month_on) (rising_as refl (omega (arith, some)) a.4))

-- a file of such lines is refused, or its calls are accepted
settles_one : (plants : List Plant) (profile : List ℕ) (m : Month) (l : Ledger) (x : FileLine) (ls : List FileLine) → IsRead x → InTurn plants profile m l x.bytes
    → (end plants profile m l x.bytes).answer.number ≡ 0
    → Metered plants profile (end plants profile m l x.bytes).answer.month (end plants profile m l x.bytes).ledger ls → Metered plants profile m l (x ∷ ls)
unfolding number call.next entries
settles_one plants profile m l x ls w t z r =
    record {
      gs = x.bytes ∷ r.gs;
      are_lines = next-line w r.are_lines;
      meters = one_due plants profile m l x.bytes z r.gs t r.meters;
      accepts = ap₂ (λ a b. a ∷ b) z r.accepts;
    }

pub metering : (k : ℕ) (plants : List Plant) (profile : List ℕ) (m : Month) (l : Ledger) (ls : List FileLine)
    → Followed (Metered plants profile m l ls) k ls (following k (settles plants profile m l) ls)
unfolding following printed is_refused in_turn taken file.settled
metering k plants profile m l [] = by_end plants profile m l k (eqb m.due (m.periods + 1)) refl
metering k plants profile m l (x ∷ ls) =
    let e = end plants profile m l x.bytes in
    later (by-line k (settles plants profile m l) x ls
    (λ w t. by_number e.answer.number (k + 1) _ ls
    (λ z. on (settles_one plants profile m l x ls w (is_turn plants profile m l x.bytes t) z) (metering (k + 1) plants profile e.answer.month e.ledger ls)))
    refl)

-- accepted, they are stated
pub metered : (plants : List Plant) (profile : List ℕ) (k : ℕ) (m : Month) (l : Ledger) (gs : List (List ℕ)) → Due m gs → Readable (map whole gs)
    → Accepted (state m l) (hour_calls plants profile (metered_in gs))
    → let s = after (state m l) (hour_calls plants profile (metered_in gs)) in
    following k (settles plants profile m l) (map whole gs) ≡ statement_of s.month plants s.ledger
unfolding following printed is_refused in_turn taken file.settled number call.next after entries
metered plants profile k m l [] d r a =
    let z : (close_call m).number ≡ 0 = head-eq_of_cons-eq a in
    rw (eq-eqb _ _ (close_due m z)) (accepted _ _ _ z)
metered plants profile k m l (g ∷ gs) d r a =
    let e = end plants profile m l g in
    let z : e.answer.number ≡ 0 = head-eq_of_cons-eq a in
    let t = due_one plants profile m l g z gs d in
    line_taken k (settles plants profile m l) g (map whole gs) refl (head-eq_of_cons-eq r) (turn_is plants profile m l g t.0) (accepted _ _ _ z)
    ∙ metered plants profile (k + 1) e.answer.month e.ledger gs t.1 (tail-eq_of_cons-eq r) (tail-eq_of_cons-eq a)

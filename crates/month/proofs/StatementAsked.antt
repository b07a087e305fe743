-- The statement's questions answered yes: its figures are within limits, and what the two calls answer and leave. Assumes nothing.
use mathlib.Core.Path.{◌≡◌, refl, sym, ap, ap₂}
use mathlib.Core.Bool.{true, not}
use mathlib.Core.List.{List, []}
use Prim.Native.Nat.{ℕ, ◌+◌, ◌-◌, ◌≤◌}
use native.Mathlib.Omega.{arith}
use borrow.Author.Tests.{leb-true, eqb-true}
use lib.ListN.{length}
use Rattle.lists.proofs.Questions.{asked, parted, limits, accepts}
use Rattle.plants.specs.declared.Plant.{Plant}
use Rattle.ledger.specs.Ledger.{Ledger}
use Rattle.statement.specs.Statement.{statement_text, room_for}
use Rattle.statement.specs.Writing.{Fills}
use Rattle.statement.specs.Laws.{InLimits}
use Rattle.statement.proofs.Limits.{promised}
use Rattle.month.specs.declared.Month.{Month}
use Rattle.month.specs.Questions.{is_blank}
use Rattle.month.specs.Statement.{due_number, sizing_number, statement_number, statement_of, StatementEnd, statement_call, Sizing}
use Rattle.questions.proofs.Asked.{ledger, rows-shown}

-- 21, 2, 3, 13 and 14, with so many rows lent
pub record Due (m : Month) (rows : ℕ) : Type 0 where
  pub not_blank : not (is_blank m.stage) ≡ true
  pub plants : m.plants ≤ 512
  pub periods : m.periods ≤ 744
  pub lent : rows ≡ m.plants
  pub begun : 1 ≤ m.due
  pub due : m.due ≤ m.periods + 1

pub due : (m : Month) (rows : ℕ) → due_number m rows ≡ 0 → Due m rows
unfolding due_number
due m rows e =
    let q₂₁ = asked _ _ _ tt e in
    let q₂ = asked _ _ _ tt q₂₁.1 in
    let q₃ = asked _ _ _ tt q₂.1 in
    let q₁₃ = asked _ _ _ tt q₃.1 in
    let d = limits _ _ _ (asked _ _ [] tt q₁₃.1).0 in
    record { not_blank = q₂₁.0; plants = (limits _ _ _ q₂.0).1; periods = (limits _ _ _ q₃.0).1; lent = eqb-true _ _ q₁₃.0; begun = d.0; due = d.1 }

-- ... 5 to 8, 11 and 19
pub record SizingAsked (m : Month) (plants : List Plant) (l : Ledger) : Type 0 where
  pub due : Due m (length plants)
  pub limits : InLimits (m.due - 1) plants l

pub sizing-asked : (m : Month) (plants : List Plant) (l : Ledger) → sizing_number m plants l ≡ 0 → SizingAsked m plants l
unfolding sizing_number
sizing-asked m plants l e =
    let q₁₄ = parted _ _ e in
    let q₅ = parted _ _ q₁₄.1 in
    let d = due m (length plants) q₁₄.0 in
    let q₁₁ = ledger m.plants l (parted _ [] q₅.1).0 in
    let shown = rows-shown plants q₅.0 in
    record {
      due = d;
      limits = record {
        few = omega (arith, d.plants, d.lent);
        periods = omega (arith, d.due, d.periods);
        submarkets = shown.0;
        numbers = shown.1;
        figures = omega (arith, q₁₁.0.allotted, d.lent);
        nets = omega (arith, q₁₁.0.accounts, d.lent);
        bounded = q₁₁.1;
      };
    }

-- ... and 22
pub record Granted (m : Month) (plants : List Plant) (l : Ledger) (lent : ℕ) : Type 0 where
  pub sized : SizingAsked m plants l
  pub room : room_for m.plants ≤ lent

pub granted : (m : Month) (plants : List Plant) (l : Ledger) (lent : ℕ) → statement_number m plants l lent ≡ 0 → Granted m plants l lent
unfolding statement_number
granted m plants l lent e =
    let q = parted _ _ e in
    record { sized = sizing-asked m plants l q.0; room = leb-true _ _ (asked _ _ [] tt q.1).0 }

-- the statement written: what the call answers and leaves
pub stated : (m : Month) (plants : List Plant) (l : Ledger) (text : List ℕ) → statement_number m plants l (length text) ≡ 0
    → (r : ℕ) (after : List ℕ) → Fills (statement_text (m.due - 1) plants l) text r after
    → ◌≡◌ {A = StatementEnd} (record { answer = record { number = 0; month = m; length = r }; bytes = after }) (statement_call m plants l text)
unfolding statement_of statement_call
stated m plants l text e r after f =
    accepts 0 _ _ _ _ (sym e) refl
    (ap₂ (λ (n : ℕ) (b : List ℕ). record { answer = record { number = 0; month = m; length = n }; bytes = b }) f.size f.text)

-- a size answered
pub sized : (m : Month) (plants : List Plant) (l : Ledger) → sizing_number m plants l ≡ 0 → (r : ℕ) → r ≡ room_for m.plants
    → Sizing m plants l (record { number = 0; month = m; size = r })
unfolding statement_of
sized m plants l e r asks =
    let s = sizing-asked m plants l e in
    let rows = ap room_for s.due.lent in
    let fits = promised.fits (m.due - 1) plants l s.limits in
    record {
      number = sym e;
      month = refl;
      refused = λ some. absurd (some refl);
      enough = λ _. omega (arith, fits, rows, asks);
      most = λ _. omega (arith, asks);
    }

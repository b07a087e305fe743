-- What follows where questions are answered yes: from number 0 to a record of facts. Assumes nothing.
use mathlib.Core.Path.{◌≡◌, refl}
use mathlib.Core.Bool.{true, not}
use mathlib.Core.List.{List, []}
use Prim.Native.Nat.{ℕ, ◌*◌, ◌^◌, ◌≤◌}
use borrow.Author.Tests.{eqb-true}
use lib.ListN.{length}
use Rattle.lists.specs.Lists.{sum, at_most}
use Rattle.lists.specs.Columns.{at}
use Rattle.lists.proofs.Questions.{asked, parted, both, limits}
use Rattle.plants.specs.declared.Plant.{Plant}
use Rattle.hour.specs.Hour.{hour_of}
use Rattle.ledger.specs.Ledger.{Ledger, in_bounds}
use Rattle.questions.proofs.Asked.{Sizes, sizes, Lengths, ledger, Tables, tables}
use Rattle.month.specs.declared.Month.{Month}
use Rattle.month.specs.Questions.{is_open, is_blank, open_number, own_number, metered_number, inputs_number, posted, bounds_number, settle_number, balance_number}

-- open: 1 to 11
pub opened : (m : Month) (plants : List Plant) (profile : List ℕ) (t : ℕ) (l : Ledger) → open_number m plants profile t l ≡ 0
    → Sizes (length plants) (length profile) t × Tables (length plants) plants profile l
unfolding open_number
opened m plants profile t l e =
    let q₁ = asked _ _ _ tt e in
    let q₂ = parted _ _ q₁.1 in
    let q₅ = parted _ [] q₂.1 in
    (sizes _ _ _ _ refl q₂.0, tables _ _ _ _ q₅.0)

-- settle: 12, 2, 3, 4 and 13, with p rows and h profile figures lent
pub record Own (m : Month) (p h : ℕ) : Type 0 where
  pub is_opened : is_open m.stage ≡ true
  pub sizes : Sizes m.plants m.periods m.tariff
  pub rows : p ≡ m.plants
  pub figures : h ≡ m.periods

pub own : (m : Month) (p h : ℕ) → own_number m p h ≡ 0 → Own m p h
unfolding own_number
own m p h e =
    let q₁₂ = asked _ _ _ tt e in
    let q₂ = parted _ _ q₁₂.1 in
    let q₁₃ = both _ _ (asked _ _ [] tt q₂.1).0 in
    record { is_opened = q₁₂.0; sizes = sizes _ _ _ _ refl q₂.0; rows = eqb-true _ _ q₁₃.0; figures = eqb-true _ _ q₁₃.1 }

-- ... 14 to 18
pub record Metered (m : Month) (profile metered : List ℕ) (lent : ℕ) : Type 0 where
  pub begun : 1 ≤ m.due
  pub due : m.due ≤ m.periods
  pub meters : length metered ≡ m.plants
  pub hourly : at_most (2 * 10 ^ 9) metered ≡ true
  pub generation : sum metered ≡ at m.due profile 0
  pub allotment : lent ≡ 4 * m.plants

pub metered : (m : Month) (profile metered : List ℕ) (lent : ℕ) → metered_number m profile metered lent ≡ 0 → Metered m profile metered lent
unfolding metered_number
metered m profile ms lent e =
    let q₁₄ = asked _ _ _ tt e in
    let q₁₅ = asked _ _ _ tt q₁₄.1 in
    let q₁₆ = asked _ _ _ tt q₁₅.1 in
    let q₁₇ = asked _ _ _ tt q₁₆.1 in
    let q₁₈ = asked _ _ [] tt q₁₇.1 in
    let d = limits _ _ _ q₁₄.0 in
    record {
      begun = d.0;
      due = d.1;
      meters = eqb-true _ _ q₁₅.0;
      hourly = q₁₆.0;
      generation = eqb-true _ _ q₁₇.0;
      allotment = eqb-true _ _ q₁₈.0;
    }

-- ... 12 to 18
pub record Inputs (m : Month) (plants : List Plant) (profile metered : List ℕ) (lent : ℕ) (l : Ledger) : Type 0 where
  pub own : Own m (length plants) (length profile)
  pub tables : Tables m.plants plants profile l
  pub meter : Metered m profile metered lent

pub inputs : (m : Month) (plants : List Plant) (profile metered : List ℕ) (lent : ℕ) (l : Ledger) → inputs_number m plants profile metered lent l ≡ 0 → Inputs m plants profile metered lent l
unfolding inputs_number
inputs m plants profile ms lent l e =
    let q₁₂ = parted _ _ e in
    let q₅ = parted _ _ q₁₂.1 in
    let q₁₄ = parted _ [] q₅.1 in
    record { own = own _ _ _ q₁₂.0; tables = tables _ _ _ _ q₅.0; meter = metered _ _ _ _ q₁₄.0 }

-- ... 19
pub bounds : (before after : Ledger) → bounds_number before after ≡ 0 → (in_bounds before ≡ true) × (in_bounds after ≡ true)
unfolding bounds_number
bounds before after e = both _ _ (asked _ _ [] tt e).0

-- ... all of them
pub settled : (m : Month) (plants : List Plant) (profile metered lent : List ℕ) (l : Ledger) → settle_number m plants profile metered lent l ≡ 0
    → Inputs m plants profile metered (length lent) l × ((in_bounds l ≡ true) × (in_bounds (posted l (hour_of plants profile metered m.due) m.tariff) ≡ true))
unfolding settle_number
settled m plants profile ms lent l e =
    let q = parted _ _ e in
    (inputs m plants profile ms (length lent) l q.0, bounds _ _ (parted _ [] q.1).0)

-- balance: 21, 2, 11 and 19
pub record Balance (m : Month) (l : Ledger) : Type 0 where
  pub not_blank : not (is_blank m.stage) ≡ true
  pub plants : m.plants ≤ 512
  pub lengths : Lengths m.plants l
  pub inside : in_bounds l ≡ true

pub balance : (m : Month) (l : Ledger) → balance_number m l ≡ 0 → Balance m l
unfolding balance_number
balance m l e =
    let q₂₁ = asked _ _ _ tt e in
    let q₂ = asked _ _ _ tt q₂₁.1 in
    let q₁₁ = ledger _ _ (parted _ [] q₂.1).0 in
    record { not_blank = q₂₁.0; plants = (limits _ _ _ q₂.0).1; lengths = q₁₁.0; inside = q₁₁.1 }

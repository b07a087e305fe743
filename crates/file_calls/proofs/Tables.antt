-- Questions 5 to 8 down a table whose rows are read one by one. Assumes nothing.
use mathlib.Core.Path.{◌≡◌, sym, ◌∙◌}
use mathlib.Core.List.{List}
use Prim.Native.Nat.{ℕ, ◌+◌, ◌≤◌, ◌<◌}
use native.Mathlib.Omega.{arith}
use lib.ListN.{length, take, drop, get_or}
use lib.Seq.{length-take-le}
use Rattle.std.proofs.lemmas.List.{get_or-take}
use Rattle.refusals.specs.declared.Refusal.{Refusal}
use Rattle.refusals.specs.Numbers.{refusal_number}
use Rattle.refusals.proofs.Asking.{part_passed, part_refused}
use Rattle.plants.specs.declared.Plant.{Plant}
use Rattle.plants.specs.Plants.{none}
use Rattle.lists.specs.Questions.{◌then◌}
use Rattle.questions.specs.Questions.{row_number, rows_number}
use Rattle.questions.proofs.Rows.{row_next, rows_over}

module _ (n : ℕ) (all : List Plant) where
  abbrev front : List Plant
  front = take n all

  abbrev first : ℕ
  first = rows_number 0 0 front

  module _ (lent : n ≤ length all) (before : Plant) (i : ℕ) where
    abbrev left : ℕ
    left = rows_number before.submarket before.number (drop i front)

    module _ (l : i < n) {p : Plant} (read : p ≡ get_or all i none) where
      row : p ≡ get_or front i none
      row = read ∙ sym (get_or-take n all i none l)

      next : left ≡ row_number before.submarket before.number p then rows_number p.submarket p.number (drop (i + 1) front)
      next = rw row (row_next before.submarket before.number front i (omega (arith, length-take-le n all lent)))

      pub refused_at : (r : Refusal) → refusal_number r ≡ row_number before.submarket before.number p → first ≡ left → refusal_number r ≡ first
      refused_at r e h = part_refused r _ _ e ∙ sym (h ∙ next)

      pub passed : 0 ≡ row_number before.submarket before.number p → first ≡ left → first ≡ rows_number p.submarket p.number (drop (i + 1) front)
      passed e h = h ∙ (next ∙ part_passed _ _ (sym e))

    pub passed_all : n ≤ i → first ≡ left → 0 ≡ first
    passed_all l h = sym (h ∙ rows_over before.submarket before.number front i (omega (arith, length-take-le n all lent)))

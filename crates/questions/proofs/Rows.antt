-- Questions 5 to 8 down the rows: the rows not yet passed decide. Assumes nothing.
use mathlib.Core.Path.{◌≡◌, ap}
use mathlib.Core.List.{List}
use Prim.Native.Nat.{ℕ, ◌+◌, ◌≤◌, ◌<◌}
use lib.ListN.{length, drop, get_or, drop_of_length-le}
use Rattle.lists.specs.Questions.{◌then◌}
use Rattle.lists.proofs.Loops.{drop_more}
use Rattle.plants.specs.declared.Plant.{Plant}
use Rattle.plants.specs.Plants.{none}
use Rattle.questions.specs.Questions.{row_number, rows_number}

module _ (s n : ℕ) (ps : List Plant) (i : ℕ) where
  pub row_next : i < length ps
      → rows_number s n (drop i ps)
      ≡ row_number s n (get_or ps i none) then rows_number (get_or ps i none).submarket (get_or ps i none).number (drop (i + 1) ps)
  unfolding rows_number
  row_next h = ap (rows_number s n) (drop_more ps i none h)

  pub rows_over : length ps ≤ i → rows_number s n (drop i ps) ≡ 0
  unfolding rows_number
  rows_over h = ap (rows_number s n) (drop_of_length-le ps {i = i} h)

pub ruleset rows = (row_next, rows_over)

-- An hour's lists, row by row: the allotment and the nets; column by column, and figure by figure. Assumes nothing.
use mathlib.Core.Path.{◌≡◌, refl, ap, ◌∙◌}
use Prim.Native.Nat.{ℕ, ◌+◌, ◌-◌, ◌*◌, ◌≤◌}
use native.Mathlib.Omega.{arith}
use lib.IntN.{pos, sub_ℕ}
use lib.ListN.{length, get_or}
use Rattle.lists.specs.Lists.{sum, sumℤ}
use Rattle.lists.specs.Columns.{◌⊕◌, column}
use Rattle.lists.proofs.Columns.{◌!◌, get_or-rowwise, at-⊕}
use Rattle.lists.proofs.Rows.{fours_sized, fours_at, fours_column}
use Rattle.signed.proofs.Sums.{sub_self, sumℤ-sub}
use Rattle.hour.specs.Hour.{Hour, covered, rights, figure, nets, allotment}
use Rattle.hour.proofs.Hour.{Sound, row-sum, whole_sum, figure-sized}

module _ (h : Hour) (ok : Sound h) where
  pub hour-column : (s : ℕ) → 1 ≤ s → s ≤ 4 → column 4 (s - 1) (allotment h) ≡ figure h s
  unfolding allotment
  hour-column = fours_column (figure h) (length h.plants) (figure-sized h ok)

  pub hour-row : (i : ℕ) → column 4 0 (allotment h) ! i + column 4 1 (allotment h) ! i + column 4 2 (allotment h) ! i + column 4 3 (allotment h) ! i
      ≡ covered h ! i + rights h ! i
  hour-row i =
      rw (hour-column 1 (omega arith) (omega arith), hour-column 2 (omega arith) (omega arith), hour-column 3 (omega arith) (omega arith), hour-column 4 (omega arith) (omega arith))
      (row-sum h ok i)

  pub nets-sum : sumℤ (nets h) ≡ pos 0
  unfolding nets
  nets-sum = sumℤ-sub h.metered _ ∙ ap (λ x. sub_ℕ (sum h.metered) x) (whole_sum h ok) ∙ sub_self (sum h.metered)

  pub at-nets : (i : ℕ) → get_or (nets h) i (pos 0) ≡ sub_ℕ (h.metered ! i) (covered h ! i + rights h ! i)
  unfolding nets
  at-nets i =
      get_or-rowwise sub_ℕ 0 0 refl h.metered (covered h ⊕ rights h) i
      ∙ ap (λ x. sub_ℕ (h.metered ! i) x) (at-⊕ (covered h) (rights h) i)

  -- ---- figure by figure, for the code that writes them
  pub allotment-at : (s : ℕ) → 1 ≤ s → s ≤ 4 → (i : ℕ) → allotment h ! (s - 1 + i * 4) ≡ figure h s ! i
  unfolding allotment
  allotment-at = fours_at (figure h) (length h.plants) (figure-sized h ok)

  pub allotment-sized : length (allotment h) ≡ 4 * length h.plants
  unfolding allotment
  allotment-sized = fours_sized (figure h) (length h.plants) (figure-sized h ok)

-- An amount for each submarket, shared over its own rows, for any lawful rule of sharing. Assumes nothing.
use mathlib.Core.Path.{◌≡◌, refl, sym, ap, ◌∙◌}
use Prim.Native.Nat.{ℕ, zero, suc, ◌+◌, ◌-◌, max, ◌≤◌}
use native.Mathlib.Omega.{arith}
use mathlib.Core.List.{List, []}
use lib.ListN.{length}
use lib.Seq.{ext_get_or}
use Rattle.lists.specs.Lists.{sum}
use Rattle.lists.specs.Columns.{◌⊕◌, ◌⊖◌, Below, joined, inside, within, four, at, totals}
use Rattle.lists.proofs.Columns.{◌!◌, length-rowwise, at-⊖, sum_ext, joined-four, each, at-within, within-⊖, at_totals, Only, only}
use Rattle.sharing.specs.Laws.{Lawful}
use Rattle.sharing.specs.Sharing.{Rule}
use Rattle.sharing.proofs.Sharing.{adds-le}
use Rattle.blocks.specs.Portion.{portion}

module _ {rule : Rule} (L : Lawful rule) (subs : List ℕ) where
  module _ (amounts ws : List ℕ) where
    q : ℕ → List ℕ
    q s = rule (at s amounts 0) (within s subs ws)

    -- as many parts as there are rows
    pub portion-sized : length (portion rule subs amounts ws) ≡ max (length subs) (length ws)
    unfolding portion joined q
    portion-sized =
        both (q 1) (q 2 ⊕ (q 3 ⊕ (q 4 ⊕ []))) (p 1) (both (q 2) (q 3 ⊕ (q 4 ⊕ [])) (p 2) (both (q 3) (q 4 ⊕ []) (p 3)
        (length-rowwise ◌+◌ 0 0 (q 4) [] ∙ (let a = p 4 in omega arith))))
      where
        p : (s : ℕ) → length (q s) ≡ max (length subs) (length ws)
        p s = L.sized (at s amounts 0) (within s subs ws) ∙ length-rowwise (inside s) 0 0 subs ws

        both : {n : ℕ} (xs ys : List ℕ) → length xs ≡ n → length ys ≡ n → length (xs ⊕ ys) ≡ n
        both {n} xs ys a b = length-rowwise ◌+◌ 0 0 xs ys ∙ (omega arith)

    -- each submarket's amount is no more than the weights of its rows
    module _ (fits : Below amounts (totals subs ws)) where
      fit : (s : ℕ) → 1 ≤ s → s ≤ 4 → at s amounts 0 ≤ sum (within s subs ws)
      fit s l h = let a = fits (s - 1) in let b = at_totals subs ws s l h in omega arith

      at-portion : (i : ℕ) → portion rule subs amounts ws ! i ≡ q 1 ! i + q 2 ! i + q 3 ! i + q 4 ! i
      unfolding portion q
      at-portion i = joined-four (four q) refl i

      q_under : (s : ℕ) → 1 ≤ s → s ≤ 4 → (i : ℕ) → q s ! i ≤ inside s (subs ! i) (ws ! i)
      unfolding q
      q_under s l h i = let a = L.bounded (at s amounts 0) (within s subs ws) (fit s l h) i in let b = at-within s subs ws i in omega arith

      only-own : (i : ℕ) → Only (subs ! i) (ws ! i) (q 1 ! i) (q 2 ! i) (q 3 ! i) (q 4 ! i)
      only-own i =
          only (subs ! i) (ws ! i) (q 1 ! i) (q 2 ! i) (q 3 ! i) (q 4 ! i)
          (q_under 1 (omega arith) (omega arith) i) (q_under 2 (omega arith) (omega arith) i)
          (q_under 3 (omega arith) (omega arith) i) (q_under 4 (omega arith) (omega arith) i)

      pub portion_under : Below (portion rule subs amounts ws) ws
      portion_under i = let a = at-portion i in let b = only-own i in omega arith

      portion-within : (s : ℕ) → 1 ≤ s → s ≤ 4 → (i : ℕ) → within s subs (portion rule subs amounts ws) ! i ≡ q s ! i
      portion-within s l h i = at-within s subs (portion rule subs amounts ws) i ∙ ap (inside s (subs ! i)) (at-portion i) ∙ go s l h
        where
          go : (s : ℕ) → 1 ≤ s → s ≤ 4 → inside s (subs ! i) (q 1 ! i + q 2 ! i + q 3 ! i + q 4 ! i) ≡ q s ! i
          go = each _ (only-own i).in1 (only-own i).in2 (only-own i).in3 (only-own i).in4

      pub portion-adds : (s : ℕ) → 1 ≤ s → s ≤ 4 → sum (within s subs (portion rule subs amounts ws)) ≡ at s amounts 0
      unfolding q
      portion-adds s l h =
          sum_ext (within s subs (portion rule subs amounts ws)) (q s) (portion-within s l h)
          ∙ adds-le L (at s amounts 0) (within s subs ws) (fit s l h)

      -- what is still open falls by the amounts
      fall : (s : ℕ) → 1 ≤ s → s ≤ 4 → sum (within s subs (ws ⊖ portion rule subs amounts ws)) ≡ sum (within s subs ws) - at s amounts 0
      fall s l h = let a = within-⊖ s subs ws (portion rule subs amounts ws) portion_under in let b = portion-adds s l h in omega arith

      pub at_fall : (j : ℕ) → totals subs (ws ⊖ portion rule subs amounts ws) ! j ≡ totals subs ws ! j - amounts ! j
      unfolding totals
      at_fall zero = fall 1 (omega arith) (omega arith)
      at_fall (suc zero) = fall 2 (omega arith) (omega arith)
      at_fall (suc (suc zero)) = fall 3 (omega arith) (omega arith)
      at_fall (suc (suc (suc zero))) = fall 4 (omega arith) (omega arith)
      at_fall (suc (suc (suc (suc j)))) = omega arith

      pub totals_fall : length amounts ≤ 4 → totals subs (ws ⊖ portion rule subs amounts ws) ≡ totals subs ws ⊖ amounts
      unfolding totals
      totals_fall short =
          ext_get_or 0 (totals subs (ws ⊖ portion rule subs amounts ws)) (totals subs ws ⊖ amounts)
          (let a = length-rowwise ◌-◌ 0 0 (totals subs ws) amounts in omega arith) (λ j _. at_fall j ∙ sym (at-⊖ (totals subs ws) amounts j))

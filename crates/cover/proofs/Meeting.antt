-- Steps 4 to 6 as the code takes them. Assumes nothing.
use mathlib.Core.Path.{◌≡◌, refl, sym, ap, ◌∙◌}
use mathlib.Core.Bool.{Bool, true, false, cond}
use mathlib.Core.Logic.{◌⊎◌, inl, inr}
use mathlib.Core.List.{List, [], ◌∷◌, map}
use Prim.Native.Nat.{ℕ, ◌+◌, ◌-◌, ◌*◌, ◌^◌, ◌≤◌}
use native.Mathlib.Nat.{le_of_eq}
use native.Mathlib.Omega.{arith}
use lib.Dec.{eqb}
use borrow.Author.Tests.{eqb-true, eqb-false, eq-eqb, ne_eqb}
use lib.ListN.{length, get_or}
use lib.Seq.{ext_get_or}
use Rattle.lists.specs.Lists.{sum, most, Within}
use Rattle.lists.specs.Columns.{◌⊕◌, ◌⊖◌, Below, inside, four, totals, by_row}
use Rattle.lists.proofs.Columns.{◌!◌, at-⊕, four-at, four-le, cond-le, Sited, sited_by, length-rowwise, four_is}
use Rattle.lists.proofs.Sums.{at-le-sum}
use Rattle.lists.proofs.Rows.{fours_sized, fours_at, by_fours}
use Rattle.sharing.specs.Sharing.{share}
use Rattle.transfer.specs.Laws.{row_sum}
use Rattle.sharing.proofs.Sharing.{share-lawful}
use Rattle.cover.specs.Cover.{own, own_parts, table, got, rest, supplied}
use Rattle.blocks.specs.Blocks.{standing_at, Raised, in_columns, Room}
use Rattle.cover.specs.Givers.{got_by, SentWithin}
use Rattle.cover.proofs.Cover.{own-fits, own_under, supplied-sized, at-supplied, four-rows, sent_is, row_is, row_under}
use Rattle.blocks.proofs.Portion.{totals_fall}
use Rattle.blocks.proofs.Slices.{Rising, standing-length, standing_in}
use Rattle.cover.proofs.Serving.{room-kept}

pub room-first : (want figures : List ℕ) → Within figures (2 ^ 62) → sum want ≤ most → Room want figures
room-first want figures w h = record { at = λ i j l. let a = w.at (4 * i + j) in let b = at-le-sum want i in omega arith }

-- ---- a row's own part goes to the column of its own submarket
own-column : (t x s : ℕ) → 1 ≤ t → t ≤ 4 → 1 ≤ s → cond (eqb (s - 1) ((0 ∷ 1 ∷ 2 ∷ 3 ∷ []) ! (t - 1))) x 0 ≡ inside s t x
own-column t x s l h low = ap (λ (b : Bool). cond b x 0) (ap (eqb (s - 1)) (itself t l h) ∙ same (eqb (s - 1) (t - 1)) refl)
  where
    itself : (t : ℕ) → 1 ≤ t → t ≤ 4 → (0 ∷ 1 ∷ 2 ∷ 3 ∷ []) ! (t - 1) ≡ t - 1
    itself = four-at (λ t. t - 1) 0

    same : (b : Bool) → eqb (s - 1) (t - 1) ≡ b → eqb (s - 1) (t - 1) ≡ eqb t s
    same true e = e ∙ sym (eq-eqb t s (let p = eqb-true (s - 1) (t - 1) e in omega arith))
    same false e = e ∙ sym (ne_eqb t s (λ p. eqb-false (s - 1) (t - 1) e (omega arith)))

-- ---- what the rows have from each submarket in the end
module _ (starts have want : List ℕ) (up : Rising starts (length want)) where
  abbrev subs : List ℕ
  subs = standing_at starts

  pub sited : Sited subs want
  sited = sited_by subs want (length want) (omega arith) (standing_in starts (length want) up)

  -- what is still open after own cover
  pub still_is : length (own share subs have want) ≤ 4 → totals subs want ⊖ own share subs have want ≡ totals subs (want ⊖ own_parts share subs have want)
  unfolding own_parts
  still_is short = sym (totals_fall share-lawful subs (own share subs have want) want (own-fits share-lawful subs have want) short)

  pub still_room : {figures₀ figures₁ : List ℕ} → Room want figures₀
      → Raised (in_columns (0 ∷ 1 ∷ 2 ∷ 3 ∷ []) subs (own_parts share subs have want)) figures₀ figures₁ → Room (want ⊖ own_parts share subs have want) figures₁
  unfolding own_parts
  still_room = room-kept share-lawful subs (own share subs have want) want (own-fits share-lawful subs have want) (0 ∷ 1 ∷ 2 ∷ 3 ∷ [])

  module _ (four-have : length have ≡ 4) (enough : sum want ≤ sum have) where
    abbrev T : List (List ℕ)
    T = table share subs have want

    pub sent-within : SentWithin T (totals subs want ⊖ own share subs have want)
    sent-within s = le_of_eq (sent_is share-lawful subs have want four-have sited enough s)

    pub rows-below : Below (four (λ s. row_sum T (s - 1))) (have ⊖ own share subs have want)
    rows-below = let r = row_under share-lawful subs have want four-have sited enough in four-le (λ s. (have ⊖ own share subs have want) ! s) (r 0) (r 1) (r 2) (r 3)

    pub rest_is : have ⊖ own share subs have want ⊖ four (λ s. row_sum T (s - 1)) ≡ rest share subs have want
    unfolding rest
    rest_is = ap (λ l. have ⊖ own share subs have want ⊖ l) (sym sums)
      where
        r : (g : ℕ) → row_sum T g ≡ sum (get_or T g [])
        r = row_is share-lawful subs have want four-have sited enough

        sums : map sum T ≡ four (λ s. row_sum T (s - 1))
        sums = ap (map sum) (four_is [] T (four-rows share-lawful subs have want four-have sited enough)) ∙ sym (λ i. r 0 i ∷ r 1 i ∷ r 2 i ∷ r 3 i ∷ [])

  rise_own : (i s : ℕ) → 1 ≤ s → in_columns (0 ∷ 1 ∷ 2 ∷ 3 ∷ []) subs (own_parts share subs have want) i (s - 1) ≡ inside s (subs ! i) (own_parts share subs have want ! i)
  rise_own i s l = go (sited i)
    where
      x : ℕ
      x = own_parts share subs have want ! i

      go : (want ! i ≡ 0) ⊎ ((1 ≤ subs ! i) × (subs ! i ≤ 4)) → cond (eqb (s - 1) ((0 ∷ 1 ∷ 2 ∷ 3 ∷ []) ! (subs ! i - 1))) x 0 ≡ inside s (subs ! i) x
      go (inr r) = own-column (subs ! i) x s r.0 r.1 l
      go (inl z) =
          let a = own_under share-lawful subs have want i in let b = cond-le (eqb (s - 1) ((0 ∷ 1 ∷ 2 ∷ 3 ∷ []) ! (subs ! i - 1))) x in let c = cond-le (eqb (subs ! i) s) x in omega arith

  sized : (s : ℕ) → length (supplied share subs have want s) ≡ length want
  sized s = let e = standing-length starts (length want) up in supplied-sized share-lawful subs have want (omega arith) s ∙ e

  pub meets : {figures₀ figures₁ figures₂ : List ℕ} → 4 * length want ≤ length figures₀
      → Raised (in_columns (0 ∷ 1 ∷ 2 ∷ 3 ∷ []) subs (own_parts share subs have want)) figures₀ figures₁
      → Raised (got_by (got share subs have want)) figures₁ figures₂
      → figures₂ ≡ figures₀ ⊕ by_row 0 (four (supplied share subs have want))
  meets {figures₀} {figures₁} {figures₂} long q r =
      ext_get_or 0 figures₂ (figures₀ ⊕ all) (let a = q.same in let b = r.same in let c = length-rowwise ◌+◌ 0 0 figures₀ all in let d = fours_sized (supplied share subs have want) (length want) sized in omega arith)
      (λ k _. by_fours (λ k. figures₂ ! k ≡ (figures₀ ⊕ all) ! k) both k)
    where
      all : List ℕ
      all = by_row 0 (four (supplied share subs have want))

      both : (s : ℕ) → 1 ≤ s → s ≤ 4 → (i : ℕ) → figures₂ ! (s - 1 + i * 4) ≡ (figures₀ ⊕ all) ! (s - 1 + i * 4)
      both s l h i =
          let place : 4 * i + (s - 1) ≡ s - 1 + i * 4 = omega arith in
          let a = q.by i (s - 1) (omega arith) in let b = r.by i (s - 1) (omega arith) in
          let c = ap (λ (k : ℕ). figures₀ ! k) place in let d = ap (λ (k : ℕ). figures₂ ! k) place in
          let e = rise_own i s l in let f = at-supplied share subs have want s i in
          let g = at-⊕ figures₀ all (s - 1 + i * 4) in let m = fours_at (supplied share subs have want) (length want) sized s l h i in
          omega arith

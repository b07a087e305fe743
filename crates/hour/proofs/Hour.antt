-- One hour, by any lawful rule of sharing: columns, rows, zero sum, covered guarantees and surplus. Assumes nothing.
use mathlib.Core.Path.{◌≡◌, refl, sym, ap, ◌∙◌}
use mathlib.Core.Logic.{◌⊎◌, inl, inr}
use mathlib.Core.Bool.{Bool, true, false, cond}
use Prim.Native.Nat.{ℕ, ◌+◌, ◌-◌, min, ◌≤◌, ◌<◌}
use native.Mathlib.Omega.{arith}
use native.Mathlib.Nat.{eq-zero-or-pos}
use mathlib.Core.List.{List, []}
use lib.Dec.{leb, eqb}
use lib.ListN.{length, length-map}
use borrow.Author.Tests.{leb-true, leb-false, eqb-true, eqb-false}
use Rattle.lists.specs.Columns.{rowwise, ◌⊕◌, ◌⊖◌, ◌⊓◌, joined, inside, beyond, within, outside, at, totals}
use Rattle.lists.specs.Lists.{sum}
use Rattle.lists.proofs.Columns.{◌!◌, length-rowwise, at-⊕, at-⊖, at-⊓, each, sum-⊕, sum_ext, fewer, sum-nil, joined-four, at-within, at-outside, within_ext, within-⊕, in_and_out, Sited, sited_le, sited_by, quarters, totals-sum, at_totals}
use Rattle.lists.proofs.Sums.{at-le-sum}
use Rattle.lists.proofs.Questions.{by_case}
use Rattle.sharing.specs.Laws.{Lawful}
use Rattle.sharing.proofs.Sharing.{adds-le}
use Rattle.cover.specs.Cover.{own, got, rest}
use Rattle.hour.specs.Hour.{Hour, submarkets, guaranteed, guarantees, secondary, covered, deficit, surplus, left_over, rights, own_cover, cover_table, cover_got, own_secondary, secondary_table, secondary_got, figure}
use Rattle.plants.specs.declared.Plant.{Plant}
use Rattle.cover.proofs.Cover.{Met, met, own-sized, got-sized}

-- An hour with a lawful rule, whose plants stand in submarkets 1 to 4, with a metered figure for each
pub record Sound (h : Hour) : Type 0 where
  pub lawful : Lawful h.rule
  pub placed : (i : ℕ) → i < length h.plants → (1 ≤ submarkets h ! i) × (submarkets h ! i ≤ 4)
  pub metered : length h.metered ≡ length h.plants

module _ (h : Hour) (ok : Sound h) where
  abbrev L : Lawful h.rule
  L = ok.lawful

  abbrev subs : List ℕ
  subs = submarkets h

  abbrev G : List ℕ
  G = h.metered

  abbrev b : List ℕ
  b = covered h

  abbrev d : List ℕ
  d = deficit h

  abbrev r : List ℕ
  r = rights h

  -- lengths
  pub rows_subs : length subs ≡ length h.plants
  unfolding submarkets
  rows_subs = length-map h.plants (λ (p : Plant). p.submarket)

  pub rows_a : length (guarantees h) ≡ length subs
  unfolding guarantees
  rows_a = length-map h.plants (guaranteed h) ∙ sym rows_subs

  pub rows-G : length G ≡ length subs
  rows-G = ok.metered ∙ sym rows_subs

  pub rows_b : length b ≡ length subs
  unfolding covered
  rows_b =
      by_case (λ l. length l ≡ length subs) (leb (sum (guarantees h)) (sum G)) (guarantees h) (h.rule (sum G) (guarantees h))
      (λ _. rows_a) (λ _. L.sized (sum G) (guarantees h) ∙ rows_a)

  pub rows_r : length r ≡ length subs
  unfolding rights
  rows_r =
      by_case (λ l. length l ≡ length subs) (eqb (sum (guarantees h)) 0) G (h.rule (secondary h) (guarantees h))
      (λ _. rows-G) (λ _. L.sized (secondary h) (guarantees h) ∙ rows_a)

  pub rows_d : length d ≡ length subs
  unfolding deficit
  rows_d = length-rowwise ◌-◌ 0 0 b G ∙ (let p = rows_b in let q = rows-G in omega arith)

  sited : (xs : List ℕ) → length xs ≤ length subs → Sited subs xs
  sited xs le = sited_by subs xs (length subs) le (λ i lt. ok.placed i (let e = rows_subs in omega arith))

  -- step 3: the covered guarantees and the secondary energy add up to the generation
  pub covered-sum : sum b + secondary h ≡ sum G
  unfolding covered secondary
  covered-sum =
      by_case (λ l. sum l + (sum G - sum (guarantees h)) ≡ sum G) (leb (sum (guarantees h)) (sum G)) (guarantees h) (h.rule (sum G) (guarantees h))
      (λ e. let k = leb-true (sum (guarantees h)) (sum G) e in omega arith)
      (λ e. let k = leb-false (sum (guarantees h)) (sum G) e in let m = adds-le L (sum G) (guarantees h) (omega arith) in omega arith)

  -- step 7: the rights add up to the secondary energy
  pub rights-sum : sum r ≡ secondary h
  unfolding rights secondary
  rights-sum =
      by_case (λ l. sum l ≡ sum G - sum (guarantees h)) (eqb (sum (guarantees h)) 0) G (h.rule (sum G - sum (guarantees h)) (guarantees h))
      (λ e. let k = eqb-true (sum (guarantees h)) 0 e in omega arith)
      (λ e. L.adds (sum G - sum (guarantees h)) (guarantees h) (inr (pos_of e (eq-zero-or-pos (sum (guarantees h))))))
    where
      pos_of : eqb (sum (guarantees h)) 0 ≡ false → (sum (guarantees h) ≡ 0) ⊎ (0 < sum (guarantees h)) → 0 < sum (guarantees h)
      pos_of e (inl z) = absurd (eqb-false (sum (guarantees h)) 0 e z)
      pos_of e (inr p) = p

  -- step 4: surpluses and deficits
  pub surplus-sum : sum (surplus h) + sum b ≡ sum d + sum G
  unfolding surplus deficit
  surplus-sum =
      let e : sum (totals subs (G ⊖ b)) ≡ sum (G ⊖ b) =
      totals-sum subs (G ⊖ b) (sited (G ⊖ b) (let p = length-rowwise ◌-◌ 0 0 G b in let q = rows_b in let s = rows-G in omega arith)) in
      let f : sum ((G ⊖ b) ⊕ b) ≡ sum ((b ⊖ G) ⊕ G) =
      sum_ext ((G ⊖ b) ⊕ b) ((b ⊖ G) ⊕ G)
      (λ i. let p = at-⊕ (G ⊖ b) b i in let q = at-⊕ (b ⊖ G) G i in let s = at-⊖ G b i in let t = at-⊖ b G i in omega arith) in
      let p = sum-⊕ (G ⊖ b) b in let q = sum-⊕ (b ⊖ G) G in
      omega arith

  -- the deficits are covered, and then the rights to secondary energy
  pub first : Met h.rule subs (surplus h) d
  first =
      met L subs (surplus h) d (unfold surplus totals in refl) (sited d (let p = rows_d in omega arith))
      (let p = surplus-sum in let q = covered-sum in omega arith)

  pub left_over-sum : sum (left_over h) ≡ sum r
  unfolding left_over
  left_over-sum = let p = first.leaves in let q = surplus-sum in let s = covered-sum in let t = rights-sum in omega arith

  pub second : Met h.rule subs (left_over h) r
  second =
      met L subs (left_over h) r (unfold left_over in first.four_left) (sited r (let p = rows_r in omega arith))
      (let p = left_over-sum in omega arith)

  -- ---- step 8
  abbrev o₁ : List ℕ
  o₁ = own_cover h

  abbrev o₂ : List ℕ
  o₂ = own_secondary h

  abbrev g₁ : ℕ → List ℕ
  g₁ s = at s (cover_got h) []

  abbrev g₂ : ℕ → List ℕ
  g₂ s = at s (secondary_got h) []

  -- what a plant has in its own submarket
  pub home : List ℕ
  home = G ⊓ b ⊕ o₁ ⊕ o₂

  pub at_home : (i : ℕ) → home ! i ≡ min (G ! i) (b ! i) + o₁ ! i + o₂ ! i
  unfolding home
  at_home i = let p = at-⊕ (G ⊓ b ⊕ o₁) o₂ i in let q = at-⊕ (G ⊓ b) o₁ i in let s = at-⊓ G b i in omega arith

  pub at-figure : (s : ℕ) → 1 ≤ s → s ≤ 4 → (i : ℕ) → figure h s ! i ≡ inside s (subs ! i) (home ! i) + (g₁ s ! i + g₂ s ! i)
  unfolding figure home own_cover own_secondary cover_got secondary_got
  at-figure s l k i =
      at-⊕ (within s subs home) (outside s subs (g₁ s ⊕ g₂ s)) i
      ∙ (let p = at-within s subs home i in
      let q = at-outside s subs (g₁ s ⊕ g₂ s) i ∙ ap (beyond s (subs ! i)) (at-⊕ (g₁ s) (g₂ s) i) in
      let e = other_rows (eqb (subs ! i) s) (g₁ s ! i) (g₂ s ! i)
      (sym (at-within s subs (g₁ s) i) ∙ first.no_loop s l k i) (sym (at-within s subs (g₂ s) i) ∙ second.no_loop s l k i) in
      omega arith)
    where
      other_rows : (t : Bool) (x y : ℕ) → cond t x 0 ≡ 0 → cond t y 0 ≡ 0 → cond t 0 (x + y) ≡ x + y
      other_rows true x y e f = omega arith
      other_rows false x y e f = refl

  -- a deficit and a right to secondary energy are met, from the plant's own submarket and by the table
  cover_met : (i : ℕ) → o₁ ! i + joined (got h.rule subs (surplus h) d) ! i ≡ d ! i
  unfolding own_cover
  cover_met i = first.fills i

  rights_met : (i : ℕ) → o₂ ! i + joined (got h.rule subs (left_over h) r) ! i ≡ r ! i
  unfolding own_secondary
  rights_met i = second.fills i

  -- demand 3, rows: the four figures of a plant are its covered guarantee and its right to secondary energy
  pub row-sum : (i : ℕ) → figure h 1 ! i + figure h 2 ! i + figure h 3 ! i + figure h 4 ! i ≡ b ! i + r ! i
  row-sum i =
      let p = at-figure 1 (omega arith) (omega arith) i in let q = at-figure 2 (omega arith) (omega arith) i in
      let s = at-figure 3 (omega arith) (omega arith) i in let t = at-figure 4 (omega arith) (omega arith) i in
      let u : joined (got h.rule subs (surplus h) d) ! i ≡ g₁ 1 ! i + g₁ 2 ! i + g₁ 3 ! i + g₁ 4 ! i =
      unfold cover_got in joined-four (got h.rule subs (surplus h) d) first.four_givers i in
      let v : joined (got h.rule subs (left_over h) r) ! i ≡ g₂ 1 ! i + g₂ 2 ! i + g₂ 3 ! i + g₂ 4 ! i =
      unfold secondary_got in joined-four (got h.rule subs (left_over h) r) second.four_givers i in
      let w = cover_met i in let x = rights_met i in
      let y : d ! i ≡ b ! i - G ! i = unfold deficit in at-⊖ b G i in
      let z = quarters (subs ! i) (home ! i) (placed_home i) in
      let k = at_home i in
      omega arith
    where
      placed_home : Sited subs home
      placed_home =
          sited_le subs home (G ⊕ d ⊕ r)
          (λ i.
          let k = at_home i in let p = at-⊕ (G ⊕ d) r i in let q = at-⊕ G d i in
          let w = cover_met i in let x = rights_met i in
          omega arith)
          (sited (G ⊕ d ⊕ r)
          (let p = length-rowwise ◌+◌ 0 0 (G ⊕ d) r in let q = length-rowwise ◌+◌ 0 0 G d in let s = rows-G in let t = rows_d in let u = rows_r in omega arith))

  -- in a submarket: own cover, own part, both rows of the tables are its surplus
  all_spent : (s : ℕ) → 1 ≤ s → s ≤ 4
      → at s (own h.rule subs (surplus h) d) 0 + sum (at s (cover_table h) []) + at s (own h.rule subs (left_over h) r) 0 + sum (at s (secondary_table h) [])
      ≡ at s (surplus h) 0
  unfolding cover_table secondary_table
  all_spent s l k =
      let p = first.spent s l k in let q = second.spent s l k in
      let e : at s (left_over h) 0 ≡ at s (rest h.rule subs (surplus h) d) 0 = unfold left_over in refl in
      let t = second.leaves in let u = left_over-sum in
      let v = at-le-sum (rest h.rule subs (left_over h) r) (s - 1) in
      omega arith

  -- demand 3, surplus: what a submarket sends out by both tables is at most its surplus
  pub sent-sum : (s : ℕ) → 1 ≤ s → s ≤ 4 → sum (at s (cover_table h) []) + sum (at s (secondary_table h) []) ≤ at s (surplus h) 0
  sent-sum s l k = let p = all_spent s l k in omega arith

  -- demand 3, columns: the figures in a submarket add up to the generation metered there
  pub column-sum : (s : ℕ) → 1 ≤ s → s ≤ 4 → sum (figure h s) ≡ sum (within s subs G)
  unfolding figure home own_cover own_secondary cover_got secondary_got cover_table secondary_table
  column-sum s l k =
      let p = sum-⊕ (within s subs home) (outside s subs (g₁ s ⊕ g₂ s)) in
      let q = in_and_out s subs (g₁ s ⊕ g₂ s) in
      let t = within-⊕ s subs (g₁ s) (g₂ s) in
      let u = sum-nil (within s subs (g₁ s)) (first.no_loop s l k) in
      let v = sum-nil (within s subs (g₂ s)) (second.no_loop s l k) in
      let w = sum-⊕ (g₁ s) (g₂ s) in
      let x = first.from_table s l k in let y = second.from_table s l k in
      let z = within-⊕ s subs (G ⊓ b ⊕ o₁) o₂ in let z' = within-⊕ s subs (G ⊓ b) o₁ in
      let m = first.from_own s l k in let n = second.from_own s l k in
      let a = all_spent s l k in
      let c : at s (surplus h) 0 ≡ sum (within s subs (G ⊖ b)) = unfold surplus in at_totals subs (G ⊖ b) s l k in
      let e = within-⊕ s subs (G ⊓ b) (G ⊖ b) in
      let f : sum (within s subs (G ⊓ b ⊕ (G ⊖ b))) ≡ sum (within s subs G) =
      within_ext s subs (G ⊓ b ⊕ (G ⊖ b)) G
      (λ i. at-⊕ (G ⊓ b) (G ⊖ b) i ∙ (let i1 = at-⊓ G b i in let i2 = at-⊖ G b i in omega arith)) in
      omega arith

  -- demand 3, zero sum: what is covered and what is right to secondary energy are the generation
  pub whole_sum : sum (b ⊕ r) ≡ sum G
  whole_sum = let p = sum-⊕ b r in let q = covered-sum in let s = rights-sum in omega arith

  -- a figure for each plant
  pub figure-sized : (s : ℕ) → length (figure h s) ≡ length h.plants
  unfolding figure home own_cover own_secondary cover_got secondary_got
  figure-sized s =
      let a : length home ≤ length subs =
      under ◌+◌ 0 0 (G ⊓ b ⊕ o₁) o₂
      (under ◌+◌ 0 0 (G ⊓ b) o₁ (under min 0 0 G b (let p = rows-G in omega arith) (let p = rows_b in omega arith))
      (own-sized L subs (surplus h) d (let p = rows_d in omega arith)))
      (own-sized L subs (left_over h) r (let p = rows_r in omega arith)) in
      let c : length (g₁ s ⊕ g₂ s) ≤ length subs =
      under ◌+◌ 0 0 (g₁ s) (g₂ s)
      (got-sized L subs (surplus h) d (s - 1) (let p = rows_d in omega arith))
      (got-sized L subs (left_over h) r (s - 1) (let p = rows_r in omega arith)) in
      let e = length-rowwise ◌+◌ 0 0 (within s subs home) (outside s subs (g₁ s ⊕ g₂ s)) in
      let p = length-rowwise (inside s) 0 0 subs home in
      let q = length-rowwise (beyond s) 0 0 subs (g₁ s ⊕ g₂ s) in
      let u = rows_subs in
      omega arith
    where
      under : (f : ℕ → ℕ → ℕ) (x y : ℕ) (xs ys : List ℕ) → length xs ≤ length subs → length ys ≤ length subs → length (rowwise f x y xs ys) ≤ length subs
      under f x y xs ys p q = let e = length-rowwise f x y xs ys in omega arith

  -- a net for each plant
  pub whole-sized : length (b ⊕ r) ≡ length h.plants
  whole-sized = length-rowwise ◌+◌ 0 0 b r ∙ (let p = rows_b in let q = rows_r in let s = rows_subs in omega arith)

  -- ---- sizes: nothing of an hour is above its generation
  pub share-le : (i : ℕ) → b ! i + r ! i ≤ sum G
  share-le i = let p = at-⊕ b r i in let q = at-le-sum (b ⊕ r) i in let s = whole_sum in omega arith

  pub figure-le : (s : ℕ) → 1 ≤ s → s ≤ 4 → (i : ℕ) → figure h s ! i ≤ sum G
  figure-le s l k i = go s l k
    where
      e : figure h 1 ! i + figure h 2 ! i + figure h 3 ! i + figure h 4 ! i ≤ sum G
      e = let p = row-sum i in let q = share-le i in omega arith

      go : (s : ℕ) → 1 ≤ s → s ≤ 4 → figure h s ! i ≤ sum G
      go = each (λ s. figure h s ! i ≤ sum G) (let p = e in omega arith) (let p = e in omega arith) (let p = e in omega arith) (let p = e in omega arith)

  pub surplus-le : sum (surplus h) ≤ sum G
  surplus-le =
      let p = surplus-sum in
      let q : sum d ≤ sum b = unfold deficit in fewer b G in
      omega arith

  pub left_over-le : sum (left_over h) ≤ sum G
  left_over-le = let p = left_over-sum in let q = rights-sum in let s = covered-sum in omega arith

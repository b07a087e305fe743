-- Step 8 as the code builds it: min(G, b) in the own submarket, and then what the submarkets supplied, twice. Assumes nothing.
use mathlib.Core.Path.{◌≡◌, ap, ◌∙◌}
use mathlib.Core.List.{List}
use Prim.Native.Nat.{ℕ, ◌+◌, ◌-◌, ◌*◌, ◌^◌, min, ◌≤◌}
use native.Mathlib.Omega.{arith}
use lib.Dec.{eqb}
use lib.ListN.{length}
use lib.Seq.{ext_get_or}
use Rattle.lists.specs.Lists.{sum, most, Within}
use Rattle.lists.specs.Columns.{◌⊕◌, ◌⊓◌, inside, within, four, by_row}
use Rattle.lists.proofs.Columns.{◌!◌, length-rowwise, at-⊕, at-⊓, at-within, cond-+}
use Rattle.lists.proofs.Rows.{fours_sized, fours_at, by_fours}
use Rattle.rows.proofs.Fours.{within-sized}
use Rattle.cover.specs.Cover.{supplied}
use Rattle.cover.proofs.Cover.{supplied-sized, at-supplied}
use Rattle.hour.specs.Hour.{Hour, submarkets, covered, deficit, surplus, left_over, rights, own_cover, cover_got, own_secondary, secondary_got, figure, allotment}
use Rattle.hour.proofs.Hour.{Sound, rows_subs, rows-G, rows_b, rows_d, rows_r, at_home, at-figure, figure-le}
use Rattle.hour.proofs.Figures.{allotment-at, allotment-sized}

module _ (h : Hour) (ok : Sound h) where
  abbrev subs : List ℕ
  subs = submarkets h

  -- what is there before the submarkets supply anything
  abbrev begun : ℕ → List ℕ
  begun s = within s subs (h.metered ⊓ covered h)

  abbrev first : ℕ → List ℕ
  first = supplied h.rule subs (surplus h) (deficit h)

  abbrev second : ℕ → List ℕ
  second = supplied h.rule subs (left_over h) (rights h)

  begun_sized : (s : ℕ) → length (begun s) ≡ length subs
  begun_sized =
      within-sized subs (h.metered ⊓ covered h) (length-rowwise min 0 0 h.metered (covered h) ∙ (let a = rows-G h ok in let b = rows_b h ok in omega arith))

  first-sized : (s : ℕ) → length (first s) ≡ length subs
  first-sized = supplied-sized ok.lawful subs (surplus h) (deficit h) (let e = rows_d h ok in omega arith)

  second-sized : (s : ℕ) → length (second s) ≡ length subs
  second-sized = supplied-sized ok.lawful subs (left_over h) (rights h) (let e = rows_r h ok in omega arith)

  figure_is : (s : ℕ) → 1 ≤ s → s ≤ 4 → (i : ℕ) → figure h s ! i ≡ begun s ! i + first s ! i + second s ! i
  unfolding own_cover cover_got own_secondary secondary_got
  figure_is s l k i =
      let a = at-figure h ok s l k i in
      let b = ap (inside s (subs ! i)) (at_home h ok i) ∙ cond-+ (eqb (subs ! i) s) (min (h.metered ! i) (covered h ! i) + own_cover h ! i) (own_secondary h ! i) in
      let f = cond-+ (eqb (subs ! i) s) (min (h.metered ! i) (covered h ! i)) (own_cover h ! i) in
      let c = at-within s subs (h.metered ⊓ covered h) i ∙ ap (inside s (subs ! i)) (at-⊓ h.metered (covered h) i) in
      let d = at-supplied h.rule subs (surplus h) (deficit h) s i in
      let e = at-supplied h.rule subs (left_over h) (rights h) s i in
      omega arith

  pub allotment_built : allotment h
      ≡ by_row 0 (four begun) ⊕ by_row 0 (four first) ⊕ by_row 0 (four second)
  allotment_built =
      ext_get_or 0 (allotment h) (x ⊕ y ⊕ z)
      (let a = length-rowwise ◌+◌ 0 0 x y in let b = x_sized in let c = y_sized in let d = z_sized in let e = rows_subs h ok in
      let f = allotment-sized h ok in let g = length-rowwise ◌+◌ 0 0 (x ⊕ y) z in omega arith)
      (λ j _. by_fours (λ j. allotment h ! j ≡ (x ⊕ y ⊕ z) ! j) (λ s l k i.
      let a = allotment-at h ok s l k i in let b = figure_is s l k i in
      let c = at-⊕ (x ⊕ y) z (s - 1 + i * 4) in let d = at-⊕ x y (s - 1 + i * 4) in
      let e = fours_at begun n begun_sized s l k i in
      let f = fours_at first n first-sized s l k i in let g = fours_at second n second-sized s l k i in
      omega arith) j)
    where
      n : ℕ
      n = length subs

      x : List ℕ
      x = by_row 0 (four begun)

      y : List ℕ
      y = by_row 0 (four first)

      z : List ℕ
      z = by_row 0 (four second)

      x_sized : length x ≡ 4 * n
      x_sized = fours_sized begun n begun_sized

      y_sized : length y ≡ 4 * n
      y_sized = fours_sized first n first-sized

      z_sized : length z ≡ 4 * n
      z_sized = fours_sized second n second-sized

  -- no figure on the way is above the generation
  module _ (small : sum h.metered ≤ most) where
    begun-le : (s : ℕ) → 1 ≤ s → s ≤ 4 → (i : ℕ) → begun s ! i + first s ! i ≤ most
    begun-le s l k i = let a = figure_is s l k i in let b = figure-le h ok s l k i in omega arith

    pub begun-small : Within (by_row 0 (four begun)) (2 ^ 62)
    begun-small =
        record { at = by_fours (λ j. by_row 0 (four begun) ! j ≤ 2 ^ 62) (λ s l k i. let a = fours_at begun (length subs) begun_sized s l k i in let b = begun-le s l k i in omega arith) }

    pub first_small : Within (by_row 0 (four begun) ⊕ by_row 0 (four first)) (2 ^ 62)
    first_small =
        record {
          at = by_fours (λ j. (by_row 0 (four begun) ⊕ by_row 0 (four first)) ! j ≤ 2 ^ 62) (λ s l k i.
              let a = at-⊕ (by_row 0 (four begun)) (by_row 0 (four first)) (s - 1 + i * 4) in
              let b = fours_at begun (length subs) begun_sized s l k i in
              let c = fours_at first (length subs) first-sized s l k i in
              let d = begun-le s l k i in
              omega arith);
        }

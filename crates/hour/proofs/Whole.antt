-- What each step of the code leaves is what the hour's definitions say. Assumes nothing.
use mathlib.Core.Path.{◌≡◌, sym, ap, ap₂}
use mathlib.Core.List.{List}
use Prim.Native.Nat.{ℕ, ◌-◌, ◌^◌, ◌≤◌}
use native.Mathlib.Omega.{arith}
use lib.IntN.{ℤ, sub_ℕ}
use Rattle.lists.specs.Lists.{sum, most, Within}
use Rattle.lists.specs.Columns.{rowwise, ◌⊕◌, ◌⊖◌, ◌⊓◌, within, four, totals, by_row}
use Rattle.sharing.specs.Sharing.{share}
use Rattle.cover.specs.Cover.{table, rest, supplied}
use Rattle.hour.specs.Hour.{Hour, hour_of, submarkets, guarantees, secondary, covered, deficit, surplus, left_over, rights, cover_table, secondary_table, nets}
use Rattle.plants.specs.declared.Plant.{Plant}
use Rattle.plants.specs.Plants.{submarkets_of}
use Rattle.rows.specs.Steps.{covered_by, rights_by}
use Rattle.hour.specs.Work.{Workable}
use Rattle.hour.proofs.Hour.{surplus-sum, covered-sum, rights-sum, left_over-sum, surplus-le, left_over-le}
use Rattle.hour.proofs.Allotment.{begun-small, first_small}
use Rattle.hour.proofs.Limits.{sound, subs_are}

module _ {plants : List Plant} {profile : List ℕ} {k : ℕ} {metered lent : List ℕ} {lentNets : List ℤ} (w : Workable plants profile k metered lent lentNets) where
  abbrev h : Hour
  h = hour_of plants profile metered k

  generated : sum h.metered ≤ most
  unfolding hour_of
  generated = w.generation

  -- step 3
  pub secondary_is_lem : {a : List ℕ} → a ≡ guarantees h → sum metered - sum a ≡ secondary h
  unfolding hour_of secondary
  secondary_is_lem e = ap (λ l. sum metered - sum l) e

  pub covered_is : {a : List ℕ} → a ≡ guarantees h → covered_by share (sum metered) a ≡ covered h
  unfolding hour_of covered
  covered_is e = ap (covered_by share (sum metered)) e

  -- step 7
  pub rights_are : {a : List ℕ} → a ≡ guarantees h → rights_by share (sum metered - sum a) a metered ≡ rights h
  unfolding hour_of rights secondary
  rights_are e = ap (λ l. rights_by share (sum metered - sum l) l metered) e

  -- step 4
  pub deficit_is : {b : List ℕ} → b ≡ covered h → b ⊖ metered ≡ deficit h
  unfolding hour_of deficit
  deficit_is e = ap (λ l. l ⊖ metered) e

  pub surplus_is : {b : List ℕ} → b ≡ covered h → totals (submarkets_of plants) (metered ⊖ b) ≡ surplus h
  unfolding hour_of surplus
  surplus_is e = ap₂ (λ s l. totals s (metered ⊖ l)) (sym (subs_are w)) e

  -- step 8, begun
  pub nets_are : {b r : List ℕ} → b ≡ covered h → r ≡ rights h → rowwise sub_ℕ 0 0 metered (b ⊕ r) ≡ nets h
  unfolding hour_of nets
  nets_are e f = ap₂ (λ l m. rowwise sub_ℕ 0 0 metered (l ⊕ m)) e f

  pub begun_is : {b : List ℕ} → b ≡ covered h
      → by_row 0 (four (λ s. within s (submarkets_of plants) (metered ⊓ b))) ≡ by_row 0 (four (λ s. within s (submarkets h) (h.metered ⊓ covered h)))
  unfolding hour_of
  begun_is e = ap₂ (λ t l. by_row 0 (four (λ s. within s t (metered ⊓ l)))) (sym (subs_are w)) e

  -- what the submarkets supply, in step 6 and again in step 7
  pub supplied_is : {t u d u' d' : List ℕ} → t ≡ submarkets h → u ≡ u' → d ≡ d'
      → by_row 0 (four (supplied share t u d)) ≡ by_row 0 (four (supplied h.rule (submarkets h) u' d'))
  unfolding hour_of
  supplied_is et eu ed = λ i. by_row 0 (four (supplied share (et i) (eu i) (ed i)))

  -- steps 4 to 6
  module _ {t u d : List ℕ} (et : t ≡ submarkets h) (eu : u ≡ surplus h) (ed : d ≡ deficit h) where
    pub cover_is : table share t u d ≡ cover_table h
    unfolding hour_of cover_table
    cover_is = λ i. table share (et i) (eu i) (ed i)

    pub left_is : rest share t u d ≡ left_over h
    unfolding hour_of left_over
    left_is = λ i. rest share (et i) (eu i) (ed i)

    pub deficit_met : sum d ≤ sum u
    unfolding hour_of
    deficit_met = rw (eu, ed) (let a = surplus-sum h (sound w) in let b = covered-sum h (sound w) in omega arith)

    pub surplus-small : sum u ≤ most
    unfolding hour_of
    surplus-small = rw eu (let a = surplus-le h (sound w) in let b = w.generation in omega arith)

  -- step 7
  module _ {t v r : List ℕ} (et : t ≡ submarkets h) (ev : v ≡ left_over h) (er : r ≡ rights h) where
    pub again_is : table share t v r ≡ secondary_table h
    unfolding hour_of secondary_table
    again_is = λ i. table share (et i) (ev i) (er i)

    pub rights_met : sum r ≤ sum v
    rights_met = rw (ev, er) (let a = left_over-sum h (sound w) in omega arith)

    pub left-small : sum v ≤ most
    unfolding hour_of
    left-small = rw ev (let a = left_over-le h (sound w) in let b = w.generation in omega arith)

  -- sizes
  pub covered-small : sum (covered h) ≤ most
  unfolding hour_of
  covered-small = let a = covered-sum h (sound w) in let b = w.generation in omega arith

  pub rights-small : sum (rights h) ≤ most
  unfolding hour_of
  rights-small = let a = rights-sum h (sound w) in let b = covered-sum h (sound w) in let c = w.generation in omega arith

  -- no figure on the way passes 2 × 10^9
  pub begun-low : {b : List ℕ} → b ≡ covered h → Within (by_row 0 (four (λ s. within s (submarkets_of plants) (metered ⊓ b)))) (2 ^ 62)
  begun-low eb = rw (begun_is eb) (begun-small h (sound w) generated)

  pub first-low : {t b u d : List ℕ} → t ≡ submarkets h → b ≡ covered h → u ≡ surplus h → d ≡ deficit h
      → Within (by_row 0 (four (λ s. within s (submarkets_of plants) (metered ⊓ b))) ⊕ by_row 0 (four (supplied share t u d))) (2 ^ 62)
  first-low et eb eu ed = rw (begun_is eb, supplied_is et eu ed) (first_small h (sound w) generated)

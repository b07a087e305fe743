-- Sharing over a block, and over the four blocks one after the other. Assumes nothing.
use mathlib.Core.Path.{◌≡◌, sym, ap, ap₂, ◌∙◌, subst}
use mathlib.Core.Bool.{cond}
use mathlib.Core.Logic.{by_cases}
use mathlib.Core.List.{List, [], ◌++◌, append-nil}
use Prim.Native.Nat.{ℕ, ◌+◌, ◌-◌, ◌*◌, ◌≤◌, ◌<◌}
use native.Mathlib.Nat.{le_of_eq, sub-zero, add-sub_cancel}
use native.Mathlib.Omega.{arith}
use native.Mathlib.Decide.{dec_lt}
use lib.Dec.{eqb}
use lib.ListN.{length, get_or, take, drop, length-take, length-drop, drop_of_length-le, length-append, get_or-append}
use lib.Seq.{take_all, take_at, get_or-take, get_or-drop, get_or-append-add, ext_get_or}
use Rattle.lists.specs.Lists.{sum}
use Rattle.lists.specs.Columns.{◌⊖◌, Below}
use Rattle.lists.proofs.Parts.{part_at, part-back, take-le, past_take}
use Rattle.lists.proofs.Rows.{at-replicate}
use Rattle.lists.proofs.Columns.{◌!◌, at-⊖, length-rowwise, rowwise-nothing}
use Rattle.sharing.specs.Sharing.{share, up_to_weights}
use Rattle.sharing.proofs.Sharing.{share-lawful, up_to_share}
use Rattle.blocks.specs.Blocks.{standing_at, Raised, in_column, in_columns, Room}
use Rattle.blocks.proofs.Slices.{Rising, block, end_below, row_in}
use Rattle.blocks.proofs.Handed.{no_rise, raise_nothing}

module _ (n : ℕ) (want : List ℕ) (short : n ≤ length want) where
  pub parts-length : (t : ℕ) → length (share t (take n want)) ≡ n
  parts-length t = share-lawful.sized t (take n want) ∙ (let a = length-take n want in omega arith)

  pub zero_parts : (t : ℕ) → t ≡ 0 → (i : ℕ) → share t (take n want) ! i ≡ 0
  zero_parts t e i = ap (λ (t : ℕ). share t (take n want) ! i) e ∙ ap (λ l. l ! i) (share-lawful.nothing (take n want)) ∙ at-replicate (length (take n want)) i 0

  -- what is lent on after sharing
  pub front_parts : (t : ℕ) (ys : List ℕ) {p : List ℕ} → t ≤ sum (take n want) → p ≡ up_to_weights share t (take n want) ++ ys → take n p ≡ share t (take n want)
  front_parts t ys h e = ap (take n) (e ∙ ap (λ l. l ++ ys) (up_to_share t (take n want) h)) ∙ take_at (share t (take n want)) ys n (parts-length t)

  -- no part above its want
  pub parts_below : (t : ℕ) → t ≤ sum (take n want) → Below (share t (take n want)) want
  parts_below t h i = let a = share-lawful.bounded t (take n want) h i in let b = take-le n want i in omega arith

-- ---- a list whose part from row a on was lent as x, and has come back
module _ (l x : List ℕ) (a : ℕ) (inside : a ≤ length l) where
  none-behind : drop (length l - a) (drop a l) ≡ []
  none-behind = drop_of_length-le (drop a l) (le_of_eq (length-drop a l))

  pub tail_before : (k : ℕ) → k < a → (take a l ++ (x ++ drop (length l - a) (drop a l))) ! k ≡ l ! k
  tail_before k h =
      get_or-append (take a l) (x ++ drop (length l - a) (drop a l)) 0 k (let e = length-take a l in omega arith) ∙ get_or-take a l k 0 h

  pub tail_after : (k : ℕ) → (take a l ++ (x ++ drop (length l - a) (drop a l))) ! (a + k) ≡ x ! k
  tail_after k =
      rw (none-behind, append-nil)
      (ap (λ (m : ℕ). (take a l ++ x) ! (m + k)) long ∙ get_or-append-add (take a l) x k 0)
    where
      long : a ≡ length (take a l)
      long = let e = length-take a l in omega arith

-- the part that is lent
pub lent_at : (l : List ℕ) (a k : ℕ) → take (length l - a) (drop a l) ! k ≡ l ! (a + k)
lent_at l a k = ap (λ m. m ! k) (take_all (length l - a) (drop a l) (le_of_eq (length-drop a l))) ∙ get_or-drop a l k 0

pub tail_length : (l x : List ℕ) (a : ℕ) → a ≤ length l → length x ≡ length (take (length l - a) (drop a l))
    → length (take a l ++ (x ++ drop (length l - a) (drop a l))) ≡ length l
tail_length l x a h e =
    simp (length-append, length-take, length-drop) (let b = length-take (length l - a) (drop a l) in let c = length-drop a l in omega arith)

-- ---- the four blocks one after the other: the rows up to the next block's start have their parts p
pub record Blocked (starts columns p want₀ figures₀ want figures : List ℕ) (s : ℕ) : Type 0 where
  pub turns : s ≤ 4
  pub falls : want ≡ want₀ ⊖ take (get_or starts s 0) p
  pub rises : Raised (in_columns columns (standing_at starts) (take (get_or starts s 0) p)) figures₀ figures

slice_at : (a e : ℕ) (p : List ℕ) (i : ℕ) → a ≤ e → a ≤ i → take (e - a) (drop a p) ! (i - a) ≡ take e p ! i
slice_at a e p i h low = by_cases (dec_lt i e) below (λ h. above (omega arith))
  where
    below : i < e → take (e - a) (drop a p) ! (i - a) ≡ take e p ! i
    below u = part-back a e p i 0 low u ∙ sym (get_or-take e p i 0 u)

    above : e ≤ i → take (e - a) (drop a p) ! (i - a) ≡ take e p ! i
    above u = past_take 0 (e - a) (drop a p) (i - a) (omega arith) ∙ sym (past_take 0 e p i u)

module _ {starts columns p want₀ figures₀ : List ℕ} (up : Rising starts (length want₀)) (sized : length p ≡ length want₀) (room : 4 * length want₀ ≤ length figures₀) where
  pub blocked : Blocked starts columns p want₀ figures₀ want₀ figures₀ 0
  blocked =
      record {
        turns = omega arith;
        falls = sym (rowwise-nothing ◌-◌ sub-zero want₀ (take (get_or starts 0 0) p) (let a = length-take (get_or starts 0 0) p in let b = up.first in omega arith) none);
        rises = raise_nothing (λ i j. no_rise (get_or columns (standing_at starts ! i - 1) 0) (take (get_or starts 0 0) p) i j (none i));
      }
    where
      none : (i : ℕ) → take (get_or starts 0 0) p ! i ≡ 0
      none i = past_take 0 (get_or starts 0 0) p i (let a = up.first in omega arith)

  module _ {want figures : List ℕ} {s : ℕ} (k : Blocked starts columns p want₀ figures₀ want figures s) where
    pub same_want : length want ≡ length want₀
    same_want =
        ap length k.falls ∙ (let a = length-rowwise ◌-◌ 0 0 want₀ (take (get_or starts s 0) p) in let b = length-take (get_or starts s 0) p in omega arith)

    -- the rows of the blocks to come are as they were
    want_kept : (i : ℕ) → get_or starts s 0 ≤ i → want ! i ≡ want₀ ! i
    want_kept i h =
        ap (λ l. l ! i) k.falls
        ∙ (let a = at-⊖ want₀ (take (get_or starts s 0) p) i in let b = past_take 0 (get_or starts s 0) p i h in omega arith)

    figures-kept : (i j : ℕ) → j < 4 → get_or starts s 0 ≤ i → figures ! (4 * i + j) ≡ figures₀ ! (4 * i + j)
    figures-kept i j h low =
        let a = k.rises.by i j h in
        let b = no_rise (get_or columns (standing_at starts ! i - 1) 0) (take (get_or starts s 0) p) i j (past_take 0 (get_or starts s 0) p i low) in
        omega arith

    module _ (h : s < 4) where
      a : ℕ
      a = get_or starts s 0

      e : ℕ
      e = get_or starts (s + 1) 0

      inside : e ≤ length want₀
      unfolding e
      inside = end_below starts (length want₀) up s h

      a≤e : a ≤ e
      unfolding a e
      a≤e = up.next s h

      module _ (x : List ℕ) (is : x ≡ take (length want - a) (drop a want) ⊖ block starts p s) where
        new_want : List ℕ
        new_want = take a want ++ (x ++ drop (length want - a) (drop a want))

        length_x : length x ≡ length (take (length want - a) (drop a want))
        unfolding a e
        length_x =
            ap length is
            ∙ (let b = length-rowwise ◌-◌ 0 0 (take (length want - a) (drop a want)) (block starts p s) in
            let c = length-take (length want - a) (drop a want) in let d = length-drop a want in
            let f = length-take (e - a) (drop a p) in let g = length-drop a p in let m = inside in let n = a≤e in let o = same_want in omega arith)

        falls_at : (i : ℕ) → new_want ! i ≡ want₀ ! i - take e p ! i
        unfolding a e new_want
        falls_at i = by_cases (dec_lt i a) low (λ h. high (omega arith))
          where
            low : i < a → new_want ! i ≡ want₀ ! i - take e p ! i
            low u =
                tail_before want x a (let m = inside in let n = a≤e in let o = same_want in omega arith) i u ∙ ap (λ l. l ! i) k.falls
                ∙ (let b = at-⊖ want₀ (take a p) i in let c = get_or-take a p i 0 u in let d = get_or-take e p i 0 (let n = a≤e in omega arith) in omega arith)

            high : a ≤ i → new_want ! i ≡ want₀ ! i - take e p ! i
            high u =
                ap (λ (m : ℕ). new_want ! m) back
                ∙ tail_after want x a (let m = inside in let n = a≤e in let o = same_want in omega arith) (i - a)
                ∙ ap (λ l. l ! (i - a)) is
                ∙ (let b = at-⊖ (take (length want - a) (drop a want)) (block starts p s) (i - a) in
                let c = lent_at want a (i - a) in let d : want ! (a + (i - a)) ≡ want ! i = ap (λ (m : ℕ). want ! m) (sym back) in
                let f = want_kept i u in let g = slice_at a e p i a≤e u in omega arith)
              where
                back : i ≡ a + (i - a)
                back = omega arith

        new_falls : new_want ≡ want₀ ⊖ take e p
        unfolding new_want
        new_falls =
            ext_get_or 0 new_want (want₀ ⊖ take e p)
            (let m = inside in let n = a≤e in let o = same_want in
            tail_length want x a (omega arith) length_x ∙ (let b = length-rowwise ◌-◌ 0 0 want₀ (take e p) in let c = length-take e p in omega arith))
            (λ i _. falls_at i ∙ sym (at-⊖ want₀ (take e p) i))

      module _ (y : List ℕ)
          (r : Raised (in_column (columns ! s) (block starts p s)) (take (length figures - 4 * a) (drop (4 * a) figures)) y) where
        new_figures : List ℕ
        new_figures = take (4 * a) figures ++ (y ++ drop (length figures - 4 * a) (drop (4 * a) figures))

        far : 4 * a ≤ length figures
        far = let m = inside in let n = a≤e in let o = k.rises.same in omega arith

        -- the part of a row of this block goes to the block's column; behind it there is none yet
        rise_here : (i j : ℕ) → a ≤ i → in_column (columns ! s) (block starts p s) (i - a) j ≡ in_columns columns (standing_at starts) (take e p) i j
        unfolding a e
        rise_here i j u = by_cases (dec_lt i e) below (λ h. above (omega arith))
          where
            below : i < e → in_column (columns ! s) (block starts p s) (i - a) j ≡ in_columns columns (standing_at starts) (take e p) i j
            below v =
                ap₂ (λ (c x : ℕ). cond (eqb j c) x 0)
                (ap (λ (t : ℕ). columns ! t) (sym (ap (λ (t : ℕ). t - 1) (row_in starts (length want₀) up s i h u v) ∙ add-sub_cancel s 1)))
                (slice_at a e p i a≤e u)

            above : e ≤ i → in_column (columns ! s) (block starts p s) (i - a) j ≡ in_columns columns (standing_at starts) (take e p) i j
            above v =
                no_rise (columns ! s) (block starts p s) (i - a) j (slice_at a e p i a≤e u ∙ past_take 0 e p i v)
                ∙ sym (no_rise (columns ! (standing_at starts ! i - 1)) (take e p) i j (past_take 0 e p i v))

        rises_at : (i j : ℕ) → j < 4 → new_figures ! (4 * i + j) ≡ figures₀ ! (4 * i + j) + in_columns columns (standing_at starts) (take e p) i j
        unfolding a e new_figures
        rises_at i j l = by_cases (dec_lt i a) low (λ h. high (omega arith))
          where
            low : i < a → new_figures ! (4 * i + j) ≡ figures₀ ! (4 * i + j) + in_columns columns (standing_at starts) (take e p) i j
            low u =
                tail_before figures y (4 * a) far (4 * i + j) (omega arith) ∙ k.rises.by i j l
                ∙ ap (λ (x : ℕ). figures₀ ! (4 * i + j) + cond (eqb j (columns ! (standing_at starts ! i - 1))) x 0)
                (get_or-take a p i 0 u ∙ sym (get_or-take e p i 0 (let n = a≤e in omega arith)))

            high : a ≤ i → new_figures ! (4 * i + j) ≡ figures₀ ! (4 * i + j) + in_columns columns (standing_at starts) (take e p) i j
            high u =
                ap (λ (m : ℕ). new_figures ! m) back
                ∙ tail_after figures y (4 * a) far (4 * (i - a) + j)
                ∙ (let b = r.by (i - a) j l in
                let c = lent_at figures (4 * a) (4 * (i - a) + j) in
                let d : figures ! (4 * a + (4 * (i - a) + j)) ≡ figures ! (4 * i + j) = ap (λ (m : ℕ). figures ! m) (sym back) in
                let f = figures-kept i j l u in let g = rise_here i j u in omega arith)
              where
                back : 4 * i + j ≡ 4 * a + (4 * (i - a) + j)
                back = omega arith

        new_rises : Raised (in_columns columns (standing_at starts) (take e p)) figures₀ new_figures
        unfolding new_figures
        new_rises =
            record {
              same = tail_length figures y (4 * a) far r.same ∙ k.rises.same;
              by = rises_at;
            }

  module _ {want figures : List ℕ} {s : ℕ} where
    pub blocked_more : Blocked starts columns p want₀ figures₀ want figures s → s < 4 → (x y : List ℕ)
        → x ≡ take (length want - get_or starts s 0) (drop (get_or starts s 0) want) ⊖ block starts p s
        → Raised (in_column (columns ! s) (block starts p s)) (take (length figures - 4 * get_or starts s 0) (drop (4 * get_or starts s 0) figures)) y
        → Blocked starts columns p want₀ figures₀ (take (get_or starts s 0) want ++ (x ++ drop (length want - get_or starts s 0) (drop (get_or starts s 0) want)))
        (take (4 * get_or starts s 0) figures ++ (y ++ drop (length figures - 4 * get_or starts s 0) (drop (4 * get_or starts s 0) figures))) (s + 1)
    unfolding a e new_want new_figures
    blocked_more k h x y is r = record { turns = omega arith; falls = new_falls k h x is; rises = new_rises k h y r }

    -- what is lent to the next block
    pub lent_block : Blocked starts columns p want₀ figures₀ want figures s → s < 4
        → take (get_or starts (s + 1) 0 - get_or starts s 0) (take (length want - get_or starts s 0) (drop (get_or starts s 0) want)) ≡ block starts want₀ s
    lent_block k h =
        let a : ℕ = get_or starts s 0 in
        let m : ℕ = get_or starts (s + 1) 0 - a in
        let w : List ℕ = take (length want - a) (drop a want) in
        let l : length (take m w) ≡ length (block starts want₀ s) =
        let b = same_want k in let c = length-take m w in let d = length-take (length want - a) (drop a want) in let e = length-drop a want in
        let f = length-take m (drop a want₀) in let g = length-drop a want₀ in omega arith in
        ext_get_or 0 (take m w) (block starts want₀ s) l
        (λ i u.
        let v : i < m = let c = length-take m w in omega arith in
        get_or-take m w i 0 v ∙ lent_at want a i ∙ want_kept k (a + i) (omega arith) ∙ sym (part_at m a want₀ i 0 v))

    pub lent-room : Blocked starts columns p want₀ figures₀ want figures s → Room want₀ figures₀
        → Room (take (length want - get_or starts s 0) (drop (get_or starts s 0) want)) (take (length figures - 4 * get_or starts s 0) (drop (4 * get_or starts s 0) figures))
    lent-room k room = record {
      at = λ i j h.
          let a : ℕ = get_or starts s 0 in
          let b = lent_at want a i in let c = lent_at figures (4 * a) (4 * i + j) in
          let e : 4 * a + (4 * i + j) ≡ 4 * (a + i) + j = omega arith in
          let d = ap (λ (m : ℕ). figures ! m) e in
          let f = want_kept k (a + i) (omega arith) in let g = figures-kept k (a + i) j h (omega arith) in
          let r = room.at (a + i) j h in omega arith;
    }

    all : Blocked starts columns p want₀ figures₀ want figures s → 4 ≤ s → take (get_or starts s 0) p ≡ p
    all k h = take_all (get_or starts s 0) p (let c = up.last in let d = ap (λ (t : ℕ). get_or starts t 0) at_end in omega arith)
      where
        at_end : s ≡ 4
        at_end = let t = k.turns in omega arith

    pub blocked_done : Blocked starts columns p want₀ figures₀ want figures s → 4 ≤ s → want ≡ want₀ ⊖ p
    blocked_done k h = k.falls ∙ ap (λ l. want₀ ⊖ l) (all k h)

    pub blocked_raised : Blocked starts columns p want₀ figures₀ want figures s → 4 ≤ s → Raised (in_columns columns (standing_at starts) p) figures₀ figures
    blocked_raised k h = subst (λ l. Raised (in_columns columns (standing_at starts) l) figures₀ figures) (all k h) k.rises

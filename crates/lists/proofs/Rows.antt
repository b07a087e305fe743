-- Lists that run row by row, w figures a row: their columns and rows, for any number of columns. Assumes nothing.
use mathlib.Core.Path.{◌≡◌, refl, sym, ap, ◌∙◌, subst}
use Prim.Native.Nat.{ℕ, zero, suc, ◌+◌, ◌-◌, ◌*◌, ◌/◌, ◌%◌, ◌≤◌, ◌<◌}
use native.Mathlib.Omega.{arith}
use native.Mathlib.Decide.{dec_lt}
use mathlib.Core.Logic.{by_cases}
use native.Mathlib.Numerals.{add-one}
use native.Mathlib.Nat.{add-zero, zero-add, suc-add, mul-add, mul-one, suc-mul, zero-mul, mul-zero, add-sub_cancel, mod-lt, div-add-mod'}
use mathlib.Core.List.{List, [], ◌∷◌, ◌++◌, flatten}
use lib.ListN.{length, get_or, take, drop, replicate, length-append, drop_of_length-le, get_or-append, get_or-eq_default}
use lib.Seq.{drop-cons, drop-drop, get_or-append-add, ext_get_or}
use Rattle.lists.specs.Lists.{sum, table, Within}
use Rattle.lists.specs.Columns.{rowwise, four, transpose, by_row, column}
use Rattle.lists.proofs.Sums.{length-table, get_or-table}
use Rattle.lists.proofs.Parts.{part_at, past_take}
use Rattle.lists.proofs.Columns.{◌!◌, length-rowwise, get_or-transpose, below-four, four-at, sum_ext}
use Rattle.lists.proofs.Bounds.{sum_bound}

-- ---- a column
-- m of the figures to be passed over, dropped
pub column_skip : {A : Type 0} (w m j : ℕ) (l : List A) → column w (m + j) l ≡ column w j (drop m l)
unfolding column
column_skip w zero j l = ap (λ (n : ℕ). column w n l) (zero-add j)
column_skip w (suc m) j [] = nil w (suc m + j)
  where
    nil : {A : Type 0} (w j : ℕ) → ◌≡◌ {A = List A} (column w j []) []
    nil w j = refl
column_skip w (suc m) j (x ∷ l) = ap (λ (n : ℕ). column w n (x ∷ l)) (suc-add m j) ∙ column_skip w m j l

pub column-at : {A : Type 0} (w j : ℕ) → 0 < w → (xs : List A) (i : ℕ) (d : A) → get_or (column w j xs) i d ≡ get_or xs (j + i * w) d
unfolding column
column-at w j p [] i d = refl
column-at w zero p (x ∷ xs) zero d = rw zero-mul refl
column-at w zero p (x ∷ xs) (suc i) d = column-at w (w - 1) p xs i d ∙ sym (ap (λ (j : ℕ). get_or (x ∷ xs) j d) index)
  where
    index : zero + suc i * w ≡ suc (w - 1 + i * w)
    index = omega (arith, suc-mul i w)
column-at w (suc j) p (x ∷ xs) i d = column-at w j p xs i d ∙ sym (ap (λ (j : ℕ). get_or (x ∷ xs) j d) (suc-add j (i * w)))

-- the same, at the place that the code reads
pub column-place : {A : Type 0} (w j : ℕ) → 0 < w → (xs : List A) (i : ℕ) (d : A) {k : ℕ} → k ≡ w * i + j → get_or (column w j xs) i d ≡ get_or xs k d
column-place w j p xs i d e = column-at w j p xs i d ∙ ap (λ (k : ℕ). get_or xs k d) (omega arith)

-- a column of two lists taken row by row
pub column-rowwise : {A B C : Type 0} (f : A → B → C) (a : A) (b : B) (w j : ℕ) (xs : List A) (ys : List B)
    → column w j (rowwise f a b xs ys) ≡ rowwise f a b (column w j xs) (column w j ys)
unfolding column rowwise
column-rowwise f a b w j [] [] = refl
column-rowwise f a b w zero [] (y ∷ ys) = ap (λ l. f a y ∷ l) (column-rowwise f a b w (w - 1) [] ys)
column-rowwise f a b w (suc j) [] (y ∷ ys) = column-rowwise f a b w j [] ys
column-rowwise f a b w zero (x ∷ xs) [] = ap (λ l. f x b ∷ l) (column-rowwise f a b w (w - 1) xs [])
column-rowwise f a b w (suc j) (x ∷ xs) [] = column-rowwise f a b w j xs []
column-rowwise f a b w zero (x ∷ xs) (y ∷ ys) = ap (λ l. f x y ∷ l) (column-rowwise f a b w (w - 1) xs ys)
column-rowwise f a b w (suc j) (x ∷ xs) (y ∷ ys) = column-rowwise f a b w j xs ys

-- A loop down a column starts at place j, and a turn goes on by w. What is left at place i is `column w 0 (drop i l)`, for a list of any length.
module _ {A : Type 0} where
  -- where the loop begins
  pub stride : (w j : ℕ) (l : List A) → column w j l ≡ column w 0 (drop j l)
  stride w j l = ap (λ (n : ℕ). column w n l) (sym (add-zero j)) ∙ column_skip w j 0 l

  first : (w : ℕ) (x : A) (l : List A) → column w 0 (x ∷ l) ≡ x ∷ column w (w - 1) l
  unfolding column
  first w x l = refl

  -- a turn takes one figure from what is left
  pub stride_more : (w : ℕ) → 0 < w → (l : List A) (i : ℕ) (d : A) → i < length l → column w 0 (drop i l) ≡ get_or l i d ∷ column w 0 (drop (i + w) l)
  stride_more w p l i d h =
      let next : suc i + (w - 1) ≡ i + w = omega arith in
      ap (column w 0) (drop-cons l i d h) ∙ first w (get_or l i d) (drop (suc i) l)
      ∙ ap (λ (q : List A). get_or l i d ∷ q)
      (stride w (w - 1) (drop (suc i) l) ∙ ap (column w 0) (drop-drop (w - 1) (suc i) l ∙ ap (λ (n : ℕ). drop n l) next))

  -- at the end nothing is left
  pub stride_none : (w : ℕ) (l : List A) (i : ℕ) → length l ≤ i → column w 0 (drop i l) ≡ []
  unfolding column
  stride_none w l i h = rw (drop_of_length-le l h)

-- a figure for each row
module _ {A : Type 0} (d : A) (w j : ℕ) (h : j < w) (l : List A) where
  length_from : (k i : ℕ) → length l + j ≡ i + w * k → length (column w 0 (drop i l)) ≡ k
  length_from zero i e = ap length (stride_none w l i (omega (arith, mul-zero w)))
  length_from (suc k) i e =
      ap length (stride_more w (omega arith) l i d (omega (arith, suc-mul k w))) ∙ ap suc (length_from k (i + w) (omega (arith, suc-mul k w)))

  pub length-column : (n : ℕ) → length l ≡ w * n → length (column w j l) ≡ n
  length-column n e = ap length (stride w j l) ∙ length_from n j (omega arith)

-- what holds at each row and column holds at each place
pub by_places : (P : ℕ → Type 0) (w : ℕ) → 0 < w → ((i j : ℕ) → j < w → P (j + i * w)) → (k : ℕ) → P k
by_places P w p h k =
    let place : k % w + k / w * w ≡ k = omega (arith, div-add-mod' k w) in
    subst P place (h (k / w) (k % w) (mod-lt k p))

-- what holds of every figure of every column holds of every figure of the list
pub by-columns : {A : Type 0} (P : A → Type 0) (w : ℕ) → 0 < w → (l : List A) (d : A) → ((j : ℕ) → j < w → (k : ℕ) → P (get_or (column w j l) k d)) → (i : ℕ) → P (get_or l i d)
by-columns P w p l d h = by_places (λ i. P (get_or l i d)) w p (λ i j u. subst P (column-at w j p l i d) (h j u i))

-- a column adds up to no more than the list
column-le : (w j : ℕ) (l : List ℕ) → sum (column w j l) ≤ sum l
unfolding sum column
column-le w j [] = omega arith
column-le w zero (x ∷ l) = omega (arith, column-le w (w - 1) l)
column-le w (suc j) (x ∷ l) = omega (arith, column-le w j l)

pub column-within : (w j : ℕ) (l : List ℕ) (b n : ℕ) → Within l b → length l ≤ n → sum (column w j l) ≤ n * b
column-within w j l b n h few = omega (arith, column-le w j l, sum_bound l b n h few)

-- ---- columns of one length, row by row
-- each column has n figures
abbrev pub Even : {A : Type 0} → ℕ → List (List A) → Type 0
Even n cs = (j : ℕ) → j < length cs → length (get_or cs j []) ≡ n

module _ {A : Type 0} (d : A) where
  -- n rows, of as many figures as there are columns
  pub rows-even : (n : ℕ) (c : List A) (cs : List (List A)) → Even n (c ∷ cs) → length (transpose d (c ∷ cs)) ≡ n
  unfolding transpose
  rows-even n c [] e = length-rowwise ◌∷◌ d [] c [] ∙ (let p = e 0 (omega arith) in omega arith)
  rows-even n c (b ∷ cs) e = length-rowwise ◌∷◌ d [] c (transpose d (b ∷ cs)) ∙ (let p = e 0 (omega arith) in let q = rows-even n b cs (λ j h. e (suc j) (omega arith)) in omega arith)

  beside_length : (c : List A) (rows : List (List A)) (i : ℕ) → i < length c
      → length (get_or (rowwise ◌∷◌ d [] c rows) i []) ≡ suc (length (get_or rows i []))
  unfolding rowwise
  beside_length [] rows i h = absurd (omega arith)
  beside_length (x ∷ c) [] zero h = refl
  beside_length (x ∷ c) [] (suc i) h = beside_length c [] i (omega arith)
  beside_length (x ∷ c) (r ∷ rows) zero h = refl
  beside_length (x ∷ c) (r ∷ rows) (suc i) h = beside_length c rows i (omega arith)

  row-even : (n : ℕ) (cs : List (List A)) → Even n cs → (i : ℕ) → i < n → length (get_or (transpose d cs) i []) ≡ length cs
  unfolding transpose
  row-even n [] e i h = refl
  row-even n (c ∷ cs) e i h = beside_length c (transpose d cs) i (let p = e 0 (omega arith) in omega arith) ∙ ap suc (row-even n cs (λ j h. e (suc j) (omega arith)) i h)

  module _ (w : ℕ) where
    length-flatten : (rows : List (List A)) → Even w rows → length (flatten rows) ≡ w * length rows
    unfolding flatten
    length-flatten [] e = sym (mul-zero w)
    length-flatten (r ∷ rows) e =
        let a = length-append r (flatten rows) in
        let b = length-flatten rows (λ i h. e (suc i) (omega arith)) in
        let c = e 0 (omega arith) in
        omega (arith, mul-add w (length rows) 1, mul-one w, ap (λ (n : ℕ). w * n) (add-one (length rows)))

    flatten-at : (rows : List (List A)) → Even w rows → (i j : ℕ) → j < w → get_or (flatten rows) (j + i * w) d ≡ get_or (get_or rows i []) j d
    unfolding flatten
    flatten-at [] e i j h = refl
    flatten-at (r ∷ rows) e zero j h =
        ap (λ (k : ℕ). get_or (r ++ flatten rows) k d) (omega (arith, zero-mul w))
        ∙ get_or-append r (flatten rows) d j (let p = e 0 (omega arith) in omega arith)
    flatten-at (r ∷ rows) e (suc i) j h =
        ap (λ (k : ℕ). get_or (r ++ flatten rows) k d) (let p = e 0 (omega arith) in omega (arith, suc-mul i w))
        ∙ get_or-append-add r (flatten rows) (j + i * w) d ∙ flatten-at rows (λ i h. e (suc i) (omega arith)) i j h

  module _ (n : ℕ) (c : List A) (cs : List (List A)) (e : Even n (c ∷ cs)) where
    wide : Even (suc (length cs)) (transpose d (c ∷ cs))
    wide i h = row-even n (c ∷ cs) e i (let p = rows-even n c cs e in omega arith)

    pub length-by_row : length (by_row d (c ∷ cs)) ≡ suc (length cs) * n
    length-by_row = length-flatten (suc (length cs)) (transpose d (c ∷ cs)) wide ∙ ap (λ (k : ℕ). suc (length cs) * k) (rows-even n c cs e)

    -- each figure, and so each column, is the one that was put in
    pub at-by_row : (i j : ℕ) → j < suc (length cs) → get_or (by_row d (c ∷ cs)) (j + i * suc (length cs)) d ≡ get_or (get_or (c ∷ cs) j []) i d
    at-by_row i j h = flatten-at (suc (length cs)) (transpose d (c ∷ cs)) wide i j h ∙ get_or-transpose d (c ∷ cs) i j

    pub column-by_row : (j : ℕ) → j < suc (length cs) → column (suc (length cs)) j (by_row d (c ∷ cs)) ≡ get_or (c ∷ cs) j []
    column-by_row j h =
        let w : ℕ = suc (length cs) in
        ext_get_or d (column w j (by_row d (c ∷ cs))) (get_or (c ∷ cs) j [])
        (length-column d w j h (by_row d (c ∷ cs)) n length-by_row ∙ sym (e j h))
        (λ i _. column-at w j (omega arith) (by_row d (c ∷ cs)) i d ∙ at-by_row i j h)

-- a column for each of the four submarkets, n figures each
module _ (f : ℕ → List ℕ) (n : ℕ) (sized : (s : ℕ) → length (f s) ≡ n) where
  even : Even n (four f)
  even = below-four _ (sized 1) (sized 2) (sized 3) (sized 4)

  pub fours_sized : length (by_row 0 (four f)) ≡ 4 * n
  fours_sized = length-by_row 0 n (f 1) (f 2 ∷ f 3 ∷ f 4 ∷ []) even

  pub fours_at : (s : ℕ) → 1 ≤ s → s ≤ 4 → (i : ℕ) → by_row 0 (four f) ! (s - 1 + i * 4) ≡ f s ! i
  fours_at s l k i = at-by_row 0 n (f 1) (f 2 ∷ f 3 ∷ f 4 ∷ []) even i (s - 1) (omega arith) ∙ ap (λ c. c ! i) (four-at f [] s l k)

  pub fours_column : (s : ℕ) → 1 ≤ s → s ≤ 4 → column 4 (s - 1) (by_row 0 (four f)) ≡ f s
  fours_column s l k = column-by_row 0 n (f 1) (f 2 ∷ f 3 ∷ f 4 ∷ []) even (s - 1) (omega arith) ∙ four-at f [] s l k

pub by_fours : (P : ℕ → Type 0) → ((s : ℕ) → 1 ≤ s → s ≤ 4 → (i : ℕ) → P (s - 1 + i * 4)) → (k : ℕ) → P k
by_fours P h =
    by_places P 4 (omega arith) (λ i j l. subst (λ (m : ℕ). P (m + i * 4)) (add-sub_cancel j 1) (h (j + 1) (omega arith) (omega arith) i))

-- ---- a row
-- the w figures of row i add up to those of its columns
pub row-sum : (w : ℕ) → 0 < w → (l : List ℕ) (i : ℕ) → sum (take w (drop (w * i) l)) ≡ sum (table w (λ k. column w k l ! i))
row-sum w p l i =
    sum_ext (take w (drop (w * i) l)) (table w f) (λ k. by_cases (dec_lt k w)
    (λ h. part_at w (w * i) l k 0 h ∙ sym (column-place w k p l i 0 refl) ∙ sym (get_or-table f w k 0 h))
    (λ h. past_take 0 w (drop (w * i) l) k (omega arith) ∙ sym (get_or-eq_default (table w f) 0 (let e = length-table f w in omega arith))))
  where
    f : ℕ → ℕ
    f k = column w k l ! i

pub at-replicate : {A : Type 0} (n i : ℕ) (a : A) → get_or (replicate n a) i a ≡ a
at-replicate zero i a = refl
at-replicate (suc n) zero a = refl
at-replicate (suc n) (suc i) a = at-replicate n i a

-- a column of a list of one value
pub column-same : {A : Type 0} (w j : ℕ) → 0 < w → (n i : ℕ) (a : A) → get_or (column w j (replicate n a)) i a ≡ a
column-same w j p n i a = column-at w j p (replicate n a) i a ∙ at-replicate n (j + i * w) a

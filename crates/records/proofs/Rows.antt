-- Rows read from columns and written to them: the laws of the loops, and the promises of `specs/Laws`. Assumes nothing.
use mathlib.Core.Path.{◌≡◌, refl, ap, sym, ◌∙◌}
use mathlib.Core.List.{List, [], ◌∷◌, ◌++◌}
use mathlib.Core.Logic.{by_cases}
use Prim.Native.Nat.{ℕ, zero, suc, ◌+◌, ◌*◌, ◌<◌, ◌≤◌}
use native.Mathlib.Nat.{add-zero, zero-add}
use native.Mathlib.Decide.{ℕ_discrete}
use native.Mathlib.Omega.{arith}
use lib.ListN.{length, get_or, take, drop, set, length-set, length-take, length-drop, drop_of_length-le}
use lib.Seq.{get_or-set_same, get_or-set_other, ext_get_or, length-take-le, get_or-take}
use Rattle.std.proofs.lemmas.List.{set-get_or, take-append-le, take_all}
use Rattle.lists.specs.Lists.{table, table_from}
use Rattle.lists.proofs.Loops.{drop_more}
use Rattle.lists.proofs.Parts.{part_at}
use Rattle.lists.proofs.Sums.{length-table, get_or-table}
use Rattle.plants.specs.declared.Plant.{Plant}
use Rattle.plants.specs.Plants.{none}
use Rattle.plants.specs.Table.{plants_of}
use Rattle.plants.specs.Laws.{plant}
use Rattle.plants.proofs.Table.{made}
use Rattle.records.specs.Records.{column_of, row_at, rows_of, put_row, put_rows, table_places}
use Rattle.records.specs.Laws.{Columns}

pub length-put_row : (c : List ℕ) (i : ℕ) (p : Plant) → length (put_row c i p) ≡ length c
unfolding put_row
length-put_row c i p = simp length-set

-- a turn of the writing of rows, and its end
pub put_more : (ps : List Plant) (i : ℕ) (c : List ℕ) {d : List ℕ} → i < length ps → d ≡ put_row c i (get_or ps i none)
    → put_rows d (i + 1) (drop (i + 1) ps) ≡ put_rows c i (drop i ps)
unfolding put_rows
put_more ps i c l e = rw (e, drop_more ps i none l)

pub put_all : (ps : List Plant) (i : ℕ) (c : List ℕ) → length ps ≤ i → c ≡ put_rows c i (drop i ps)
unfolding put_rows
put_all ps i c l = rw (drop_of_length-le ps {i = i} l)

-- ---- one row

-- a place that is of no column's row i
pub other : (c : List ℕ) (i : ℕ) (p : Plant) (a : ℕ) → (a ≡ i → ⊥) → (a ≡ 512 + i → ⊥) → (a ≡ 1024 + i → ⊥) → (a ≡ 1536 + i → ⊥) → (a ≡ 2048 + i → ⊥)
    → get_or (put_row c i p) a 0 ≡ get_or c a 0
unfolding put_row
other c i p a h₀ h₁ h₂ h₃ h₄ = simp get_or-set_other

-- another row stays
row_other : (c : List ℕ) (i j : ℕ) (p : Plant) → i < 512 → j < 512 → (j ≡ i → ⊥) → row_at (put_row c i p) j ≡ row_at c j
unfolding row_at
row_other c i j p l m d = λ x. record {
  submarket = other c i p j (λ h. d h) (λ h. omega arith) (λ h. omega arith) (λ h. omega arith) (λ h. omega arith) x;
  number = other c i p (512 + j) (λ h. omega arith) (λ h. d (omega arith)) (λ h. omega arith) (λ h. omega arith) (λ h. omega arith) x;
  guarantee = other c i p (1024 + j) (λ h. omega arith) (λ h. omega arith) (λ h. d (omega arith)) (λ h. omega arith) (λ h. omega arith) x;
  loss = other c i p (1536 + j) (λ h. omega arith) (λ h. omega arith) (λ h. omega arith) (λ h. d (omega arith)) (λ h. omega arith) x;
  availability = other c i p (2048 + j) (λ h. omega arith) (λ h. omega arith) (λ h. omega arith) (λ h. omega arith) (λ h. d (omega arith)) x;
}

-- a figure that a later store does not touch
module _ (c : List ℕ) (i : ℕ) (p : Plant) (long : table_places ≤ length c) (l : i < 512) where
  abbrev c₁ : List ℕ
  c₁ = set c i p.submarket

  abbrev c₂ : List ℕ
  c₂ = set c₁ (512 + i) p.number

  abbrev c₃ : List ℕ
  c₃ = set c₂ (1024 + i) p.guarantee

  abbrev c₄ : List ℕ
  c₄ = set c₃ (1536 + i) p.loss

  submarket_put : get_or (put_row c i p) i 0 ≡ p.submarket
  unfolding put_row
  submarket_put =
      let h1 : i ≡ 512 + i → ⊥ = λ h. omega arith in
      let h2 : i ≡ 1024 + i → ⊥ = λ h. omega arith in
      let h3 : i ≡ 1536 + i → ⊥ = λ h. omega arith in
      let h4 : i ≡ 2048 + i → ⊥ = λ h. omega arith in
      let b : i < length c = omega arith in
      rw (get_or-set_other, get_or-set_other, get_or-set_other, get_or-set_other, get_or-set_same)

  number_put : get_or (put_row c i p) (512 + i) 0 ≡ p.number
  unfolding put_row
  number_put =
      let h2 : 512 + i ≡ 1024 + i → ⊥ = λ h. omega arith in
      let h3 : 512 + i ≡ 1536 + i → ⊥ = λ h. omega arith in
      let h4 : 512 + i ≡ 2048 + i → ⊥ = λ h. omega arith in
      let b : 512 + i < length c₁ = simp length-set (omega arith) in
      rw (get_or-set_other, get_or-set_other, get_or-set_other, get_or-set_same)

  guarantee_put : get_or (put_row c i p) (1024 + i) 0 ≡ p.guarantee
  unfolding put_row
  guarantee_put =
      let h3 : 1024 + i ≡ 1536 + i → ⊥ = λ h. omega arith in
      let h4 : 1024 + i ≡ 2048 + i → ⊥ = λ h. omega arith in
      let b : 1024 + i < length c₂ = simp length-set (omega arith) in
      rw (get_or-set_other, get_or-set_other, get_or-set_same)

  loss_put : get_or (put_row c i p) (1536 + i) 0 ≡ p.loss
  unfolding put_row
  loss_put =
      let h4 : 1536 + i ≡ 2048 + i → ⊥ = λ h. omega arith in
      let b : 1536 + i < length c₃ = simp length-set (omega arith) in
      rw (get_or-set_other, get_or-set_same)

  availability_put : get_or (put_row c i p) (2048 + i) 0 ≡ p.availability
  unfolding put_row
  availability_put = let b : 2048 + i < length c₄ = simp length-set (omega arith) in rw (get_or-set_same)

  -- the record at place i
  row_put : row_at (put_row c i p) i ≡ p
  unfolding row_at
  row_put = λ x. record {
    submarket = submarket_put x;
    number = number_put x;
    guarantee = guarantee_put x;
    loss = loss_put x;
    availability = availability_put x;
  }

-- ---- all rows

-- the records from place i on leave the places before
kept : (ps : List Plant) (c : List ℕ) (i m : ℕ) → m < i → i + length ps ≤ 512 → row_at (put_rows c i ps) m ≡ row_at c m
unfolding put_rows
kept [] c i m l b = refl
kept (p ∷ ps) c i m l b = kept ps (put_row c i p) (i + 1) m (omega arith) (omega arith) ∙ row_other c i m p (omega arith) (omega arith) (λ h. omega arith)

written : (ps : List Plant) (c : List ℕ) (i j : ℕ) → j < length ps → table_places ≤ length c → i + length ps ≤ 512
    → row_at (put_rows c i ps) (i + j) ≡ get_or ps j none
unfolding put_rows
written [] c i j l e b = absurd (omega arith)
written (p ∷ ps) c i zero l e b = rw add-zero (kept ps (put_row c i p) (i + 1) i (omega arith) (omega arith) ∙ row_put c i p e (omega arith))
written (p ∷ ps) c i (suc j) l e b =
    let at : i + suc j ≡ (i + 1) + j = omega arith in
    rw at (written ps (put_row c i p) (i + 1) j (omega arith) (omega (arith, length-put_row c i p)) (omega arith))

module _ (n : ℕ) (c : List ℕ) where
  pub length-rows : length (rows_of n c) ≡ n
  unfolding rows_of
  length-rows = length-table (row_at c) n

  pub row-at : (i : ℕ) → i < n → get_or (rows_of n c) i none ≡ row_at c i
  unfolding rows_of
  row-at i l = get_or-table (row_at c) n i none l

row_back : (c : List ℕ) (i : ℕ) → put_row c i (row_at c i) ≡ c
unfolding put_row row_at
row_back c i = simp set-get_or

rows_back : (c : List ℕ) (i k : ℕ) → put_rows c i (table_from (row_at c) i k) ≡ c
unfolding put_rows
rows_back c i zero = refl
rows_back c i (suc k) = ap (λ (d : List ℕ). put_rows d (i + 1) (table_from (row_at c) (i + 1) k)) (row_back c i) ∙ rows_back c (i + 1) k

read : (c : List ℕ) (ps : List Plant) → table_places ≤ length c → length ps ≡ 512 → rows_of 512 (put_rows c 0 ps) ≡ ps
read c ps e long =
    let d = put_rows c 0 ps in
    ext_get_or none (rows_of 512 d) ps (length-rows 512 d ∙ sym long)
    (λ i l. (let inside : i < 512 = omega (arith, length-rows 512 d) in
    row-at 512 d i inside ∙ ap (row_at d) (sym (zero-add i)) ∙ written ps c 0 i (omega arith) e (omega arith)))

-- ---- the five columns make the rows

module _ (n : ℕ) (c : List ℕ) (e : table_places ≤ length c) (few : n ≤ 512) where
  pub length-column : (k : ℕ) → k < 5 → length (column_of k n c) ≡ n
  unfolding column_of
  length-column k s = simp (length-take, length-drop) (omega arith)

  column-at : (k i : ℕ) → i < n → get_or (column_of k n c) i 0 ≡ get_or c (512 * k + i) 0
  unfolding column_of
  column-at k i l = part_at n (512 * k) c i 0 l

  row_made : (i : ℕ) → i < n
      → plant (get_or (column_of 0 n c) i 0) (get_or (column_of 1 n c) i 0) (get_or (column_of 2 n c) i 0) (get_or (column_of 3 n c) i 0) (get_or (column_of 4 n c) i 0) ≡ row_at c i
  unfolding row_at
  row_made i l = λ x. record {
    submarket = (column-at 0 i l ∙ ap (λ (k : ℕ). get_or c k 0) (zero-add i)) x;
    number = column-at 1 i l x;
    guarantee = column-at 2 i l x;
    loss = column-at 3 i l x;
    availability = column-at 4 i l x;
  }

  pub columns-rows : plants_of (column_of 0 n c) (column_of 1 n c) (column_of 2 n c) (column_of 3 n c) (column_of 4 n c) ≡ rows_of n c
  columns-rows =
      let first = length-column 0 (omega arith) in
      let count = made.count (column_of 0 n c) (column_of 1 n c) (column_of 2 n c) (column_of 3 n c) (column_of 4 n c) in
      ext_get_or none _ _ (count ∙ (first ∙ sym (length-rows n c)))
      (λ i l. (let inside : i < n = omega (arith, count, first) in
      made.row i _ _ _ _ _ none (omega (arith, first)) ∙ (row_made i inside ∙ sym (row-at n c i inside))))

pub columns : Columns
unfolding rows_of
columns = record { back = λ c. rows_back c 0 512; read = read; made = columns-rows }

-- ---- one row of 512

-- the row at place i is put, and the others stay
pub rows_put : (c : List ℕ) (i : ℕ) (p : Plant) → table_places ≤ length c → i < 512 → rows_of 512 (put_row c i p) ≡ set (rows_of 512 c) i p
rows_put c i p long l =
    let d = put_row c i p in
    ext_get_or none (rows_of 512 d) (set (rows_of 512 c) i p) (length-rows 512 d ∙ sym (length-set (rows_of 512 c) i p ∙ length-rows 512 c))
    (λ j h. (let inside : j < 512 = omega (arith, length-rows 512 d, h) in
    row-at 512 d j inside ∙ by_cases (ℕ_discrete j i)
    (λ e. rw e (row_put c i p long l ∙ sym (get_or-set_same (rows_of 512 c) i p none (omega (arith, length-rows 512 c)))))
    (λ n. row_other c i j p l inside n ∙ sym (get_or-set_other (rows_of 512 c) i j p none n ∙ row-at 512 c j inside))))

-- the first rows
pub rows_front : (n : ℕ) (c : List ℕ) → n ≤ 512 → take n (rows_of 512 c) ≡ rows_of n c
rows_front n c b =
    let long : n ≤ length (rows_of 512 c) = omega (arith, length-rows 512 c) in
    ext_get_or none (take n (rows_of 512 c)) (rows_of n c) (length-take-le n (rows_of 512 c) long ∙ sym (length-rows n c))
    (λ i l. (let inside : i < n = omega (arith, length-take-le n (rows_of 512 c) long, l) in
    get_or-take n (rows_of 512 c) i none inside ∙ (row-at 512 c i (omega arith) ∙ sym (row-at n c i inside))))

-- ... at the front of a list that they were copied to
pub front_filled : (n : ℕ) (c : List ℕ) (lent : List Plant) {filled : List Plant} → filled ≡ table n (row_at c) ++ drop n lent → n ≤ 512
    → take n filled ≡ take n (rows_of 512 c)
unfolding rows_of
front_filled n c lent e b =
    ap (take n) e ∙ (take-append-le n (table n (row_at c)) (drop n lent) (omega (arith, length-table (row_at c) n))
    ∙ (take_all n (table n (row_at c)) (omega (arith, length-table (row_at c) n)) ∙ sym (rows_front n c b)))

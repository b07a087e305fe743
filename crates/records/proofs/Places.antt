-- The places of the five columns, and what lies behind them: lists with the same rows and the same rest are the same. Assumes nothing.
use mathlib.Core.Path.{◌≡◌, refl, sym, ap, ◌∙◌}
use mathlib.Core.List.{List, [], ◌∷◌, ◌++◌}
use mathlib.Core.Logic.{by_cases}
use Prim.Native.Nat.{ℕ, ◌+◌, ◌-◌, ◌<◌, ◌≤◌}
use native.Mathlib.Decide.{dec_lt}
use native.Mathlib.Omega.{arith}
use lib.ListN.{length, get_or, take, drop, length-append}
use lib.Seq.{ext_get_or}
use Rattle.std.proofs.lemmas.List.{get_or-take, get_or_append_left, get_or-append-add, get_or-drop, length-drop}
use Rattle.plants.specs.declared.Plant.{Plant}
use Rattle.plants.specs.Plants.{none}
use Rattle.records.specs.Records.{row_at, rows_of, put_row, put_rows, table_places}
use Rattle.records.proofs.Rows.{other, length-put_row, length-rows, row-at, columns}

-- a place behind the columns
behind : (ps : List Plant) (c : List ℕ) (i j : ℕ) → i + length ps ≤ 512 → table_places ≤ j → get_or (put_rows c i ps) j 0 ≡ get_or c j 0
unfolding put_rows
behind [] c i j b h = refl
behind (p ∷ ps) c i j b h =
    behind ps (put_row c i p) (i + 1) j (omega arith) h
    ∙ other c i p j (λ e. omega arith) (λ e. omega arith) (λ e. omega arith) (λ e. omega arith) (λ e. omega arith)

length-put_rows : (ps : List Plant) (c : List ℕ) (i : ℕ) → length (put_rows c i ps) ≡ length c
unfolding put_rows
length-put_rows [] c i = refl
length-put_rows (p ∷ ps) c i = length-put_rows ps (put_row c i p) (i + 1) ∙ length-put_row c i p

-- ---- the same rows

module _ (c d : List ℕ) (rows : rows_of 512 c ≡ rows_of 512 d) where
  row : (i : ℕ) → i < 512 → row_at c i ≡ row_at d i
  row i l = sym (row-at 512 c i l) ∙ (ap (λ (ps : List Plant). get_or ps i none) rows ∙ row-at 512 d i l)

  -- a place of a column, by its row
  placed : (j i : ℕ) (field : Plant → ℕ) → i < 512 → get_or c j 0 ≡ field (row_at c i) → get_or d j 0 ≡ field (row_at d i) → get_or c j 0 ≡ get_or d j 0
  placed j i field l e q = e ∙ (ap field (row i l) ∙ sym q)

  at_place : (k : ℕ) (field : Plant → ℕ) → ((x : List ℕ) (i : ℕ) → get_or x (k + i) 0 ≡ field (row_at x i)) → (j : ℕ) → k ≤ j → j < k + 512 → get_or c j 0 ≡ get_or d j 0
  at_place k field is j low high =
      let at : k + (j - k) ≡ j = omega arith in
      placed j (j - k) field (omega arith) (ap (λ n. get_or c n 0) (sym at) ∙ is c (j - k)) (ap (λ n. get_or d n 0) (sym at) ∙ is d (j - k))

  in_columns : (j : ℕ) → j < table_places → get_or c j 0 ≡ get_or d j 0
  unfolding row_at
  in_columns j l =
      by_cases (dec_lt j 512) (λ h. at_place 0 (λ (p : Plant). p.submarket) (λ x i. ap (λ n. get_or x n 0) (let e : 0 + i ≡ i = omega arith in e)) j (omega arith) (omega arith))
      (λ n₁. by_cases (dec_lt j 1024) (λ h. at_place 512 (λ (p : Plant). p.number) (λ x i. refl) j (omega arith) (omega arith))
      (λ n₂. by_cases (dec_lt j 1536) (λ h. at_place 1024 (λ (p : Plant). p.guarantee) (λ x i. refl) j (omega arith) (omega arith))
      (λ n₃. by_cases (dec_lt j 2048) (λ h. at_place 1536 (λ (p : Plant). p.loss) (λ x i. refl) j (omega arith) (omega arith))
      (λ n₄. at_place 2048 (λ (p : Plant). p.availability) (λ x i. refl) j (omega arith) (omega arith)))))

-- columns that are written anew, with the same rest behind them, are the columns with the rows written that they have
pub rewritten : (c d : List ℕ) → table_places ≤ length c → length d ≡ length c → ((j : ℕ) → table_places ≤ j → get_or d j 0 ≡ get_or c j 0)
    → d ≡ put_rows c 0 (rows_of 512 d)
rewritten c d long same rest =
    let ps = rows_of 512 d in
    let x = put_rows c 0 ps in
    let many : length ps ≡ 512 = length-rows 512 d in
    ext_get_or 0 d x (same ∙ sym (length-put_rows ps c 0))
    (λ j l. by_cases (dec_lt j table_places) (λ h. in_columns d x (sym (columns.read c ps long many)) j h)
    (λ n. rest j (omega arith) ∙ sym (behind ps c 0 j (omega (arith, many)) (omega arith))))

-- ---- columns lent from the front of a longer list

-- equal places are equal rows
module _ (c d : List ℕ) (same : (j : ℕ) → j < table_places → get_or c j 0 ≡ get_or d j 0) where
  row_alike : (i : ℕ) → i < 512 → row_at c i ≡ row_at d i
  unfolding row_at
  row_alike i l = λ x. record {
    submarket = same i (omega arith) x;
    number = same (512 + i) (omega arith) x;
    guarantee = same (1024 + i) (omega arith) x;
    loss = same (1536 + i) (omega arith) x;
    availability = same (2048 + i) (omega arith) x;
  }

  alike : rows_of 512 c ≡ rows_of 512 d
  alike =
      ext_get_or none (rows_of 512 c) (rows_of 512 d) (length-rows 512 c ∙ sym (length-rows 512 d))
      (λ i l. (let inside : i < 512 = omega (arith, length-rows 512 c, l) in row-at 512 c i inside ∙ (row_alike i inside ∙ sym (row-at 512 d i inside))))

pub rows_joined : (d rest : List ℕ) → length d ≡ table_places → rows_of 512 (d ++ rest) ≡ rows_of 512 d
rows_joined d rest many = alike (d ++ rest) d (λ j l. get_or_append_left d rest 0 j (omega (arith, many)))

pub rows_taken : (c : List ℕ) → table_places ≤ length c → rows_of 512 (take table_places c) ≡ rows_of 512 c
rows_taken c long = alike (take table_places c) c (λ j l. get_or-take table_places c j 0 l)

-- the front of the list is lent as d and comes back so
module _ (c d : List ℕ) (long : table_places ≤ length c) (many : length d ≡ table_places) where
  abbrev joined : List ℕ
  joined = d ++ drop table_places c

  length-joined : length joined ≡ length c
  length-joined = let e = length-drop table_places c in omega (arith, length-append d (drop table_places c), many, e, long)

  rest_joined : (j : ℕ) → table_places ≤ j → get_or joined j 0 ≡ get_or c j 0
  rest_joined j h =
      let at : length d + (j - length d) ≡ j = omega (arith, many) in
      let back : table_places + (j - length d) ≡ j = omega (arith, many) in
      ap (λ n. get_or joined n 0) (sym at)
      ∙ (get_or-append-add d (drop table_places c) (j - length d) 0 ∙ (get_or-drop table_places c (j - length d) 0 ∙ ap (λ n. get_or c n 0) back))

  pub written_anew : joined ≡ put_rows c 0 (rows_of 512 joined)
  written_anew = rewritten c joined long length-joined rest_joined

  -- with the same rows, the same list
  pub unwritten : rows_of 512 d ≡ rows_of 512 c → joined ≡ c
  unwritten e = written_anew ∙ (ap (put_rows c 0) (rows_joined d (drop table_places c) many ∙ e) ∙ columns.back c)

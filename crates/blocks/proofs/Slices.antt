-- Rows whose blocks start at given rows: what sharing, sums and submarkets are on the rows of one block. Assumes nothing.
use mathlib.Core.Path.{◌≡◌, refl, sym, ap, ap₂, ◌∙◌}
use mathlib.Core.Logic.{by_cases}
use mathlib.Core.List.{List, [], ◌∷◌, ◌++◌}
use Prim.Native.Nat.{ℕ, zero, suc, ◌+◌, ◌-◌, ◌≤◌, ◌<◌}
use native.Mathlib.Omega.{arith}
use native.Mathlib.Decide.{dec_lt}
use lib.ListN.{length, get_or, take, drop, replicate, length-append, length-take, length-drop, length-replicate, get_or-replicate, get_or-eq_default}
use lib.Seq.{take_all, take-length, take-append_seam, drop-append_seam, drop-append-add}
use Rattle.lists.specs.Lists.{sum}
use Rattle.lists.specs.Columns.{Below, totals}
use Rattle.lists.proofs.Columns.{◌!◌, at-map-sum, below-four}
use Rattle.lists.proofs.Parts.{part-back}
use Rattle.lists.proofs.Sums.{get_or-table, part-le-sum}
use Rattle.sharing.specs.Laws.{Lawful}
use Rattle.sharing.specs.Sharing.{Rule}
use Rattle.blocks.specs.declared.Blocks.{Blocks}
use Rattle.blocks.specs.Portion.{portion}
use Rattle.blocks.specs.Blocks.{block_rows, standing_at}
use Rattle.blocks.proofs.Portion.{portion-sized}
use Rattle.blocks.proofs.Standing.{InBlocks, cut₁, cut₂, cut₃, cut₄, totals-rows, portion-rows}

-- the blocks lie one behind the other and take up n rows
pub record Rising (starts : List ℕ) (n : ℕ) : Type 0 where
  pub first : get_or starts 0 0 ≡ 0
  pub next : (s : ℕ) → s < 4 → get_or starts s 0 ≤ get_or starts (s + 1) 0
  pub last : get_or starts 4 0 ≡ n

pub rising : (blocks : Blocks) (n : ℕ) → n ≡ get_or blocks.starts 4 0 → Rising blocks.starts n
rising blocks n e = record { first = blocks.first; next = blocks.next; last = sym e }

-- the rows of block s, counted from 0
abbrev pub block : List ℕ → List ℕ → ℕ → List ℕ
block starts l s = take (get_or starts (s + 1) 0 - get_or starts s 0) (drop (get_or starts s 0) l)

module _ (starts : List ℕ) (n : ℕ) (up : Rising starts n) where
  b : ℕ
  b = get_or starts 1 0

  c : ℕ
  c = get_or starts 2 0

  d : ℕ
  d = get_or starts 3 0

  -- the starts, one behind the other
  record Starts : Type 0 where
    at0 : get_or starts 0 0 ≡ 0
    b≤c : b ≤ c
    c≤d : c ≤ d
    d≤n : d ≤ n
    at4 : get_or starts 4 0 ≡ n

  know : Starts
  unfolding b c d
  know =
      let p = up.next 1 (omega arith) in let q = up.next 2 (omega arith) in let r = up.next 3 (omega arith) in let l = up.last in
      record { at0 = up.first; b≤c = omega arith; c≤d = omega arith; d≤n = omega arith; at4 = up.last }

  in_blocks : InBlocks (standing_at starts)
  unfolding standing_at
  in_blocks = record { rows₁ = block_rows starts 1; rows₂ = block_rows starts 2; rows₃ = block_rows starts 3; rows₄ = block_rows starts 4; are = refl }

  pub standing-length : length (standing_at starts) ≡ n
  unfolding standing_at b c d
  standing-length = let k = know in simp (length-append, length-replicate) (omega arith)

  -- a part for each row
  pub portion-length : {rule : Rule} → Lawful rule → (amounts ws : List ℕ) → length ws ≡ n → length (portion rule (standing_at starts) amounts ws) ≡ n
  portion-length L amounts ws e = portion-sized L (standing_at starts) amounts ws ∙ (let a = standing-length in omega arith)

  abbrev rows : ℕ → List ℕ
  rows s = replicate (block_rows starts s) s

  pub end_below : (s : ℕ) → s < 4 → get_or starts (s + 1) 0 ≤ n
  unfolding b c d
  end_below =
      let k = know in
      below-four (λ s. get_or starts (s + 1) 0 ≤ n) (omega arith) (omega arith) (omega arith) (omega arith)

  -- four lists one behind the other, as long as the blocks: the blocks are the lists
  module _ (x₁ x₂ x₃ x₄ : List ℕ) (l₁ : length x₁ ≡ block_rows starts 1) (l₂ : length x₂ ≡ block_rows starts 2)
      (l₃ : length x₃ ≡ block_rows starts 3) (l₄ : length x₄ ≡ block_rows starts 4) where
    pieces : (s : ℕ) → s < 4 → block starts (x₁ ++ (x₂ ++ (x₃ ++ x₄))) s ≡ get_or (x₁ ∷ x₂ ∷ x₃ ∷ x₄ ∷ []) s []
    unfolding b c d
    pieces zero h = ap₂ (λ (m k : ℕ). take m (drop k (x₁ ++ (x₂ ++ (x₃ ++ x₄))))) (sym l₁) know.at0 ∙ take-append_seam x₁ (x₂ ++ (x₃ ++ x₄))
    pieces (suc zero) h =
        ap₂ (λ (m k : ℕ). take m (drop k (x₁ ++ (x₂ ++ (x₃ ++ x₄))))) (sym l₂) e
        ∙ ap (take (length x₂)) (drop-append_seam x₁ (x₂ ++ (x₃ ++ x₄))) ∙ take-append_seam x₂ (x₃ ++ x₄)
      where
        e : get_or starts 1 0 ≡ length x₁
        e = let k = know in omega arith
    pieces (suc (suc zero)) h =
        ap₂ (λ (m k : ℕ). take m (drop k (x₁ ++ (x₂ ++ (x₃ ++ x₄))))) (sym l₃) e
        ∙ ap (take (length x₃)) (drop-append-add x₁ (x₂ ++ (x₃ ++ x₄)) (length x₂) ∙ drop-append_seam x₂ (x₃ ++ x₄)) ∙ take-append_seam x₃ x₄
      where
        e : get_or starts 2 0 ≡ length x₁ + length x₂
        e = let k = know in omega arith
    pieces (suc (suc (suc zero))) h =
        ap₂ (λ (m k : ℕ). take m (drop k (x₁ ++ (x₂ ++ (x₃ ++ x₄))))) (sym l₄) e
        ∙ ap (take (length x₄))
        (drop-append-add x₁ (x₂ ++ (x₃ ++ x₄)) (length x₂ + length x₃) ∙ drop-append-add x₂ (x₃ ++ x₄) (length x₃) ∙ drop-append_seam x₃ x₄)
        ∙ take-length x₄
      where
        e : get_or starts 3 0 ≡ length x₁ + (length x₂ + length x₃)
        e = let k = know in omega arith
    pieces (suc (suc (suc (suc m)))) h = absurd (omega arith)

  -- the submarket of a block's row
  pub row_in : (s i : ℕ) → s < 4 → get_or starts s 0 ≤ i → i < get_or starts (s + 1) 0 → standing_at starts ! i ≡ s + 1
  unfolding standing_at
  row_in s i h low high =
      sym (part-back (get_or starts s 0) (get_or starts (s + 1) 0) (standing_at starts) i 0 low high) ∙ ap (λ l. l ! (i - get_or starts s 0)) (are s h)
      ∙ same s h (i - get_or starts s 0) (omega arith)
    where
      are : (s : ℕ) → s < 4 → block starts (standing_at starts) s ≡ get_or (rows 1 ∷ rows 2 ∷ rows 3 ∷ rows 4 ∷ []) s []
      are = pieces (rows 1) (rows 2) (rows 3) (rows 4) (length-replicate _ 1) (length-replicate _ 2) (length-replicate _ 3) (length-replicate _ 4)

      same : (s : ℕ) → s < 4 → (i : ℕ) → i < get_or starts (s + 1) 0 - get_or starts s 0 → get_or (rows 1 ∷ rows 2 ∷ rows 3 ∷ rows 4 ∷ []) s [] ! i ≡ s + 1
      same =
          below-four (λ s. (i : ℕ) → i < get_or starts (s + 1) 0 - get_or starts s 0 → get_or (rows 1 ∷ rows 2 ∷ rows 3 ∷ rows 4 ∷ []) s [] ! i ≡ s + 1)
          (λ i u. get_or-replicate (block_rows starts 1) i 1 0 u) (λ i u. get_or-replicate (block_rows starts 2) i 2 0 u)
          (λ i u. get_or-replicate (block_rows starts 3) i 3 0 u) (λ i u. get_or-replicate (block_rows starts 4) i 4 0 u)

  -- the submarkets are 1 to 4
  pub standing_in : (i : ℕ) → i < n → (1 ≤ standing_at starts ! i) × (standing_at starts ! i ≤ 4)
  unfolding b c d
  standing_in i h =
      let k = know in
      by_cases (dec_lt i b) (λ l. at 0 (omega arith) (omega arith) l) (λ l.
      by_cases (dec_lt i c) (λ m. at 1 (omega arith) (omega arith) m) (λ m.
      by_cases (dec_lt i d) (λ o. at 2 (omega arith) (omega arith) o) (λ o. at 3 (omega arith) (omega arith) (omega arith))))
    where
      at : (s : ℕ) → s < 4 → get_or starts s 0 ≤ i → i < get_or starts (s + 1) 0 → (1 ≤ standing_at starts ! i) × (standing_at starts ! i ≤ 4)
      at s l low high = let e = row_in s i l low high in (omega arith, omega arith)

  pub standing-le : (i : ℕ) → standing_at starts ! i ≤ 4
  standing-le i =
      by_cases (dec_lt i n) (λ h. (standing_in i h).1)
      (λ h. let a : standing_at starts ! i ≡ 0 = get_or-eq_default (standing_at starts) 0 (let b = standing-length in omega arith) in omega arith)

  module _ (ws : List ℕ) (sized : length ws ≡ n) where
    same : length ws ≡ length (standing_at starts)
    same = sized ∙ sym standing-length

    abbrev cuts : List (List ℕ)
    cuts = cut₁ in_blocks ws same ∷ cut₂ in_blocks ws same ∷ cut₃ in_blocks ws same ∷ cut₄ in_blocks ws same ∷ []

    -- the cuts at the blocks are the blocks
    cut : (s : ℕ) → s < 4 → get_or cuts s [] ≡ block starts ws s
    unfolding b c d in_blocks cut₁ cut₂ cut₃ cut₄
    cut zero h = ap (λ (k : ℕ). take (block_rows starts 1) (drop k ws)) (sym know.at0)
    cut (suc zero) h = ap (λ (k : ℕ). take (block_rows starts 2) (drop k ws)) e
      where
        e : block_rows starts 1 ≡ b
        e = let k = know in omega arith
    cut (suc (suc zero)) h = ap (λ (k : ℕ). take (block_rows starts 3) (drop k ws)) e
      where
        e : block_rows starts 1 + block_rows starts 2 ≡ c
        e = let k = know in omega arith
    cut (suc (suc (suc zero))) h =
        ap (λ (k : ℕ). drop k ws) e ∙ sym (take_all (block_rows starts 4) (drop d ws) (let k = know in let a = length-drop d ws in omega arith))
      where
        e : block_rows starts 1 + block_rows starts 2 + block_rows starts 3 ≡ d
        e = let k = know in omega arith
    cut (suc (suc (suc (suc m)))) h = absurd (omega arith)

    block_length : (s : ℕ) → s < 4 → length (block starts ws s) ≡ get_or starts (s + 1) 0 - get_or starts s 0
    block_length s h =
        let a = length-take (get_or starts (s + 1) 0 - get_or starts s 0) (drop (get_or starts s 0) ws) in
        let e = length-drop (get_or starts s 0) ws in
        let k = end_below s h in omega arith

    -- the sum of a submarket is that of its block, and its amount is shared over its block
    pub total_block : (s : ℕ) → s < 4 → totals (standing_at starts) ws ! s ≡ sum (block starts ws s)
    total_block s h = ap (λ l. l ! s) (totals-rows in_blocks ws same) ∙ at-map-sum cuts s ∙ ap sum (cut s h)

    module _ {rule : Rule} (L : Lawful rule) (amounts : List ℕ) (fits : Below amounts (totals (standing_at starts) ws)) where
      pub portion_block : (s : ℕ) → s < 4 → block starts (portion rule (standing_at starts) amounts ws) s ≡ rule (amounts ! s) (block starts ws s)
      portion_block s h =
          ap (λ l. block starts l s) (portion-rows in_blocks ws same L amounts fits)
          ∙ pieces (x 0) (x 1) (x 2) (x 3) (long 0 (omega arith)) (long 1 (omega arith)) (long 2 (omega arith)) (long 3 (omega arith)) s h
          ∙ get_or-table x 4 s [] h ∙ ap (rule (amounts ! s)) (cut s h)
        where
          x : ℕ → List ℕ
          x s = rule (amounts ! s) (get_or cuts s [])

          long : (s : ℕ) → s < 4 → length (x s) ≡ get_or starts (s + 1) 0 - get_or starts s 0
          long s h = L.sized (amounts ! s) (get_or cuts s []) ∙ ap length (cut s h) ∙ block_length s h

-- the sum of a submarket, as its block's rows have it
pub total_sums : (blocks : Blocks) (figures : List ℕ) (s : ℕ) → length figures ≡ get_or blocks.starts 4 0 → s < 4
    → (totals (standing_at blocks.starts) figures ! s ≡ sum (block blocks.starts figures s)) × (sum (block blocks.starts figures s) ≤ sum figures)
total_sums blocks figures s e h =
    let a : ℕ = get_or blocks.starts s 0 in
    (total_block blocks.starts (length figures) (rising blocks _ e) figures refl s h, part-le-sum figures a (get_or blocks.starts (s + 1) 0 - a))

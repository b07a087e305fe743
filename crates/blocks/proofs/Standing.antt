-- Rows stand by submarket: sharing over a submarket's rows alone is sharing over its block. Assumes nothing.
use mathlib.Core.Path.{◌≡◌, refl, sym, ap, ap₂, ◌∙◌}
use mathlib.Core.Bool.{true, false}
use Prim.Native.Nat.{ℕ, zero, suc, ◌+◌, ◌≤◌, ◌<◌, zero-le}
use native.Mathlib.Omega.{arith}
use native.Mathlib.Nat.{suc_inj, le_of_eq, add-zero, zero-add}
use mathlib.Core.List.{List, [], ◌∷◌, ◌++◌, append-nil, append_assoc}
use lib.Dec.{eqb}
use lib.Seq.{drop-drop}
use Rattle.lists.specs.Columns.{rowwise, ◌⊕◌, Below, joined, inside, within, at, totals}
use Rattle.lists.specs.Lists.{sum}
use Rattle.lists.proofs.Columns.{◌!◌, each, rowwise-append, rowwise-nothing}
use Rattle.lists.proofs.Rows.{at-replicate}
use Rattle.lists.proofs.Sums.{sum-append, sum_zeros}
use Rattle.sharing.specs.Laws.{Lawful}
use Rattle.sharing.specs.Sharing.{Rule}
use Rattle.blocks.specs.Portion.{portion, Standing}
use lib.ListN.{length, take, drop, replicate, take-append-drop, length-take, length-drop, length-append, length-replicate, replicate-append-replicate}

abbrev pub none : ℕ → List ℕ
none n = replicate n 0

-- ---- blocks
⊕-none : (xs : List ℕ) (n : ℕ) → length xs ≡ n → xs ⊕ none n ≡ xs
⊕-none xs n e = rowwise-nothing ◌+◌ add-zero xs (none n) (le_of_eq (length-replicate n 0 ∙ sym e)) (λ i. at-replicate n i 0)

none-⊕ : (xs : List ℕ) (n : ℕ) → length xs ≡ n → none n ⊕ xs ≡ xs
unfolding rowwise
none-⊕ [] zero e = refl
none-⊕ (x ∷ xs) (suc n) e = ap₂ (λ a b. a ∷ b) (zero-add x) (none-⊕ xs n (suc_inj e))
none-⊕ [] (suc n) e = absurd (omega arith)
none-⊕ (x ∷ xs) zero e = absurd (omega arith)

-- a submarket's own rows keep their figures, another's have none
own-rows : (s : ℕ) (ws : List ℕ) → eqb s s ≡ true → within s (replicate (length ws) s) ws ≡ ws
unfolding rowwise
own-rows s [] e = refl
own-rows s (w ∷ ws) e = ap₂ (λ a b. a ∷ b) (rw e) (own-rows s ws e)

other_rows : (s t : ℕ) (ws : List ℕ) → eqb t s ≡ false → within s (replicate (length ws) t) ws ≡ none (length ws)
unfolding rowwise
other_rows s t [] e = refl
other_rows s t (w ∷ ws) e = ap₂ (λ a b. a ∷ b) (rw e) (other_rows s t ws e)

module _ (w₁ w₂ w₃ w₄ : List ℕ) where
  -- the table's submarkets, block by block
  abbrev pub blocks : List ℕ
  blocks = replicate (length w₁) 1 ++ (replicate (length w₂) 2 ++ (replicate (length w₃) 3 ++ replicate (length w₄) 4))

  abbrev pub stacked : List ℕ
  stacked = w₁ ++ (w₂ ++ (w₃ ++ w₄))

  within_blocks : (s : ℕ) → within s blocks stacked
      ≡ within s (replicate (length w₁) 1) w₁ ++ (within s (replicate (length w₂) 2) w₂ ++ (within s (replicate (length w₃) 3) w₃ ++ within s (replicate (length w₄) 4) w₄))
  within_blocks s =
      rowwise-append (inside s) 0 0 _ w₁ _ _ (length-replicate (length w₁) 1)
      ∙ ap (λ l. within s (replicate (length w₁) 1) w₁ ++ l)
      (rowwise-append (inside s) 0 0 _ w₂ _ _ (length-replicate (length w₂) 2)
      ∙ ap (λ l. within s (replicate (length w₂) 2) w₂ ++ l) (rowwise-append (inside s) 0 0 _ w₃ _ w₄ (length-replicate (length w₃) 3)))

  block1 : within 1 blocks stacked ≡ w₁ ++ (none (length w₂) ++ (none (length w₃) ++ none (length w₄)))
  block1 = within_blocks 1 ∙ rw (own-rows 1 w₁ refl, other_rows 1 2 w₂ refl, other_rows 1 3 w₃ refl, other_rows 1 4 w₄ refl)

  block2 : within 2 blocks stacked ≡ none (length w₁) ++ (w₂ ++ (none (length w₃) ++ none (length w₄)))
  block2 = within_blocks 2 ∙ rw (other_rows 2 1 w₁ refl, own-rows 2 w₂ refl, other_rows 2 3 w₃ refl, other_rows 2 4 w₄ refl)

  block3 : within 3 blocks stacked ≡ none (length w₁) ++ (none (length w₂) ++ (w₃ ++ none (length w₄)))
  block3 = within_blocks 3 ∙ rw (other_rows 3 1 w₁ refl, other_rows 3 2 w₂ refl, own-rows 3 w₃ refl, other_rows 3 4 w₄ refl)

  block4 : within 4 blocks stacked ≡ none (length w₁) ++ (none (length w₂) ++ (none (length w₃) ++ w₄))
  block4 = within_blocks 4 ∙ rw (other_rows 4 1 w₁ refl, other_rows 4 2 w₂ refl, other_rows 4 3 w₃ refl, own-rows 4 w₄ refl)

-- the sums of four blocks
blocks_sum : (a b c d : List ℕ) → sum (a ++ (b ++ (c ++ d))) ≡ sum a + sum b + sum c + sum d
blocks_sum a b c d = let h = sum-append a (b ++ (c ++ d)) in let k = sum-append b (c ++ d) in let l = sum-append c d in omega arith

pub totals_blocks : (w₁ w₂ w₃ w₄ : List ℕ) → totals (blocks w₁ w₂ w₃ w₄) (stacked w₁ w₂ w₃ w₄) ≡ sum w₁ ∷ sum w₂ ∷ sum w₃ ∷ sum w₄ ∷ []
unfolding totals
totals_blocks w₁ w₂ w₃ w₄ =
    let e₁ : sum (within 1 (blocks w₁ w₂ w₃ w₄) (stacked w₁ w₂ w₃ w₄)) ≡ sum w₁ =
    ap sum (block1 w₁ w₂ w₃ w₄) ∙ blocks_sum w₁ z₂ z₃ z₄ ∙ (let b = sum_zeros (length w₂) in let c = sum_zeros (length w₃) in let d = sum_zeros (length w₄) in omega arith) in
    let e₂ : sum (within 2 (blocks w₁ w₂ w₃ w₄) (stacked w₁ w₂ w₃ w₄)) ≡ sum w₂ =
    ap sum (block2 w₁ w₂ w₃ w₄) ∙ blocks_sum z₁ w₂ z₃ z₄ ∙ (let a = sum_zeros (length w₁) in let c = sum_zeros (length w₃) in let d = sum_zeros (length w₄) in omega arith) in
    let e₃ : sum (within 3 (blocks w₁ w₂ w₃ w₄) (stacked w₁ w₂ w₃ w₄)) ≡ sum w₃ =
    ap sum (block3 w₁ w₂ w₃ w₄) ∙ blocks_sum z₁ z₂ w₃ z₄ ∙ (let a = sum_zeros (length w₁) in let b = sum_zeros (length w₂) in let d = sum_zeros (length w₄) in omega arith) in
    let e₄ : sum (within 4 (blocks w₁ w₂ w₃ w₄) (stacked w₁ w₂ w₃ w₄)) ≡ sum w₄ =
    ap sum (block4 w₁ w₂ w₃ w₄) ∙ blocks_sum z₁ z₂ z₃ w₄ ∙ (let a = sum_zeros (length w₁) in let b = sum_zeros (length w₂) in let c = sum_zeros (length w₃) in omega arith) in
    λ i. e₁ i ∷ e₂ i ∷ e₃ i ∷ e₄ i ∷ []
  where
    z₁ : List ℕ
    z₁ = none (length w₁)

    z₂ : List ℕ
    z₂ = none (length w₂)

    z₃ : List ℕ
    z₃ = none (length w₃)

    z₄ : List ℕ
    z₄ = none (length w₄)

-- ---- four blocks added up, of n₁ to n₄ rows
plus : {n₁ n₂ n₃ : ℕ} (a b c d a' b' c' d' : List ℕ) → length a ≡ n₁ → length b ≡ n₂ → length c ≡ n₃ → length a' ≡ n₁ → length b' ≡ n₂ → length c' ≡ n₃
    → (a ++ (b ++ (c ++ d))) ⊕ (a' ++ (b' ++ (c' ++ d'))) ≡ (a ⊕ a') ++ ((b ⊕ b') ++ ((c ⊕ c') ++ (d ⊕ d')))
plus a b c d a' b' c' d' p q r p' q' r' =
    rowwise-append ◌+◌ 0 0 a a' _ _ (p ∙ sym p')
    ∙ ap (λ l. (a ⊕ a') ++ l) (rowwise-append ◌+◌ 0 0 b b' _ _ (q ∙ sym q') ∙ ap (λ l. (b ⊕ b') ++ l) (rowwise-append ◌+◌ 0 0 c c' d d' (r ∙ sym r')))

cat : {a a' b b' c c' d d' : List ℕ} → a ≡ a' → b ≡ b' → c ≡ c' → d ≡ d' → a ++ (b ++ (c ++ d)) ≡ a' ++ (b' ++ (c' ++ d'))
cat p q r s = λ i. p i ++ (q i ++ (r i ++ s i))

-- one block each
added : {n₁ n₂ n₃ n₄ : ℕ} (a b c d : List ℕ) → length a ≡ n₁ → length b ≡ n₂ → length c ≡ n₃ → length d ≡ n₄
    → (a ++ (none n₂ ++ (none n₃ ++ none n₄))) ⊕ ((none n₁ ++ (b ++ (none n₃ ++ none n₄))) ⊕ ((none n₁ ++ (none n₂ ++ (c ++ none n₄))) ⊕ (none n₁ ++ (none n₂ ++ (none n₃ ++ d)))))
    ≡ a ++ (b ++ (c ++ d))
added {n₁} {n₂} {n₃} {n₄} a b c d p q r s =
    ap (λ l. (a ++ (none n₂ ++ (none n₃ ++ none n₄))) ⊕ l)
    (ap (λ l. (none n₁ ++ (b ++ (none n₃ ++ none n₄))) ⊕ l)
    (plus (none n₁) (none n₂) c (none n₄) (none n₁) (none n₂) (none n₃) d l₁ l₂ r l₁ l₂ l₃
    ∙ cat (⊕-none (none n₁) n₁ l₁) (⊕-none (none n₂) n₂ l₂) (⊕-none c n₃ r) (none-⊕ d n₄ s))
    ∙ plus (none n₁) b (none n₃) (none n₄) (none n₁) (none n₂) c d l₁ q l₃ l₁ l₂ r
    ∙ cat (⊕-none (none n₁) n₁ l₁) (⊕-none b n₂ q) (none-⊕ c n₃ r) (none-⊕ d n₄ s))
    ∙ plus a (none n₂) (none n₃) (none n₄) (none n₁) b c d p l₂ l₃ l₁ q r
    ∙ cat (⊕-none a n₁ p) (none-⊕ b n₂ q) (none-⊕ c n₃ r) (none-⊕ d n₄ s)
  where
    l₁ : length (none n₁) ≡ n₁
    l₁ = length-replicate n₁ 0

    l₂ : length (none n₂) ≡ n₂
    l₂ = length-replicate n₂ 0

    l₃ : length (none n₃) ≡ n₃
    l₃ = length-replicate n₃ 0

-- Amounts over submarkets, shared over their rows, are amounts shared over the blocks
module _ {rule : Rule} (L : Lawful rule) (amounts w₁ w₂ w₃ w₄ : List ℕ)
    (f₁ : at 1 amounts 0 ≤ sum w₁) (f₂ : at 2 amounts 0 ≤ sum w₂) (f₃ : at 3 amounts 0 ≤ sum w₃) (f₄ : at 4 amounts 0 ≤ sum w₄) where
  n₁ : ℕ
  n₁ = length w₁

  n₂ : ℕ
  n₂ = length w₂

  n₃ : ℕ
  n₃ = length w₃

  n₄ : ℕ
  n₄ = length w₄

  pub portion_blocks : portion rule (blocks w₁ w₂ w₃ w₄) amounts (stacked w₁ w₂ w₃ w₄)
      ≡ rule (at 1 amounts 0) w₁ ++ (rule (at 2 amounts 0) w₂ ++ (rule (at 3 amounts 0) w₃ ++ rule (at 4 amounts 0) w₄))
  unfolding portion joined n₁ n₂ n₃ n₄
  portion_blocks =
      (λ i. q₁ i ⊕ (q₂ i ⊕ (q₃ i ⊕ (rowwise-nothing ◌+◌ add-zero _ [] zero-le (λ _. refl) ∙ q₄) i)))
      ∙ added (rule (at 1 amounts 0) w₁) (rule (at 2 amounts 0) w₂) (rule (at 3 amounts 0) w₃) (rule (at 4 amounts 0) w₄)
      (L.sized _ w₁) (L.sized _ w₂) (L.sized _ w₃) (L.sized _ w₄)
    where
      z : (a b : ℕ) → none a ++ none b ≡ none (a + b)
      z a b = replicate-append-replicate a b 0

      q₁ : rule (at 1 amounts 0) (within 1 (blocks w₁ w₂ w₃ w₄) (stacked w₁ w₂ w₃ w₄)) ≡ rule (at 1 amounts 0) w₁ ++ (none n₂ ++ (none n₃ ++ none n₄))
      q₁ = ap (rule (at 1 amounts 0)) (block1 w₁ w₂ w₃ w₄ ∙ ap (λ l. w₁ ++ l) e) ∙ L.alone (at 1 amounts 0) 0 (n₂ + (n₃ + n₄)) w₁ f₁ ∙ ap (λ l. rule (at 1 amounts 0) w₁ ++ l) (sym e)
        where
          e : none n₂ ++ (none n₃ ++ none n₄) ≡ none (n₂ + (n₃ + n₄))
          e = ap (λ l. none n₂ ++ l) (z n₃ n₄) ∙ z n₂ (n₃ + n₄)

      q₂ : rule (at 2 amounts 0) (within 2 (blocks w₁ w₂ w₃ w₄) (stacked w₁ w₂ w₃ w₄)) ≡ none n₁ ++ (rule (at 2 amounts 0) w₂ ++ (none n₃ ++ none n₄))
      q₂ = ap (rule (at 2 amounts 0)) (block2 w₁ w₂ w₃ w₄ ∙ ap (λ l. none n₁ ++ (w₂ ++ l)) (z n₃ n₄)) ∙ L.alone (at 2 amounts 0) n₁ (n₃ + n₄) w₂ f₂
          ∙ ap (λ l. none n₁ ++ (rule (at 2 amounts 0) w₂ ++ l)) (sym (z n₃ n₄))

      q₃ : rule (at 3 amounts 0) (within 3 (blocks w₁ w₂ w₃ w₄) (stacked w₁ w₂ w₃ w₄)) ≡ none n₁ ++ (none n₂ ++ (rule (at 3 amounts 0) w₃ ++ none n₄))
      q₃ = ap (rule (at 3 amounts 0)) (block3 w₁ w₂ w₃ w₄ ∙ e w₃) ∙ L.alone (at 3 amounts 0) (n₁ + n₂) n₄ w₃ f₃ ∙ sym (e (rule (at 3 amounts 0) w₃))
        where
          e : (v : List ℕ) → none n₁ ++ (none n₂ ++ (v ++ none n₄)) ≡ none (n₁ + n₂) ++ (v ++ none n₄)
          e v = sym (append_assoc (none n₁) (none n₂) (v ++ none n₄)) ∙ ap (λ l. l ++ (v ++ none n₄)) (z n₁ n₂)

      q₄ : rule (at 4 amounts 0) (within 4 (blocks w₁ w₂ w₃ w₄) (stacked w₁ w₂ w₃ w₄)) ≡ none n₁ ++ (none n₂ ++ (none n₃ ++ rule (at 4 amounts 0) w₄))
      q₄ = ap (rule (at 4 amounts 0)) (block4 w₁ w₂ w₃ w₄ ∙ e w₄) ∙ L.alone (at 4 amounts 0) (n₁ + (n₂ + n₃)) 0 w₄ f₄ ∙ sym (e (rule (at 4 amounts 0) w₄))
        where
          e : (v : List ℕ) → none n₁ ++ (none n₂ ++ (none n₃ ++ v)) ≡ none (n₁ + (n₂ + n₃)) ++ (v ++ none 0)
          e v =
              ap (λ l. none n₁ ++ l) (sym (append_assoc (none n₂) (none n₃) v) ∙ ap (λ l. l ++ v) (z n₂ n₃))
              ∙ sym (append_assoc (none n₁) (none (n₂ + n₃)) v) ∙ ap₂ (λ l v. l ++ v) (z n₁ (n₂ + n₃)) (sym (append-nil v))

-- ---- accepted rows stand in blocks
pub record InBlocks (subs : List ℕ) : Type 0 where
  pub rows₁ : ℕ
  pub rows₂ : ℕ
  pub rows₃ : ℕ
  pub rows₄ : ℕ
  pub are : subs ≡ replicate rows₁ 1 ++ (replicate rows₂ 2 ++ (replicate rows₃ 3 ++ replicate rows₄ 4))

-- rows that stand by submarket are in submarkets 1 to 4
pub placed_at : (s : ℕ) (subs : List ℕ) → Standing s subs → (i : ℕ) → i < length subs → (1 ≤ subs ! i) × (subs ! i ≤ 4)
placed_at s [] e i h = absurd (omega arith)
placed_at s (t ∷ subs) e zero h = (e.1, e.2)
placed_at s (t ∷ subs) e (suc i) h = placed_at t subs e.3 i (omega arith)

-- the rows after one of submarket s
record Later (s : ℕ) (subs : List ℕ) : Type 0 where
  in_blocks : InBlocks subs
  none₁ : 2 ≤ s → in_blocks.rows₁ ≡ 0
  none₂ : 3 ≤ s → in_blocks.rows₂ ≡ 0
  none₃ : 4 ≤ s → in_blocks.rows₃ ≡ 0

later_cons : (s t : ℕ) (subs : List ℕ) → s ≤ t → 1 ≤ t → t ≤ 4 → Later t subs → Later s (t ∷ subs)
later_cons s t subs le lo hi l = go t lo hi le l
  where
    go : (t : ℕ) → 1 ≤ t → t ≤ 4 → s ≤ t → Later t subs → Later s (t ∷ subs)
    go =
        each (λ t. s ≤ t → Later t subs → Later s (t ∷ subs))
        (λ le l. let b = l.in_blocks in record {
          in_blocks = record { rows₁ = suc b.rows₁; rows₂ = b.rows₂; rows₃ = b.rows₃; rows₄ = b.rows₄; are = ap (λ x. 1 ∷ x) b.are };
          none₁ = λ h. absurd (omega arith);
          none₂ = λ h. absurd (omega arith);
          none₃ = λ h. absurd (omega arith);
        })
        (λ le l. let b = l.in_blocks in record {
          in_blocks = record {
            rows₁ = 0;
            rows₂ = suc b.rows₂;
            rows₃ = b.rows₃;
            rows₄ = b.rows₄;
            are = ap (λ x. 2 ∷ x) (b.are ∙ ap (λ (n : ℕ). replicate n 1 ++ (replicate b.rows₂ 2 ++ (replicate b.rows₃ 3 ++ replicate b.rows₄ 4))) (l.none₁ (omega arith)));
          };
          none₁ = λ h. refl;
          none₂ = λ h. absurd (omega arith);
          none₃ = λ h. absurd (omega arith);
        })
        (λ le l. let b = l.in_blocks in record {
          in_blocks = record {
            rows₁ = 0;
            rows₂ = 0;
            rows₃ = suc b.rows₃;
            rows₄ = b.rows₄;
            are = ap (λ x. 3 ∷ x) (b.are
                ∙ (λ i. replicate (l.none₁ (omega arith) i) 1 ++ (replicate (l.none₂ (omega arith) i) 2 ++ (replicate b.rows₃ 3 ++ replicate b.rows₄ 4))));
          };
          none₁ = λ h. refl;
          none₂ = λ h. refl;
          none₃ = λ h. absurd (omega arith);
        })
        (λ le l. let b = l.in_blocks in record {
          in_blocks = record {
            rows₁ = 0;
            rows₂ = 0;
            rows₃ = 0;
            rows₄ = suc b.rows₄;
            are = ap (λ x. 4 ∷ x) (b.are
                ∙ (λ i. replicate (l.none₁ (omega arith) i) 1 ++ (replicate (l.none₂ (omega arith) i) 2 ++ (replicate (l.none₃ (omega arith) i) 3 ++ replicate b.rows₄ 4))));
          };
          none₁ = λ h. refl;
          none₂ = λ h. refl;
          none₃ = λ h. refl;
        })

later : (s : ℕ) (subs : List ℕ) → Standing s subs → Later s subs
later s [] e =
    record { in_blocks = record { rows₁ = 0; rows₂ = 0; rows₃ = 0; rows₄ = 0; are = refl }; none₁ = λ h. refl; none₂ = λ h. refl; none₃ = λ h. refl }
later s (t ∷ subs) e = later_cons s t subs e.0 e.1 e.2 (later t subs e.3)

pub standing_blocks : (subs : List ℕ) → Standing 0 subs → InBlocks subs
standing_blocks subs e = (later 0 subs e).in_blocks

-- ---- a list of figures, cut at the blocks
module _ {subs : List ℕ} (B : InBlocks subs) (ws : List ℕ) (same : length ws ≡ length subs) where
  unfoldable pub cut₁ : List ℕ
  cut₁ = take B.rows₁ ws

  unfoldable pub cut₂ : List ℕ
  cut₂ = take B.rows₂ (drop B.rows₁ ws)

  unfoldable pub cut₃ : List ℕ
  cut₃ = take B.rows₃ (drop (B.rows₁ + B.rows₂) ws)

  unfoldable pub cut₄ : List ℕ
  cut₄ = drop (B.rows₁ + B.rows₂ + B.rows₃) ws

  rows_all : length ws ≡ B.rows₁ + B.rows₂ + B.rows₃ + B.rows₄
  rows_all =
      same ∙ ap length B.are
      ∙ simp (length-append, length-replicate) (omega arith)

  length_cut₁ : length cut₁ ≡ B.rows₁
  unfolding cut₁
  length_cut₁ = let e = length-take B.rows₁ ws in let f = rows_all in omega arith

  length_cut₂ : length cut₂ ≡ B.rows₂
  unfolding cut₂
  length_cut₂ = let e = length-take B.rows₂ (drop B.rows₁ ws) in let f = length-drop B.rows₁ ws in let g = rows_all in omega arith

  length_cut₃ : length cut₃ ≡ B.rows₃
  unfolding cut₃
  length_cut₃ = let e = length-take B.rows₃ (drop (B.rows₁ + B.rows₂) ws) in let f = length-drop (B.rows₁ + B.rows₂) ws in let g = rows_all in omega arith

  length_cut₄ : length cut₄ ≡ B.rows₄
  unfolding cut₄
  length_cut₄ = let f = length-drop (B.rows₁ + B.rows₂ + B.rows₃) ws in let g = rows_all in omega arith

  cuts : ws ≡ cut₁ ++ (cut₂ ++ (cut₃ ++ cut₄))
  unfolding cut₁ cut₂ cut₃ cut₄
  cuts =
      sym (take-append-drop B.rows₁ ws)
      ∙ ap (λ l. take B.rows₁ ws ++ l)
      (sym (take-append-drop B.rows₂ (drop B.rows₁ ws))
      ∙ ap (λ l. take B.rows₂ (drop B.rows₁ ws) ++ l)
      (drop-drop B.rows₂ B.rows₁ ws
      ∙ sym (take-append-drop B.rows₃ (drop (B.rows₁ + B.rows₂) ws))
      ∙ ap (λ l. take B.rows₃ (drop (B.rows₁ + B.rows₂) ws) ++ l) (drop-drop B.rows₃ (B.rows₁ + B.rows₂) ws)))

  subs_are : subs ≡ blocks cut₁ cut₂ cut₃ cut₄
  subs_are =
      B.are
      ∙ sym (λ i. replicate (length_cut₁ i) 1 ++ (replicate (length_cut₂ i) 2 ++ (replicate (length_cut₃ i) 3 ++ replicate (length_cut₄ i) 4)))

  -- the sums of the submarkets are those of the blocks, and an amount for each submarket is shared over its block
  pub totals-rows : totals subs ws ≡ sum cut₁ ∷ sum cut₂ ∷ sum cut₃ ∷ sum cut₄ ∷ []
  totals-rows = ap₂ totals subs_are cuts ∙ totals_blocks cut₁ cut₂ cut₃ cut₄

  pub portion-rows : {rule : Rule} (L : Lawful rule) (amounts : List ℕ) → Below amounts (totals subs ws)
      → portion rule subs amounts ws ≡ rule (at 1 amounts 0) cut₁ ++ (rule (at 2 amounts 0) cut₂ ++ (rule (at 3 amounts 0) cut₃ ++ rule (at 4 amounts 0) cut₄))
  portion-rows {rule} L amounts fits =
      ap₂ (λ su w. portion rule su amounts w) subs_are cuts
      ∙ portion_blocks L amounts cut₁ cut₂ cut₃ cut₄
      (rw totals-rows at (fits 0)) (rw totals-rows at (fits 1)) (rw totals-rows at (fits 2)) (rw totals-rows at (fits 3))

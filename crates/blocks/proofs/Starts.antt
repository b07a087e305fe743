-- Where the blocks start: the loop that finds it, and rows that stand by submarket. Assumes nothing.
use mathlib.Core.Path.{◌≡◌, refl, sym, ap, ◌∙◌}
use mathlib.Core.Bool.{Bool, true, false, cond}
use mathlib.Core.List.{List, [], ◌∷◌, ◌++◌, append-nil}
use Prim.Native.Nat.{ℕ, zero, suc, ◌+◌, ◌-◌, ◌≤◌, ◌<◌}
use native.Mathlib.Omega.{arith}
use lib.Dec.{leb}
use lib.ListN.{length, get_or, take, drop, replicate, length-append, length-drop, length-replicate}
use lib.Seq.{take_all}
use native.Mathlib.Nat.{le_of_eq}
use borrow.Author.Tests.{leb-true, le-leb, lt-leb}
use Rattle.lists.proofs.Columns.{below-four}
use Rattle.std.specs.List.{take_while}
use Rattle.std.proofs.lemmas.List.Sums.{take_while-cons}
use Rattle.plants.specs.declared.Plant.{Plant}
use Rattle.plants.specs.Plants.{submarkets_of}
use Rattle.plants.proofs.Submarkets.{submarkets-drop}
use Rattle.blocks.specs.Portion.{Standing}
use Rattle.blocks.specs.Blocks.{leading, block_starts, standing_at}
use Rattle.blocks.proofs.Slices.{Rising}
use Rattle.blocks.proofs.Standing.{InBlocks, standing_blocks}

leading-nil : (s : ℕ) → leading s [] ≡ 0
unfolding leading
leading-nil s = refl

leading-more : (s t : ℕ) (ts : List ℕ) → t ≤ s → leading s (t ∷ ts) ≡ suc (leading s ts)
unfolding leading
leading-more s t ts h = rw (le-leb t s h)

leading_stop : (s t : ℕ) (ts : List ℕ) → s < t → leading s (t ∷ ts) ≡ 0
unfolding leading
leading_stop s t ts h = rw (lt-leb t s h)

-- the rows up to the first past s, as they are counted
pub leading-taken : (s : ℕ) (plants : List Plant) → leading s (submarkets_of plants) ≡ length (take_while (λ (p : Plant). leb p.submarket s) plants)
unfolding leading submarkets_of
leading-taken s [] = refl
leading-taken s (p ∷ plants) =
    rw take_while-cons (go (leb p.submarket s) _ _ (leading-taken s plants))
  where
    go : (b : Bool) (n : ℕ) (taken : List Plant) → n ≡ length taken → cond b (suc n) 0 ≡ length (cond b (p ∷ taken) [])
    go true n taken e = ap suc e
    go false n taken e = refl

-- ---- from one start to the next: the rows up to r, then those up to s
pub leading-next : (r s : ℕ) → r ≤ s → (subs : List ℕ) → leading r subs + leading s (drop (leading r subs) subs) ≡ leading s subs
unfolding leading
leading-next r s le [] = refl
leading-next r s le (t ∷ ts) = go (leb t r) refl (leading-next r s le ts)
  where
    go : (b : Bool) → leb t r ≡ b → leading r ts + leading s (drop (leading r ts) ts) ≡ leading s ts
        → cond b (suc (leading r ts)) 0 + leading s (drop (cond b (suc (leading r ts)) 0) (t ∷ ts)) ≡ leading s (t ∷ ts)
    go true e k = let h = leb-true t r e in let m = leading-more s t ts (omega arith) in omega arith
    go false e k = omega arith

-- .. where those behind row a are counted, a being the rows up to r
pub leading-behind : (plants : List Plant) (r s : ℕ) {a n : ℕ} → r ≤ s → a ≡ leading r (submarkets_of plants)
    → n ≡ length (take_while (λ (p : Plant). leb p.submarket s) (take (length plants - a) (drop a plants)))
    → a + n ≡ leading s (submarkets_of plants)
leading-behind plants r s {a} le p e =
    ap (λ (m : ℕ). a + m) (e ∙ ap (λ (l : List Plant). length (take_while (λ (p : Plant). leb p.submarket s) l)) (take_all (length plants - a) (drop a plants) (le_of_eq (length-drop a plants)))
    ∙ sym (leading-taken s (drop a plants)) ∙ ap (leading s) (submarkets-drop a plants))
    ∙ rw p (leading-next r s le (submarkets_of plants))

-- ---- rows that stand in blocks
lead_in : (s t n : ℕ) (l : List ℕ) → t ≤ s → leading s (replicate n t ++ l) ≡ n + leading s l
lead_in s t zero l h = omega arith
lead_in s t (suc n) l h = let k = lead_in s t n l h in let m = leading-more s t (replicate n t ++ l) h in omega arith

lead_past : (s t n : ℕ) (l : List ℕ) → s < t → leading s l ≡ 0 → leading s (replicate n t ++ l) ≡ 0
lead_past s t zero l h e = e
lead_past s t (suc n) l h e = leading_stop s t (replicate n t ++ l) h

module _ {subs : List ℕ} (B : InBlocks subs) where
  r₁ : ℕ
  r₁ = B.rows₁

  r₂ : ℕ
  r₂ = B.rows₂

  r₃ : ℕ
  r₃ = B.rows₃

  r₄ : ℕ
  r₄ = B.rows₄

  -- with nothing behind the last block
  are : subs ≡ replicate r₁ 1 ++ (replicate r₂ 2 ++ (replicate r₃ 3 ++ (replicate r₄ 4 ++ [])))
  unfolding r₁ r₂ r₃ r₄
  are = B.are ∙ ap (λ l. replicate r₁ 1 ++ (replicate r₂ 2 ++ (replicate r₃ 3 ++ l))) (sym (append-nil (replicate r₄ 4)))

  lead : (s : ℕ) → leading s subs ≡ leading s (replicate r₁ 1 ++ (replicate r₂ 2 ++ (replicate r₃ 3 ++ (replicate r₄ 4 ++ []))))
  lead s = ap (leading s) are

  lead₁ : leading 1 subs ≡ r₁
  lead₁ =
      let a = lead_past 1 4 r₄ [] (omega arith) (leading-nil 1) in let b = lead_past 1 3 r₃ _ (omega arith) a in
      let c = lead_past 1 2 r₂ _ (omega arith) b in let d = lead_in 1 1 r₁ (replicate r₂ 2 ++ (replicate r₃ 3 ++ (replicate r₄ 4 ++ []))) (omega arith) in
      let e = lead 1 in omega arith

  lead₂ : leading 2 subs ≡ r₁ + r₂
  lead₂ =
      let a = lead_past 2 4 r₄ [] (omega arith) (leading-nil 2) in let b = lead_past 2 3 r₃ _ (omega arith) a in
      let c = lead_in 2 2 r₂ (replicate r₃ 3 ++ (replicate r₄ 4 ++ [])) (omega arith) in
      let d = lead_in 2 1 r₁ (replicate r₂ 2 ++ (replicate r₃ 3 ++ (replicate r₄ 4 ++ []))) (omega arith) in
      let e = lead 2 in omega arith

  lead₃ : leading 3 subs ≡ r₁ + r₂ + r₃
  lead₃ =
      let a = lead_past 3 4 r₄ [] (omega arith) (leading-nil 3) in
      let b = lead_in 3 3 r₃ (replicate r₄ 4 ++ []) (omega arith) in
      let c = lead_in 3 2 r₂ (replicate r₃ 3 ++ (replicate r₄ 4 ++ [])) (omega arith) in
      let d = lead_in 3 1 r₁ (replicate r₂ 2 ++ (replicate r₃ 3 ++ (replicate r₄ 4 ++ []))) (omega arith) in
      let e = lead 3 in omega arith

  lead₄ : leading 4 subs ≡ r₁ + r₂ + r₃ + r₄
  lead₄ =
      let z = leading-nil 4 in
      let a = lead_in 4 4 r₄ [] (omega arith) in
      let b = lead_in 4 3 r₃ (replicate r₄ 4 ++ []) (omega arith) in
      let c = lead_in 4 2 r₂ (replicate r₃ 3 ++ (replicate r₄ 4 ++ [])) (omega arith) in
      let d = lead_in 4 1 r₁ (replicate r₂ 2 ++ (replicate r₃ 3 ++ (replicate r₄ 4 ++ []))) (omega arith) in
      let e = lead 4 in omega arith

  stand : standing_at (block_starts subs) ≡ subs
  unfolding standing_at block_starts r₁ r₂ r₃ r₄
  stand =
      (λ i. replicate (e₁ i) 1 ++ (replicate (e₂ i) 2 ++ (replicate (e₃ i) 3 ++ replicate (e₄ i) 4))) ∙ sym B.are
    where
      e₁ : leading 1 subs - 0 ≡ r₁
      e₁ = let a = lead₁ in omega arith

      e₂ : leading 2 subs - leading 1 subs ≡ r₂
      e₂ = let a = lead₁ in let b = lead₂ in omega arith

      e₃ : leading 3 subs - leading 2 subs ≡ r₃
      e₃ = let a = lead₂ in let b = lead₃ in omega arith

      e₄ : leading 4 subs - leading 3 subs ≡ r₄
      e₄ = let a = lead₃ in let b = lead₄ in omega arith

  rise : Rising (block_starts subs) (length subs)
  unfolding block_starts
  rise = record { first = refl; next = up; last = all }
    where
      up : (s : ℕ) → s < 4 → get_or (block_starts subs) s 0 ≤ get_or (block_starts subs) (s + 1) 0
      up =
          let a = lead₁ in let b = lead₂ in let c = lead₃ in let d = lead₄ in
          below-four (λ s. get_or (block_starts subs) s 0 ≤ get_or (block_starts subs) (s + 1) 0) (omega arith) (omega arith) (omega arith) (omega arith)

      all : leading 4 subs ≡ length subs
      all = lead₄ ∙ sym (ap length are ∙ simp (length-append, length-replicate) (omega arith))

-- rows that stand by submarket are those of their blocks
pub standing-at : (subs : List ℕ) → Standing 0 subs → standing_at (block_starts subs) ≡ subs
standing-at subs e = stand (standing_blocks subs e)

pub starts_rising : (subs : List ℕ) → Standing 0 subs → Rising (block_starts subs) (length subs)
starts_rising subs e = rise (standing_blocks subs e)

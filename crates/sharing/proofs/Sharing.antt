-- The rule of running totals keeps its promises. Assumes nothing.
use mathlib.Core.Path.{◌≡◌, refl, sym, ap, ap₂, ◌∙◌}
use mathlib.Core.Logic.{◌⊎◌, inl, inr}
use Prim.Native.Nat.{ℕ, zero, suc, ◌+◌, ◌-◌, ◌*◌, ◌/◌, ◌≤◌, ◌<◌}
use native.Mathlib.Omega.{arith}
use native.Mathlib.Nat.{eq-zero-or-pos, mul-le-mul_left, add-mul-div_right, mul-div_cancel, zero-div, mul-zero, zero-mul, div-zero, le-div_iff_mul-le, div-mul-le_self, le_trans, add-zero, zero-add, add_assoc, sub_self, le_of_suc-le-suc, not-suc-le-zero, le_of_eq, le_refl}
use mathlib.Core.Bool.{Bool, true, false, cond}
use mathlib.Core.List.{List, [], ◌∷◌, ◌++◌, append-nil}
use lib.Dec.{leb}
use lib.ListN.{length, take, replicate}
use lib.Seq.{ext_get_or}
use borrow.Author.Tests.{leb-true}
use Rattle.lists.specs.Lists.{sum}
use Rattle.lists.proofs.Sums.{at-le-sum, sum-append, sum_zeros}
use Rattle.lists.proofs.Columns.{◌!◌, sum_tight}
use Rattle.sharing.specs.Sharing.{Rule, parts, share, up_to_weights}
use Rattle.sharing.specs.Laws.{Lawful, Promised}

-- where the total is no more than the weights, the parts add up to it
pub adds-le : {rule : Rule} → Lawful rule → (t : ℕ) (ws : List ℕ) → t ≤ sum ws → sum (rule t ws) ≡ t
adds-le {rule} L t ws h = L.adds t ws (go (eq-zero-or-pos t))
  where
    go : (t ≡ 0) ⊎ (0 < t) → (t ≡ 0) ⊎ (0 < sum ws)
    go (inl z) = inl z
    go (inr p) = inr (omega arith)

-- ---- division
div_mono : (m n w : ℕ) → m ≤ n → m / w ≤ n / w
div_mono m n w h = go (eq-zero-or-pos w)
  where
    go : (w ≡ 0) ⊎ (0 < w) → m / w ≤ n / w
    go (inl z) = rw z (let a = div-zero m in let b = div-zero n in omega arith)
    go (inr p) = (le-div_iff_mul-le p).1 (le_trans (div-mul-le_self m w) h)

-- ---- running totals
module _ (t w : ℕ) where
  pub up_to_zero : t * 0 / w ≡ 0
  up_to_zero = rw mul-zero (zero-div w)

  pub up_to_mono : (c x : ℕ) → t * c / w ≤ t * (c + x) / w
  up_to_mono c x = div_mono (t * c) (t * (c + x)) w (mul-le-mul_left t (omega arith))

  parts-sized : (c : ℕ) (xs : List ℕ) → length (parts t w c xs) ≡ length xs
  unfolding parts
  parts-sized c [] = refl
  parts-sized c (x ∷ xs) = ap suc (parts-sized (c + x) xs)

  pub parts-cons : (c x : ℕ) (xs : List ℕ) → parts t w c (x ∷ xs) ≡ (t * (c + x) / w - t * c / w) ∷ parts t w (c + x) xs
  unfolding parts
  parts-cons c x xs = refl

  pub parts-nil : (c : ℕ) → parts t w c [] ≡ []
  unfolding parts
  parts-nil c = refl

  -- the parts telescope
  parts-sum : (c : ℕ) (xs : List ℕ) → sum (parts t w c xs) + t * c / w ≡ t * (c + sum xs) / w
  unfolding parts sum
  parts-sum c [] = rw add-zero (zero-add (t * c / w))
  parts-sum c (x ∷ xs) =
      let h = parts-sum (c + x) xs in
      let m = up_to_mono c x in
      let e : t * (c + (x + sum xs)) / w ≡ t * (c + x + sum xs) / w = ap (λ (n : ℕ). t * n / w) (sym (add_assoc c x (sum xs))) in
      omega arith

  parts-bounded : (c : ℕ) (xs : List ℕ) → 0 < w → t ≤ w → (i : ℕ) → parts t w c xs ! i ≤ xs ! i
  unfolding parts
  parts-bounded c [] p h i = omega arith
  parts-bounded c (x ∷ xs) p h zero =
      let m = div_mono (t * (c + x)) (t * c + x * w) w (let k = mul-le-mul_left x h in omega arith) in
      let e = add-mul-div_right (t * c) x p in
      omega arith
  parts-bounded c (x ∷ xs) p h (suc i) = parts-bounded (c + x) xs p h i

  parts-idle : (c : ℕ) (xs : List ℕ) (i : ℕ) → xs ! i ≡ 0 → parts t w c xs ! i ≡ 0
  unfolding parts
  parts-idle c [] i e = refl
  parts-idle c (x ∷ xs) zero e = rw (e, add-zero, sub_self) refl
  parts-idle c (x ∷ xs) (suc i) e = parts-idle (c + x) xs i e

  -- the i-th part, as the paper has it
  parts_at : (c : ℕ) (xs : List ℕ) (i : ℕ) → i < length xs
      → parts t w c xs ! i ≡ t * (c + sum (take (suc i) xs)) / w - t * (c + sum (take i xs)) / w
  unfolding parts sum
  parts_at c [] i h = absurd (not-suc-le-zero h)
  parts_at c (x ∷ xs) zero h = rw (add-zero, add-zero)
  parts_at c (x ∷ xs) (suc i) h = parts_at (c + x) xs i (le_of_suc-le-suc h) ∙ rw (add_assoc, add_assoc)

  -- weights of zero
  parts_before : (c n : ℕ) (xs : List ℕ) → parts t w c (replicate n 0 ++ xs) ≡ replicate n 0 ++ parts t w c xs
  unfolding parts
  parts_before c zero xs = refl
  parts_before c (suc n) xs = ap₂ (λ a b. a ∷ b) (rw (add-zero, sub_self)) (rw add-zero (parts_before c n xs))

  parts-behind : (c n : ℕ) (xs : List ℕ) → parts t w c (xs ++ replicate n 0) ≡ parts t w c xs ++ replicate n 0
  unfolding parts
  parts-behind c n [] = ap (parts t w c) (sym (append-nil (replicate n 0))) ∙ parts_before c n [] ∙ append-nil (replicate n 0)
  parts-behind c n (x ∷ xs) = ap (λ l. (t * (c + x) / w - t * c / w) ∷ l) (parts-behind (c + x) n xs)

parts-nothing : (w c : ℕ) (xs : List ℕ) → parts 0 w c xs ≡ replicate (length xs) 0
unfolding parts
parts-nothing w c [] = refl
parts-nothing w c (x ∷ xs) = simp (zero-mul, zero-div, parts-nothing w (c + x) xs)

module _ (t : ℕ) (ws : List ℕ) where
  whole : (t ≡ 0) ⊎ (0 < sum ws) → sum (parts t (sum ws) 0 ws) ≡ t
  whole can = from_zero ∙ go can
    where
      from_zero : sum (parts t (sum ws) 0 ws) ≡ t * sum ws / sum ws
      from_zero =
          let h = parts-sum t (sum ws) 0 ws in
          let a = up_to_zero t (sum ws) in
          let b : t * (0 + sum ws) / sum ws ≡ t * sum ws / sum ws = rw zero-add in
          omega arith

      go : (t ≡ 0) ⊎ (0 < sum ws) → t * sum ws / sum ws ≡ t
      go (inl z) = rw (z, zero-mul, zero-div)
      go (inr p) = mul-div_cancel t p

  under : t ≤ sum ws → (i : ℕ) → parts t (sum ws) 0 ws ! i ≤ ws ! i
  under h i = go (eq-zero-or-pos (sum ws))
    where
      go : (sum ws ≡ 0) ⊎ (0 < sum ws) → parts t (sum ws) 0 ws ! i ≤ ws ! i
      go (inl z) = let a = at-le-sum ws i in let b = parts-idle t (sum ws) 0 ws i (omega arith) in omega arith
      go (inr p) = parts-bounded t (sum ws) 0 ws p h i

  around : (m n : ℕ) → parts t (sum (replicate m 0 ++ (ws ++ replicate n 0))) 0 (replicate m 0 ++ (ws ++ replicate n 0))
      ≡ replicate m 0 ++ (parts t (sum ws) 0 ws ++ replicate n 0)
  around m n =
      let e : sum (replicate m 0 ++ (ws ++ replicate n 0)) ≡ sum ws =
      let a = sum-append (replicate m 0) (ws ++ replicate n 0) in let b = sum-append ws (replicate n 0) in
      let c = sum_zeros m in let d = sum_zeros n in omega arith in
      ap (λ (w : ℕ). parts t w 0 (replicate m 0 ++ (ws ++ replicate n 0))) e
      ∙ parts_before t (sum ws) 0 m (ws ++ replicate n 0) ∙ ap (λ l. replicate m 0 ++ l) (parts-behind t (sum ws) 0 n ws)

pub share-lawful : Lawful share
unfolding share
share-lawful =
    record {
      sized = λ t ws. parts-sized t (sum ws) 0 ws;
      adds = λ t ws. whole t ws;
      bounded = λ t ws h i. under t ws h i;
      idle = λ t ws can i e. parts-idle t (sum ws) 0 ws i e;
      alone = λ t m n ws h. around t ws m n;
      nothing = λ ws. parts-nothing (sum ws) 0 ws;
    }

pub share-at : (t : ℕ) (ws : List ℕ) (i : ℕ) → i < length ws → share t ws ! i ≡ t * sum (take (suc i) ws) / sum ws - t * sum (take i ws) / sum ws
unfolding share
share-at t ws i h = parts_at t (sum ws) 0 ws i h ∙ rw (zero-add, zero-add)

pub promised : Promised
promised = record { lawful = share-lawful; part = share-at }

-- the whole sum shared: each part is its weight
share_whole : (ws : List ℕ) → share (sum ws) ws ≡ ws
share_whole ws =
    ext_get_or 0 (share (sum ws) ws) ws (share-lawful.sized (sum ws) ws)
    (λ i _. sum_tight (share (sum ws) ws) ws (share-lawful.bounded (sum ws) ws (le_refl (sum ws))) (le_of_eq (sym (adds-le share-lawful (sum ws) ws (le_refl (sum ws))))) i)

-- where the total is no more than the weights, they bound nothing
pub up_to_share : (t : ℕ) (ws : List ℕ) → t ≤ sum ws → up_to_weights share t ws ≡ share t ws
up_to_share t ws h = go (leb (sum ws) t) refl
  where
    go : (b : Bool) → leb (sum ws) t ≡ b → cond b ws (share t ws) ≡ share t ws
    go false e = refl
    go true e = let k = leb-true (sum ws) t e in sym (ap (λ (n : ℕ). share n ws) (let m : t ≡ sum ws = omega arith in m) ∙ share_whole ws)

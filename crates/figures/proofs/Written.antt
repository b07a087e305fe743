-- Laws of text written part by part. Assumes nothing.
use mathlib.Core.Path.{◌≡◌, refl, sym, ap, ◌∙◌}
use mathlib.Core.List.{List, [], ◌∷◌, ◌++◌}
use Prim.Native.Nat.{ℕ, ◌+◌, ◌≤◌, ◌<◌}
use native.Mathlib.Nat.{add_assoc}
use native.Mathlib.Numerals.{add-one}
use native.Mathlib.Omega.{arith}
use lib.ListN.{length, set, length-append}
use lib.Seq.{set_split}
use Rattle.lists.specs.Lists.{between}
use Rattle.lists.proofs.Parts.{between_next, length-between}
use Rattle.figures.specs.Figures.{written, Wrote}

-- one byte
written_byte : (text : List ℕ) (at b : ℕ) → at < length text → set text at b ≡ written text at (b ∷ [])
unfolding written
written_byte text at b h = set_split text at b h ∙ rw add-one

pub wrote_byte : (text : List ℕ) (at b : ℕ) → at < length text → Wrote (b ∷ []) at text (set text at b) (at + 1)
wrote_byte text at b h = record { behind = refl; text = written_byte text at b h }

module _ (text : List ℕ) (at : ℕ) (xs : List ℕ) where
  pub length-written : at + length xs ≤ length text → length (written text at xs) ≡ length text
  unfolding written
  length-written h = length-between text at (at + length xs) xs (omega arith) h refl

  -- a part written behind another: both are written
  pub written_next : (ys : List ℕ) → at + length xs + length ys ≤ length text → written (written text at xs) (at + length xs) ys ≡ written text at (xs ++ ys)
  unfolding written
  written_next ys h =
      between_next text at (at + length xs) (at + length xs + length ys) xs ys (omega arith) (omega arith) h refl
      ∙ ap (λ (n : ℕ). between at n text (xs ++ ys)) (add_assoc at (length xs) (length ys) ∙ ap (λ (n : ℕ). at + n) (sym (length-append xs ys)))

-- what was written behind what was written before
pub wrote_next : {xs ys : List ℕ} {at : ℕ} {t₀ t₁ t₂ : List ℕ} {r₁ r₂ : ℕ} → Wrote xs at t₀ t₁ r₁ → Wrote ys r₁ t₁ t₂ r₂ → at + length (xs ++ ys) ≤ length t₀ → Wrote (xs ++ ys) at t₀ t₂ r₂
wrote_next {xs} {ys} {at} {t₀} p q h =
    let all : length (xs ++ ys) ≡ length xs + length ys = length-append xs ys in
    record {
      behind = omega (arith, p.behind, q.behind);
      text = q.text ∙ rw (p.behind, p.text) (written_next t₀ at xs ys (omega arith));
    }

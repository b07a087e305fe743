-- `writing::write_leading` meets its contract: part by part, what is left to write. Assumes nothing.
use mathlib.Core.Path.{refl}
use mathlib.Core.List.{List, [], ◌∷◌, ◌++◌}
use Prim.Native.Nat.{ℕ}
use native.Mathlib.Omega.{arith}
use Rattle.figures.specs.Figures.{figure, commas_before, Wrote}
use Rattle.statement.specs.Writing.{fields_text, leading, Room}
use Rattle.statement.proofs.Parts.{Left, left_all, left-room, left-more, left-fits, left-last}
use Rattle.statement.proofs.writing.write_leading.Goals as goal

-- the second figure and those that follow, and the first before them
abbrev second : ℕ → List ℕ → List ℕ
second y figures = (44 ∷ figure y) ++ fields_text figures

abbrev first : ℕ → ℕ → List ℕ → List ℕ
first x y figures = (44 ∷ figure x) ++ second y figures

module _ (letter x y : ℕ) (figures : List ℕ) {at : ℕ} {text : List ℕ} (h : Room (leading letter x y figures) at text) where
  at-start : Left (leading letter x y figures) at text at text ((letter ∷ []) ++ first x y figures)
  unfolding leading fields_text commas_before
  at-start = left_all h

  module _ {e₁ : ℕ} {t₁ : List ℕ} (w₁ : Wrote (letter ∷ []) at text t₁ e₁) where
    at_first : Left (leading letter x y figures) at text e₁ t₁ (first x y figures)
    at_first = left-more at-start _ _ refl w₁

    module _ {e₂ : ℕ} {t₂ : List ℕ} (w₂ : Wrote (44 ∷ figure x) e₁ t₁ t₂ e₂) where
      at_second : Left (leading letter x y figures) at text e₂ t₂ (second y figures)
      at_second = left-more at_first _ _ refl w₂

      at_rest : {e₃ : ℕ} {t₃ : List ℕ} → Wrote (44 ∷ figure y) e₂ t₂ t₃ e₃ → Left (leading letter x y figures) at text e₃ t₃ (fields_text figures)
      at_rest w₃ = left-more at_second _ _ refl w₃

pub write_byte-end-requires : goal.write_byte-end-requires
write_byte-end-requires c = omega (arith, (left-room (at-start c.args.letter c.args.x c.args.y c.args.figures.now c.requires) (c.args.letter ∷ []) _ refl).fits)

pub write_field-end-requires : goal.write_field-end-requires
write_field-end-requires c = (left-room (at_first c.args.letter c.args.x c.args.y c.args.figures.now c.requires c.write_byte-end.ensures) (44 ∷ figure c.args.x) _ refl).fits

pub write_field-end-requires-2 : goal.write_field-end-requires-2
write_field-end-requires-2 c = (left-room (at_second c.args.letter c.args.x c.args.y c.args.figures.now c.requires c.write_byte-end.ensures c.write_field-end.ensures) (44 ∷ figure c.args.y) _ refl).fits

pub write_fields-requires : goal.write_fields-requires
write_fields-requires c = left-fits (at_rest c.args.letter c.args.x c.args.y c.args.figures.now c.requires c.write_byte-end.ensures c.write_field-end.ensures c.write_field-end-2.ensures) refl

pub returns : goal.returns
returns c = left-last (at_rest c.args.letter c.args.x c.args.y c.args.figures.now c.requires c.write_byte-end.ensures c.write_field-end.ensures c.write_field-end-2.ensures) refl c.write_fields.ensures

-- `writing::write_total_line` meets its contract: part by part, what is left to write. Assumes nothing.
use mathlib.Core.Path.{◌≡◌, refl, ap}
use mathlib.Core.List.{List, [], ◌∷◌, ◌++◌}
use Prim.Native.Nat.{ℕ, ◌<◌, ◌^◌, min}
use native.Mathlib.Omega.{arith}
use Rattle.lists.specs.Lists.{sum}
use Rattle.figures.specs.Figures.{figure, Wrote}
use Rattle.statement.specs.Statement.{total_line}
use Rattle.statement.specs.Writing.{leading, Room}
use Rattle.statement.proofs.Text.{total-line_is}
use Rattle.statement.proofs.Parts.{Left, left-whole, left-room, left-more, left-fits, left-last}
use Rattle.statement.proofs.writing.write_total_line.Goals as goal

-- the sum and the line's end
abbrev total : ℕ → List ℕ
total n = (44 ∷ figure n) ++ (10 ∷ [])

-- the sum that was worked
total-is : (columns : List ℕ) {n : ℕ} → n ≡ min (2 ^ 62) (sum columns) → sum columns < 2 ^ 62 → total (sum columns) ≡ total n
total-is columns {n} e h = let same : sum columns ≡ n = omega arith in ap total same

module _ (settled plants : ℕ) (columns : List ℕ) {at : ℕ} {text : List ℕ} (h : Room (total_line settled plants columns) at text) where
  at-start : Left (total_line settled plants columns) at text at text (leading 84 settled plants columns ++ total (sum columns))
  at-start = left-whole h (total-line_is settled plants columns)

  module _ {e₁ : ℕ} {t₁ : List ℕ} (w₁ : Wrote (leading 84 settled plants columns) at text t₁ e₁) where
    at-total : Left (total_line settled plants columns) at text e₁ t₁ (total (sum columns))
    at-total = left-more at-start _ _ refl w₁

    at_end : (n : ℕ) → total (sum columns) ≡ total n → {e₂ : ℕ} {t₂ : List ℕ} → Wrote (44 ∷ figure n) e₁ t₁ t₂ e₂ → Left (total_line settled plants columns) at text e₂ t₂ (10 ∷ [])
    at_end n e w₂ = left-more at-total _ _ e w₂

pub write_leading-end-requires : goal.write_leading-end-requires
write_leading-end-requires c = left-room (at-start c.args.settled c.args.plants c.args.columns.now c.requires.room) _ _ refl

pub write_field-end-requires : goal.write_field-end-requires
write_field-end-requires c =
    (left-room (at-total c.args.settled c.args.plants c.args.columns.now c.requires.room c.write_leading-end.ensures) (44 ∷ figure c.sum_of-total.result) _ (total-is c.args.columns.now c.sum_of-total.ensures c.requires.columns_bound)).fits

pub write_byte-requires : goal.write_byte-requires
write_byte-requires c =
    omega (arith, (left-fits (at_end c.args.settled c.args.plants c.args.columns.now c.requires.room c.write_leading-end.ensures c.sum_of-total.result (total-is c.args.columns.now c.sum_of-total.ensures c.requires.columns_bound) c.write_field-end.ensures) refl).fits)

pub returns : goal.returns
returns c =
    left-last (at_end c.args.settled c.args.plants c.args.columns.now c.requires.room c.write_leading-end.ensures c.sum_of-total.result (total-is c.args.columns.now c.sum_of-total.ensures c.requires.columns_bound) c.write_field-end.ensures) refl c.write_byte.ensures

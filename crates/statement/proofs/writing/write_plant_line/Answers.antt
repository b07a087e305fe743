-- `writing::write_plant_line` meets its contract: part by part, what is left to write. Assumes nothing.
use mathlib.Core.Path.{◌≡◌, refl, sym, ap}
use mathlib.Core.List.{List, [], ◌∷◌, ◌++◌}
use Prim.Native.Nat.{ℕ}
use native.Mathlib.Omega.{arith}
use lib.IntN.{ℤ}
use mir.Syntax.{w64}
use mir.Val.{to_z, of_z}
use mir.Facts.{to_z-of_z}
use Rattle.figures.specs.Figures.{signed_figure, Wrote}
use Rattle.plants.specs.declared.Plant.{Plant}
use Rattle.statement.specs.Statement.{plant_line}
use Rattle.statement.specs.Writing.{leading, Room}
use Rattle.statement.proofs.Text.{plant-line_is}
use Rattle.statement.proofs.Parts.{Left, left-whole, left-room, left-more, left-fits, left-last}
use Rattle.statement.proofs.writing.write_plant_line.Goals as goal

-- the money and the line's end, and the net before them
abbrev from_money : ℤ → List ℕ
from_money money = (44 ∷ signed_figure money) ++ (10 ∷ [])

abbrev from_net : ℤ → ℤ → List ℕ
from_net net money = (44 ∷ signed_figure net) ++ from_money money

-- the machine reads a signed figure from its bits
money-as : {money m : ℤ} → m ≡ money → from_money money ≡ from_money m
money-as e = ap from_money (sym e)

net_as : {net n : ℤ} (money : ℤ) → n ≡ net → from_net net money ≡ from_net n money
net_as money e = ap (λ (z : ℤ). from_net z money) (sym e)

module _ (p : Plant) (figures : List ℕ) (net money : ℤ) {at : ℕ} {text : List ℕ} (h : Room (plant_line p figures net money) at text) where
  at-start : Left (plant_line p figures net money) at text at text (leading 65 p.submarket p.number figures ++ from_net net money)
  at-start = left-whole h (plant-line_is p figures net money)

  module _ {e₁ : ℕ} {t₁ : List ℕ} (w₁ : Wrote (leading 65 p.submarket p.number figures) at text t₁ e₁) where
    at-net : Left (plant_line p figures net money) at text e₁ t₁ (from_net net money)
    at-net = left-more at-start _ _ refl w₁

    module _ {n : ℤ} (a : n ≡ net) {e₂ : ℕ} {t₂ : List ℕ} (w₂ : Wrote (44 ∷ signed_figure n) e₁ t₁ t₂ e₂) where
      at-money : Left (plant_line p figures net money) at text e₂ t₂ (from_money money)
      at-money = left-more at-net _ _ (net_as money a) w₂

      at_end : {m : ℤ} → m ≡ money → {e₃ : ℕ} {t₃ : List ℕ} → Wrote (44 ∷ signed_figure m) e₂ t₂ t₃ e₃ → Left (plant_line p figures net money) at text e₃ t₃ (10 ∷ [])
      at_end b w₃ = left-more at-money _ _ (money-as b) w₃

pub write_leading-end-requires : goal.write_leading-end-requires
write_leading-end-requires c = left-room (at-start c.args.plant.now c.args.figures.now c.args.net c.args.money c.requires) _ _ refl

pub write_field-end-requires : goal.write_field-end-requires
write_field-end-requires c = (left-room (at-net c.args.plant.now c.args.figures.now c.args.net c.args.money c.requires c.write_leading-end.ensures) (44 ∷ signed_figure (to_z w64 (of_z w64 c.args.net))) (from_money c.args.money) (net_as c.args.money (to_z-of_z c.ranges.net))).fits

pub write_field-end-requires-2 : goal.write_field-end-requires-2
write_field-end-requires-2 c =
    (left-room (at-money c.args.plant.now c.args.figures.now c.args.net c.args.money c.requires c.write_leading-end.ensures (to_z-of_z c.ranges.net) c.write_field-end.ensures) (44 ∷ signed_figure (to_z w64 (of_z w64 c.args.money))) (10 ∷ []) (money-as (to_z-of_z c.ranges.money))).fits

pub write_byte-requires : goal.write_byte-requires
write_byte-requires c =
    omega (arith, (left-fits (at_end c.args.plant.now c.args.figures.now c.args.net c.args.money c.requires c.write_leading-end.ensures (to_z-of_z c.ranges.net) c.write_field-end.ensures (to_z-of_z c.ranges.money) c.write_field-end-2.ensures) refl).fits)

pub returns : goal.returns
returns c =
    left-last (at_end c.args.plant.now c.args.figures.now c.args.net c.args.money c.requires c.write_leading-end.ensures (to_z-of_z c.ranges.net) c.write_field-end.ensures (to_z-of_z c.ranges.money) c.write_field-end-2.ensures) refl c.write_byte.ensures

-- The submarkets of plants, row by row. Assumes nothing.
use mathlib.Core.Path.{◌≡◌, refl}
use mathlib.Core.List.{List, [], ◌∷◌}
use Prim.Native.Nat.{ℕ, zero, suc}
use lib.ListN.{length, get_or, drop, length-map, get_or-map}
use Rattle.plants.specs.declared.Plant.{Plant}
use Rattle.plants.specs.Plants.{none, submarkets_of}

pub length-submarkets : (plants : List Plant) → length (submarkets_of plants) ≡ length plants
unfolding submarkets_of
length-submarkets plants = length-map plants (λ (p : Plant). p.submarket)

pub at-submarkets : (plants : List Plant) (i : ℕ) → get_or (submarkets_of plants) i 0 ≡ (get_or plants i none).submarket
unfolding submarkets_of
at-submarkets plants i = get_or-map (λ (p : Plant). p.submarket) plants i none

pub submarkets-drop : (i : ℕ) (plants : List Plant) → submarkets_of (drop i plants) ≡ drop i (submarkets_of plants)
unfolding submarkets_of
submarkets-drop zero plants = refl
submarkets-drop (suc i) [] = refl
submarkets-drop (suc i) (p ∷ plants) = submarkets-drop i plants

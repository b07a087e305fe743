-- Laws of the records that five columns make. Assumes nothing.
use mathlib.Core.Path.{◌≡◌, refl, ◌∙◌, ap}
use mathlib.Core.List.{List, [], ◌∷◌, map}
use Prim.Native.Nat.{ℕ, zero, suc, ◌<◌}
use native.Mathlib.Omega.{arith}
use native.Mathlib.Nat.{le_of_suc-le-suc, not-suc-le-zero}
use lib.ListN.{length, drop, get_or}
use lib.Seq.{drop-cons, get_or-drop}
use Rattle.plants.specs.declared.Plant.{Plant}
use Rattle.plants.specs.Plants.{none}
use Rattle.plants.specs.Table.{plants_of}
use Rattle.plants.specs.Laws.{plant, Made}

next : (ns : List ℕ) (i : ℕ) → get_or (drop 1 ns) i 0 ≡ get_or ns (suc i) 0
next ns i = get_or-drop 1 ns i 0 ∙ ap (λ (k : ℕ). get_or ns k 0) (omega arith)

pub length-plants : (ss ns gs ls vs : List ℕ) → length (plants_of ss ns gs ls vs) ≡ length ss
unfolding plants_of
length-plants [] ns gs ls vs = refl
length-plants (s ∷ ss) ns gs ls vs = ap suc (length-plants ss (drop 1 ns) (drop 1 gs) (drop 1 ls) (drop 1 vs))

-- the record of row i
pub plant-at : (i : ℕ) (ss ns gs ls vs : List ℕ) (d : Plant) → i < length ss
    → get_or (plants_of ss ns gs ls vs) i d ≡ plant (get_or ss i 0) (get_or ns i 0) (get_or gs i 0) (get_or ls i 0) (get_or vs i 0)
unfolding plants_of
plant-at i [] ns gs ls vs d h = absurd (not-suc-le-zero h)
plant-at zero (s ∷ ss) ns gs ls vs d h = refl
plant-at (suc i) (s ∷ ss) ns gs ls vs d h =
    plant-at i ss (drop 1 ns) (drop 1 gs) (drop 1 ls) (drop 1 vs) d (le_of_suc-le-suc h) ∙ simp next

-- the records from row i on
pub row-at : (i : ℕ) (ss ns gs ls vs : List ℕ) → i < length ss
    → drop i (plants_of ss ns gs ls vs) ≡ plant (get_or ss i 0) (get_or ns i 0) (get_or gs i 0) (get_or ls i 0) (get_or vs i 0) ∷ drop (suc i) (plants_of ss ns gs ls vs)
row-at i ss ns gs ls vs h =
    drop-cons (plants_of ss ns gs ls vs) i none (rw (length-plants ss ns gs ls vs) h)
    ∙ ap (λ p. p ∷ drop (suc i) (plants_of ss ns gs ls vs)) (plant-at i ss ns gs ls vs none h)

-- the submarkets are the first column
pub plants-submarkets : (ss ns gs ls vs : List ℕ) → map (λ (p : Plant). p.submarket) (plants_of ss ns gs ls vs) ≡ ss
unfolding plants_of
plants-submarkets [] ns gs ls vs = refl
plants-submarkets (s ∷ ss) ns gs ls vs = ap (λ l. s ∷ l) (plants-submarkets ss (drop 1 ns) (drop 1 gs) (drop 1 ls) (drop 1 vs))

-- records are those that their own five columns make
plants-back : (ps : List Plant)
    → plants_of (map (λ (p : Plant). p.submarket) ps) (map (λ (p : Plant). p.number) ps) (map (λ (p : Plant). p.guarantee) ps) (map (λ (p : Plant). p.loss) ps) (map (λ (p : Plant). p.availability) ps)
    ≡ ps
unfolding plants_of
plants-back [] = refl
plants-back (p ∷ ps) = ap (λ (l : List Plant). p ∷ l) (plants-back ps)

pub made : Made
made = record { count = length-plants; row = plant-at; rest = row-at; submarkets = plants-submarkets; back = plants-back }

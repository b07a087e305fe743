-- What is promised of the records that five columns make. Assumes nothing.
use Rattle.std.specs.Prelude.{◌≡◌, ℕ, suc, ◌<◌, List, ◌∷◌, map, length, get_or, drop}
use Rattle.plants.specs.declared.Plant.{Plant}
use Rattle.plants.specs.Table.{plants_of}

-- a record of five figures
abbrev pub plant : ℕ → ℕ → ℕ → ℕ → ℕ → Plant
plant s n g l v = record { submarket = s; number = n; guarantee = g; loss = l; availability = v }

pub record Made : Type 0 where
  -- as many as the first column has figures
  pub count : (ss ns gs ls vs : List ℕ) → length (plants_of ss ns gs ls vs) ≡ length ss
  -- the record of row i
  pub row : (i : ℕ) (ss ns gs ls vs : List ℕ) (d : Plant) → i < length ss
      → get_or (plants_of ss ns gs ls vs) i d ≡ plant (get_or ss i 0) (get_or ns i 0) (get_or gs i 0) (get_or ls i 0) (get_or vs i 0)
  -- the records from row i on
  pub rest : (i : ℕ) (ss ns gs ls vs : List ℕ) → i < length ss
      → drop i (plants_of ss ns gs ls vs) ≡ plant (get_or ss i 0) (get_or ns i 0) (get_or gs i 0) (get_or ls i 0) (get_or vs i 0) ∷ drop (suc i) (plants_of ss ns gs ls vs)
  -- the submarkets are the first column
  pub submarkets : (ss ns gs ls vs : List ℕ) → map (λ (p : Plant). p.submarket) (plants_of ss ns gs ls vs) ≡ ss
  -- records are those that their own five columns make
  pub back : (ps : List Plant)
      → plants_of (map (λ (p : Plant). p.submarket) ps) (map (λ (p : Plant). p.number) ps) (map (λ (p : Plant). p.guarantee) ps) (map (λ (p : Plant). p.loss) ps) (map (λ (p : Plant). p.availability) ps)
      ≡ ps

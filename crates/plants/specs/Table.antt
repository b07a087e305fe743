-- The plant table as five columns: the records that they make. Assumes nothing.
use Rattle.std.specs.Prelude.{ℕ, List, [], ◌∷◌, get_or, drop}
use Rattle.plants.specs.declared.Plant.{Plant}

-- as many records as the first column has figures
unfoldable pub plants_of : List ℕ → List ℕ → List ℕ → List ℕ → List ℕ → List Plant
plants_of [] ns gs ls vs = []
plants_of (s ∷ ss) ns gs ls vs =
    record { submarket = s; number = get_or ns 0 0; guarantee = get_or gs 0 0; loss = get_or ls 0 0; availability = get_or vs 0 0 }
    ∷ plants_of ss (drop 1 ns) (drop 1 gs) (drop 1 ls) (drop 1 vs)

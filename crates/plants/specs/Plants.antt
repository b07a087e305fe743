-- A figure of each plant. Assumes nothing.
use Rattle.std.specs.Prelude.{ℕ, List, map}
use Rattle.plants.specs.declared.Plant.{Plant}

-- what stands past the last record
abbrev pub none : Plant
none = record { submarket = 0; number = 0; guarantee = 0; loss = 0; availability = 0 }

-- the submarkets of the plants
unfoldable pub submarkets_of : List Plant → List ℕ
submarkets_of plants = map (λ (p : Plant). p.submarket) plants

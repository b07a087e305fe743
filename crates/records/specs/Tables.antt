-- A plant table that was lent, and what comes back. Assumes nothing.
use Rattle.std.specs.Prelude.{◌≡◌, ℕ, List, length}
use Rattle.plants.specs.declared.Plant.{Plant}

-- both are the same table, whatever it holds: with as many rows, and in the same list where the rows are another's
pub record SameTable {T : Type 0} (rows : T → List Plant) (lender : T → ℕ) (a b : T) : Type 0 where
  pub list : lender a ≡ lender b
  pub count : length (rows a) ≡ length (rows b)

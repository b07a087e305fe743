-- Steps 3 and 7 on lists of figures, one for each plant, by a rule of sharing. Assumes nothing.
use Rattle.std.specs.Prelude.{ℕ, cond, List, eqb}
use Rattle.lists.specs.Lists.{sum}
use Rattle.sharing.specs.Sharing.{Rule, up_to_weights}

-- Step 3: if Gt ≥ A, the covered guarantees b (004's adjusted guarantee) are a, else Gt shared over all a
abbrev pub covered_by : Rule → ℕ → List ℕ → List ℕ
covered_by = up_to_weights

-- Step 7: the rights r are Z shared over all a, or the metered figures if A = 0
abbrev pub rights_by : Rule → ℕ → List ℕ → List ℕ → List ℕ
rights_by rule secondary a metered = cond (eqb (sum a) 0) metered (rule secondary a)

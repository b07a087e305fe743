-- Document 01, 'Sharing'. Assumes nothing.
use Rattle.std.specs.Prelude.{ℕ, ◌+◌, ◌-◌, ◌*◌, ◌/◌, cond, leb, List, [], ◌∷◌}
use Rattle.lists.specs.Lists.{sum}

-- a rule of sharing: the parts of a total T, one for each weight
abbrev pub Rule : Type 0
Rule = ℕ → List ℕ → List ℕ

-- the i-th part is floor(T × Ci / W) − floor(T × C(i−1) / W), between two running totals
abbrev pub part_between : ℕ → ℕ → ℕ → ℕ → ℕ
part_between t w before upto = t * upto / w - t * before / w

-- ... of each weight; c is the running total before the weights that are left
unfoldable pub parts : ℕ → ℕ → ℕ → List ℕ → List ℕ
parts t w c [] = []
parts t w c (x ∷ xs) = part_between t w c (c + x) ∷ parts t w (c + x) xs

-- T shared over weights with total W and C0 = 0. Here x / 0 is 0, so T = 0 over weights that are all zero gives zeros too
unfoldable pub share : Rule
share t ws = parts t (sum ws) 0 ws

-- T shared where it is less than W, else each weight is its own part
abbrev pub up_to_weights : Rule → Rule
up_to_weights rule t ws = cond (leb (sum ws) t) ws (rule t ws)

-- Signed figures: the test that one is within a bound of zero, and the accounts of a list of nets. Assumes nothing.
use Rattle.std.specs.Prelude.{ℕ, Bool, List, [], ◌∷◌, map, ℤ, pos, nat_abs, ◌*ℤ◌, leb}
use Rattle.lists.specs.Columns.{by_row}

-- the figure is within the bound of zero
unfoldable pub is_within : ℕ → ℤ → Bool
is_within bound z = leb (nat_abs z) bound

-- nets at a rate: money is net × TEO
abbrev pub at_rate : ℕ → List ℤ → List ℤ
at_rate rate nets = map (λ z. z *ℤ pos rate) nets

-- net and money of each row, net before money
unfoldable pub accounts_of : ℕ → List ℤ → List ℤ
accounts_of tariff nets = by_row (pos 0) (nets ∷ at_rate tariff nets ∷ [])

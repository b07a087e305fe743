-- "The questions, in the order they are put": 2 to 11, of the sizes, the plant table, the profile and the ledger's lists, and 19 of a ledger at hand, which several calls put. Assumes nothing.
use Rattle.std.specs.Prelude.{ℕ, ◌*◌, ◌^◌, Bool, not, ◌&&◌, ◌||◌, List, [], ◌∷◌, leb, ltb, eqb, length}
use Rattle.lists.specs.Lists.{sum, most, at_most}
use Rattle.lists.specs.Questions.{◌⁇◌, part, ◌then◌, first_no, in_range}
use Rattle.plants.specs.declared.Plant.{Plant}
use Rattle.ledger.specs.Ledger.{Ledger, in_bounds}

-- 2: P in limits
abbrev pub plants_in_limits : ℕ → Bool
plants_in_limits = in_range 1 512

-- 3: H in limits
abbrev pub periods_in_limits : ℕ → Bool
periods_in_limits = in_range 1 744

-- 2, 3, 4: P, H and TEO in limits
unfoldable pub sizes_number : ℕ → ℕ → ℕ → ℕ
sizes_number p h tariff = first_no (plants_in_limits p ⁇ 2 ∷ periods_in_limits h ⁇ 3 ∷ leb tariff 10000 ⁇ 4 ∷ [])

-- 5: submarket 1 to 4 and not below the row before, of submarket s₀
unfoldable pub placed : ℕ → ℕ → Bool
placed s₀ s = in_range 1 4 s && leb s₀ s

-- 6: number in limits and, in the same submarket, above the row before, of number n₀
unfoldable pub numbered : ℕ → ℕ → ℕ → ℕ → Bool
numbered s₀ n₀ s n = in_range 1 999999 n && (not (eqb s s₀) || ltb n₀ n)

-- 5 to 8 of a row, after a row of submarket s₀ and number n₀
unfoldable pub row_number : ℕ → ℕ → Plant → ℕ
row_number s₀ n₀ p =
    first_no
    (placed s₀ p.submarket ⁇ 5
    ∷ numbered s₀ n₀ p.submarket p.number ⁇ 6
    ∷ leb p.guarantee (10 ^ 12) ⁇ 7
    ∷ (leb p.loss 1000000 && leb p.availability 1000000) ⁇ 8
    ∷ [])

-- going down the rows; the first comes after submarket 0, which no row has
unfoldable pub rows_number : ℕ → ℕ → List Plant → ℕ
rows_number s₀ n₀ [] = 0
rows_number s₀ n₀ (p ∷ ps) = row_number s₀ n₀ p then rows_number p.submarket p.number ps

-- 11: ledger lists of exactly 4P and 2P
unfoldable pub lengths_number : ℕ → Ledger → ℕ
lengths_number p l = first_no ((eqb (length l.allotted) (4 * p) && eqb (length l.accounts) (2 * p)) ⁇ 11 ∷ [])

-- 11, then 19: every figure of the ledger at hand inside its bound
unfoldable pub ledger_number : ℕ → Ledger → ℕ
ledger_number p l = first_no (part (lengths_number p l) ∷ in_bounds l ⁇ 19 ∷ [])

-- 5 to 11
unfoldable pub tables_number : ℕ → List Plant → List ℕ → Ledger → ℕ
tables_number p plants profile l =
    first_no
    (part (rows_number 0 0 plants)
    ∷ at_most most profile ⁇ 9
    ∷ ltb 0 (sum profile) ⁇ 10
    ∷ part (lengths_number p l)
    ∷ [])

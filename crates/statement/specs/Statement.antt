-- The statement, byte for byte (document 01, 'The file and its statement'). Bytes are numbers: the line's end is 10, `A` 65, `T` 84.
-- Assumes nothing.
use Rattle.std.specs.Prelude.{ℕ, ◌+◌, ◌*◌, List, [], ◌∷◌, ◌++◌, map, ℤ, pos, length, take, drop, get_or}
use Rattle.lists.specs.Lists.{sum}
use Rattle.lists.specs.Columns.{four}
use Rattle.figures.specs.Figures.{figure, signed_figure, by_commas}
use Rattle.plants.specs.declared.Plant.{Plant}
use Rattle.ledger.specs.Ledger.{Ledger, allotted_width, accounts_width, allotted_in}

-- a line of text: fields parted by commas, and the byte 10 at its end
unfoldable pub line : List (List ℕ) → List ℕ
line fs = by_commas fs ++ (10 ∷ [])

-- 'A: submarket, number, four ledger figures, net, money'
unfoldable pub plant_line : Plant → List ℕ → ℤ → ℤ → List ℕ
plant_line p figures net money =
    line ((65 ∷ []) ∷ figure p.submarket ∷ figure p.number ∷ (map figure figures ++ (signed_figure net ∷ signed_figure money ∷ [])))

-- a line for each row of the table, with its own figures of the ledger's lists, which run row by row, net before money
unfoldable pub plant_lines : List Plant → List ℕ → List ℤ → List ℕ
plant_lines [] allotted accounts = []
plant_lines (p ∷ ps) allotted accounts =
    plant_line p (take allotted_width allotted) (get_or accounts 0 (pos 0)) (get_or accounts 1 (pos 0)) ++ plant_lines ps (drop allotted_width allotted) (drop accounts_width accounts)

-- 'T: periods settled (the period due less 1), P, column sums, their sum'
unfoldable pub total_line : ℕ → ℕ → List ℕ → List ℕ
total_line settled plants columns = line ((84 ∷ []) ∷ figure settled ∷ figure plants ∷ (map figure columns ++ (figure (sum columns) ∷ [])))

-- the whole statement of a ledger, with so many periods settled
unfoldable pub statement_text : ℕ → List Plant → Ledger → List ℕ
statement_text settled plants l =
    plant_lines plants l.allotted l.accounts ++ total_line settled (length plants) (four (λ s. sum (allotted_in s l)))

-- what 22 and the sizing call go by: at least 128P + 128 bytes
unfoldable pub room_for : ℕ → ℕ
room_for plants = 128 * plants + 128

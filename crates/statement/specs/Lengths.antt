-- How many bytes the statement takes, by its figures. Assumes nothing.
use Rattle.std.specs.Prelude.{ℕ, ◌+◌, List, [], ◌∷◌, ℤ, pos, length, take, drop, get_or}
use Rattle.lists.specs.Lists.{sum}
use Rattle.lists.specs.Columns.{four}
use Rattle.figures.specs.Figures.{figure_length, signed_figure_length}
use Rattle.plants.specs.declared.Plant.{Plant}
use Rattle.ledger.specs.Ledger.{Ledger, allotted_width, accounts_width, allotted_in}

-- figures, each with a comma before it
unfoldable pub fields_length : List ℕ → ℕ
fields_length [] = 0
fields_length (x ∷ xs) = figure_length x + 1 + fields_length xs

-- how A and T lines begin: a letter, and figures
unfoldable pub leading_length : ℕ → ℕ → List ℕ → ℕ
leading_length x y figures = 1 + fields_length (x ∷ y ∷ figures)

-- an A line: net and money with a comma before each, and the line's end
unfoldable pub plant_line_length : Plant → List ℕ → ℤ → ℤ → ℕ
plant_line_length p figures net money =
    leading_length p.submarket p.number figures + (signed_figure_length net + 1) + (signed_figure_length money + 1) + 1

-- the A lines, as `plant_lines` goes down the rows
unfoldable pub plant_lines_length : List Plant → List ℕ → List ℤ → ℕ
plant_lines_length [] allotted accounts = 0
plant_lines_length (p ∷ ps) allotted accounts =
    plant_line_length p (take allotted_width allotted) (get_or accounts 0 (pos 0)) (get_or accounts 1 (pos 0)) + plant_lines_length ps (drop allotted_width allotted) (drop accounts_width accounts)

-- the T line: the sum with a comma before it, and the line's end
unfoldable pub total_line_length : ℕ → ℕ → List ℕ → ℕ
total_line_length settled plants columns = leading_length settled plants columns + (figure_length (sum columns) + 1) + 1

-- the whole
unfoldable pub statement_length : ℕ → List Plant → Ledger → ℕ
statement_length settled plants l =
    plant_lines_length plants l.allotted l.accounts + total_line_length settled (length plants) (four (λ s. sum (allotted_in s l)))

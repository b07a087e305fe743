-- The statement that document 01 shows is that of the month it shows, byte for byte, by computing. Assumes nothing.
use Rattle.std.specs.Prelude.{◌≡◌, refl, ℕ, List, [], ◌∷◌, ◌++◌, pos, negsuc}
use Rattle.lists.specs.Lists.{sum}
use Rattle.lists.specs.Columns.{column}
use Rattle.figures.specs.Figures.{digits, figure, minus, signed_figure, commas_before, by_commas}
use Rattle.plants.specs.declared.Plant.{Plant}
use Rattle.ledger.specs.Ledger.{Ledger}
use Rattle.statement.specs.Statement.{line, plant_line, plant_lines, total_line, statement_text}

-- `P,1,10,100,..`, `P,1,11,50,..`, `P,2,20,60,..`
abbrev pub plant : ℕ → ℕ → ℕ → Plant
plant s n q = record { submarket = s; number = n; guarantee = q; loss = 1000000; availability = 1000000 }

abbrev pub plants : List Plant
plants = plant 1 10 100 ∷ plant 1 11 50 ∷ plant 2 20 60 ∷ []

-- the ledger after the month's one hour; `negsuc 22` is -23
abbrev pub ledger : Ledger
ledger =
    record {
      allotted = 85 ∷ 0 ∷ 0 ∷ 0 ∷ 43 ∷ 0 ∷ 0 ∷ 0 ∷ 22 ∷ 30 ∷ 0 ∷ 0 ∷ [];
      accounts = pos 45 ∷ pos 58500 ∷ negsuc 22 ∷ negsuc 29899 ∷ negsuc 21 ∷ negsuc 28599 ∷ [];
    }

-- `A,1,10,85,0,0,0,45,58500` and its end
abbrev first : List ℕ
first = 65 ∷ 44 ∷ 49 ∷ 44 ∷ 49 ∷ 48 ∷ 44 ∷ 56 ∷ 53 ∷ 44 ∷ 48 ∷ 44 ∷ 48 ∷ 44 ∷ 48 ∷ 44 ∷ 52 ∷ 53 ∷ 44 ∷ 53 ∷ 56 ∷ 53 ∷ 48 ∷ 48 ∷ 10 ∷ []

-- `A,1,11,43,0,0,0,-23,-29900`
abbrev second : List ℕ
second =
    65 ∷ 44 ∷ 49 ∷ 44 ∷ 49 ∷ 49 ∷ 44 ∷ 52 ∷ 51 ∷ 44 ∷ 48 ∷ 44 ∷ 48 ∷ 44 ∷ 48 ∷ 44 ∷ 45 ∷ 50 ∷ 51 ∷ 44 ∷ 45 ∷ 50 ∷ 57 ∷ 57 ∷ 48 ∷ 48 ∷ 10 ∷ []

-- `A,2,20,22,30,0,0,-22,-28600`
abbrev third : List ℕ
third =
    65 ∷ 44 ∷ 50 ∷ 44 ∷ 50 ∷ 48 ∷ 44 ∷ 50 ∷ 50 ∷ 44 ∷ 51 ∷ 48 ∷ 44 ∷ 48 ∷ 44 ∷ 48 ∷ 44 ∷ 45 ∷ 50 ∷ 50 ∷ 44 ∷ 45 ∷ 50 ∷ 56 ∷ 54 ∷ 48 ∷ 48 ∷ 10 ∷ []

-- `T,1,3,150,30,0,0,180`
abbrev total : List ℕ
total = 84 ∷ 44 ∷ 49 ∷ 44 ∷ 51 ∷ 44 ∷ 49 ∷ 53 ∷ 48 ∷ 44 ∷ 51 ∷ 48 ∷ 44 ∷ 48 ∷ 44 ∷ 48 ∷ 44 ∷ 49 ∷ 56 ∷ 48 ∷ 10 ∷ []

-- the paper's statement: these four lines
abbrev pub statement : List ℕ
statement = first ++ (second ++ (third ++ total))

-- ... is that of the ledger, by computing
pub worked : statement_text 1 plants ledger ≡ statement
unfolding sum column digits figure minus signed_figure commas_before by_commas line plant_line plant_lines total_line statement_text
worked = refl

-- The plant table as C lends it to a month file's calls: five columns of 512 places each (P is at most 512), one column after another, and the rows
-- that they hold. Assumes nothing.
use Rattle.std.specs.Prelude.{ℕ, ◌+◌, ◌*◌, List, [], ◌∷◌, cond, eqb, get_or, take, drop, set, length}
use Rattle.lists.specs.Lists.{table}
use Rattle.plants.specs.declared.Plant.{Plant}

-- the places of the five columns
abbrev pub table_places : ℕ
table_places = 5 * 512

-- n figures of column k, counted from 0 in the order of a P line
unfoldable pub column_of : ℕ → ℕ → List ℕ → List ℕ
column_of k n c = take n (drop (512 * k) c)

-- the record at place i of the columns
unfoldable pub row_at : List ℕ → ℕ → Plant
row_at c i =
    record {
      submarket = get_or c i 0;
      number = get_or c (512 + i) 0;
      guarantee = get_or c (1024 + i) 0;
      loss = get_or c (1536 + i) 0;
      availability = get_or c (2048 + i) 0;
    }

-- the plant table that the columns hold, of n rows
unfoldable pub rows_of : ℕ → List ℕ → List Plant
rows_of n c = table n (row_at c)

-- the whole table of just these columns; a list of more places or fewer is no table
unfoldable pub table_rows : List ℕ → List Plant
table_rows c = cond (eqb (length c) table_places) (rows_of 512 c) []

-- the columns with the record p at place i
unfoldable pub put_row : List ℕ → ℕ → Plant → List ℕ
put_row c i p =
    set
    (set
    (set (set (set c i p.submarket) (512 + i) p.number) (1024 + i) p.guarantee)
    (1536 + i)
    p.loss)
    (2048 + i)
    p.availability

-- the columns with the records ps from place i on
unfoldable pub put_rows : List ℕ → ℕ → List Plant → List ℕ
put_rows c i [] = c
put_rows c i (p ∷ ps) = put_rows (put_row c i p) (i + 1) ps

-- What is promised of the rows that columns hold. Assumes nothing.
use Rattle.std.specs.Prelude.{◌≡◌, ℕ, ◌≤◌, List, length}
use Rattle.plants.specs.declared.Plant.{Plant}
use Rattle.plants.specs.Table.{plants_of}
use Rattle.records.specs.Records.{column_of, put_rows, rows_of, table_places}

pub record Columns : Type 0 where
  -- rows that were read and are written back change nothing
  pub back : (c : List ℕ) → put_rows c 0 (rows_of 512 c) ≡ c
  -- the rows that are written are the rows that are read
  pub read : (c : List ℕ) (ps : List Plant) → table_places ≤ length c → length ps ≡ 512 → rows_of 512 (put_rows c 0 ps) ≡ ps
  -- the five columns, each for itself, make these rows
  pub made : (n : ℕ) (c : List ℕ) → table_places ≤ length c → n ≤ 512
      → plants_of (column_of 0 n c) (column_of 1 n c) (column_of 2 n c) (column_of 3 n c) (column_of 4 n c) ≡ rows_of n c

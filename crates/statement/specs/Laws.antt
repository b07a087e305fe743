-- What holds of every statement within document 01's limits. Assumes nothing.
use Rattle.std.specs.Prelude.{◌≡◌, true, List, [], map, ℕ, ◌*◌, ◌≤◌, length}
use Rattle.lists.specs.Lists.{Within}
use Rattle.plants.specs.declared.Plant.{Plant}
use Rattle.plants.specs.Table.{plants_of}
use Rattle.ledger.specs.Ledger.{Ledger, in_bounds}
use Rattle.statement.specs.Statement.{statement_text, room_for}
use Rattle.statement.specs.Lengths.{statement_length}

-- what the statement's questions ask of its figures
pub record InLimits (settled : ℕ) (plants : List Plant) (l : Ledger) : Type 0 where
  -- 2: P; 3 and 14, with H + 1 due at most: periods settled
  pub few : length plants ≤ 512
  pub periods : settled ≤ 744
  -- 5 and 6
  pub submarkets : Within (map (λ (p : Plant). p.submarket) plants) 4
  pub numbers : Within (map (λ (p : Plant). p.number) plants) 999999
  -- 11
  pub figures : length l.allotted ≡ 4 * length plants
  pub nets : length l.accounts ≡ 2 * length plants
  -- 19
  pub bounded : in_bounds l ≡ true

-- of a statement's length, and of what it shows of the plant table
pub record Promised : Type 0 where
  -- what 22 asks for is enough: a statement takes at most 128P + 128 bytes
  pub fits : (settled : ℕ) (plants : List Plant) (l : Ledger) → InLimits settled plants l → length (statement_text settled plants l) ≤ room_for (length plants)
  -- the length is worked from the figures
  pub sized : (settled : ℕ) (plants : List Plant) (l : Ledger) → length (statement_text settled plants l) ≡ statement_length settled plants l
  -- of the plant table only submarkets and numbers are shown: tables that agree in them have one statement
  pub shown : (settled : ℕ) (ps qs : List Plant) (l : Ledger) → map (λ (p : Plant). p.submarket) ps ≡ map (λ (p : Plant). p.submarket) qs
      → map (λ (p : Plant). p.number) ps ≡ map (λ (p : Plant). p.number) qs → statement_text settled ps l ≡ statement_text settled qs l
  -- ... so do those that two columns and any other three make
  pub columns : (settled : ℕ) (ss ns gs ls vs : List ℕ) (l : Ledger) → statement_text settled (plants_of ss ns gs ls vs) l ≡ statement_text settled (plants_of ss ns [] [] []) l

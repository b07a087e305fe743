-- What is promised of a field by its start and its length. Assumes nothing.
use Rattle.std.specs.Prelude.{◌≡◌, ℕ, ◌+◌, ◌≤◌, List, length, take, drop}
use Rattle.lines.specs.Fields.{field_bytes}
use Rattle.places.specs.Parts.{field_place}

-- start and length mark the very bytes that the field call hands back, inside the line
pub record Parts : Type 0 where
  pub inside : (line : List ℕ) (index : ℕ) → (field_place line index).start + (field_place line index).length ≤ length line
  pub bytes : (line : List ℕ) (index : ℕ)
      → take (field_place line index).length (drop (field_place line index).start line) ≡ field_bytes line index

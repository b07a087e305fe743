-- A field of a line as a C program gets it: a part of the line cannot cross, so it is its start and its length. Assumes nothing.
use Rattle.std.specs.Prelude.{ℕ, List, length}
use Rattle.lines.specs.Fields.{field_number, field_bytes, field_start}
use Rattle.places.specs.declared.FieldPlace.{FieldPlace}

-- the part that the field call hands back (`lines`, Fields); refused, zeros: "an empty part"
unfoldable pub field_place : List ℕ → ℕ → FieldPlace
field_place line index = record { number = field_number line index; start = field_start line index; length = length (field_bytes line index) }

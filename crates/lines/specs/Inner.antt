-- What the contracts of the functions below the calls say. Assumes nothing.
use Rattle.std.specs.Prelude.{◌≡◌, List, [], ◌∷◌, map, ℕ, ◌≤◌, leb, ltb, length, take, drop}
use Rattle.lists.specs.Lists.{every}
use Rattle.lists.specs.Questions.{Question, ◌⁇◌}
use Rattle.figures.specs.Figures.{value, is_figure}
use Rattle.lines.specs.Fields.{longest, to_comma, fields}
use Rattle.lines.specs.Reading.{line_start, line_fields, count_fits, start_number}
use Rattle.lines.specs.declared.reading.ReadLine.{ReadLine}

-- the bytes before the first comma
unfoldable pub first_field : List ℕ → List ℕ
first_field l = take (to_comma l) l

-- a field starts at a position of the line: the fields from its index on are those from there on
pub record Starts (line : List ℕ) (index position : ℕ) : Type 0 where
  pub inside : position ≤ length line
  pub there : drop index (fields line) ≡ fields (drop position line)

-- the questions before that of room
abbrev pub read_questions : List ℕ → List Question
read_questions line =
    leb (length line) longest ⁇ 26
    ∷ ltb 0 (line_start line) ⁇ 27
    ∷ count_fits (line_start line) (length (line_fields line)) ⁇ 28
    ∷ every is_figure (line_fields line) ⁇ 29
    ∷ []

-- a line read: its start, and its figures at the front of a list
pub record ReadTo (line : List ℕ) (read : ReadLine) (list : List ℕ) : Type 0 where
  pub start : start_number read.start ≡ line_start line
  pub count : read.fields ≡ length (line_fields line)
  pub few : read.fields ≤ 513
  pub figures : take read.fields list ≡ map value (line_fields line)

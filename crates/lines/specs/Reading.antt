-- Reading a line, its end byte 10 removed: document 01, 'Reading a line'. Assumes nothing.
use Rattle.std.specs.Prelude.{ℕ, Option, Some, None, Result, Ok, Err, Bool, true, false, cond, ◌&&◌, List, [], ◌∷◌, ◌++◌, map, eqb, leb, ltb, length, drop}
use Rattle.lists.specs.Lists.{every}
use Rattle.lists.specs.Questions.{◌⁇◌, first_no, in_range, outcome}
use Rattle.figures.specs.Figures.{value, is_figure}
use Rattle.lines.specs.Fields.{longest, fields}
use Rattle.refusals.specs.declared.Refusal.{Refusal}
use Rattle.refusals.specs.Numbers.{refusal_number}
use Rattle.lines.specs.declared.reading.Line.{Line}
use Rattle.lines.specs.declared.reading.ReadLine.{ReadLine}
use Rattle.lines.specs.declared.reading.Start.{Start}
use Rattle.lines.specs.declared.reading.Start.TheVariants.{Month, Plant, Period, Meter}

-- does the line begin with these bytes?
unfoldable pub starts_with : List ℕ → List ℕ → Bool
starts_with [] line = true
starts_with (b ∷ bs) [] = false
starts_with (b ∷ bs) (x ∷ line) = eqb x b && starts_with bs line

-- question 27: the starts `MRE,1,`, `P,`, `H,` and `G,`
abbrev pub month_start : List ℕ
month_start = 77 ∷ 82 ∷ 69 ∷ 44 ∷ 49 ∷ 44 ∷ []

abbrev pub plant_start : List ℕ
plant_start = 80 ∷ 44 ∷ []

abbrev pub period_start : List ℕ
period_start = 72 ∷ 44 ∷ []

abbrev pub meter_start : List ℕ
meter_start = 71 ∷ 44 ∷ []

-- which start a line has, as a number from 1 to 4; 0 where it has none
unfoldable pub line_start : List ℕ → ℕ
line_start line =
    cond (starts_with month_start line) 1
    (cond (starts_with plant_start line) 2
    (cond (starts_with period_start line) 3
    (cond (starts_with meter_start line) 4
    0)))

-- how many bytes the start has
unfoldable pub start_length : ℕ → ℕ
start_length start = cond (eqb start 1) 6 2

-- the fields after the start
unfoldable pub line_fields : List ℕ → List (List ℕ)
line_fields line = fields (drop (start_length (line_start line)) line)

-- question 28: "Number of fields after that start 3, 5, 2, or 2 to 513?"
unfoldable pub count_fits : ℕ → ℕ → Bool
count_fits start count =
    cond (eqb start 1) (eqb count 3)
    (cond (eqb start 2) (eqb count 5)
    (cond (eqb start 3) (eqb count 2)
    (in_range 2 513 count)))

-- the number of a start, and of the start that was found
abbrev pub start_number : Start → ℕ
start_number Month = 1
start_number Plant = 2
start_number Period = 3
start_number Meter = 4

abbrev pub found : Option Start → ℕ
found None = 0
found (Some start) = start_number start

-- the questions, with as many places in the figure list
unfoldable pub read_number : List ℕ → ℕ → ℕ
read_number line places =
    first_no
    (leb (length line) longest ⁇ 26
    ∷ ltb 0 (line_start line) ⁇ 27
    ∷ count_fits (line_start line) (length (line_fields line)) ⁇ 28
    ∷ every is_figure (line_fields line) ⁇ 29
    ∷ leb (length (line_fields line)) places ⁇ 30
    ∷ [])

-- what reading answers, and the figure list after it
pub record ReadEnd : Type 0 where
  pub answer : Line
  pub figures : List ℕ

-- refused: the number, and zeros in the other parts of the answer
abbrev pub refusal : ℕ → Line
refusal n = record { number = n; start = 0; fields = 0 }

-- an answer as C gets it
abbrev pub line_of : Result ReadLine Refusal → Line
line_of (Ok read) = record { number = 0; start = start_number read.start; fields = read.fields }
line_of (Err r) = refusal (refusal_number r)

-- accepted, the figures stand at the front of the list and the rest of it stays; refused, nothing is written
unfoldable pub read_call : List ℕ → List ℕ → ReadEnd
read_call line figures =
    outcome (read_number line (length figures))
    (record {
      answer = record { number = 0; start = line_start line; fields = length (line_fields line) };
      figures = map value (line_fields line) ++ drop (length (line_fields line)) figures;
    })
    (λ n. record { answer = refusal n; figures = figures })

-- The file that document 01 shows gives the statement that it shows, byte for byte, and some refusals, by computing. Assumes nothing.
use Rattle.std.specs.Prelude.{◌≡◌, refl, ℕ}
use mathlib.Core.List.{List, [], ◌∷◌, ◌++◌, flatten}
use Rattle.lists.specs.Lists.{sum, sumℤ, every, at_most}
use Rattle.lists.specs.Columns.{rowwise, joined, totals, transpose, column}
use Rattle.lists.specs.Questions.{◌then◌, first_no, in_range, outcome}
use Rattle.signed.specs.Figures.{is_within, accounts_of}
use Rattle.sharing.specs.Sharing.{parts, share}
use Rattle.transfer.specs.Transfer.{serve, transfer}
use Rattle.blocks.specs.Portion.{portion}
use Rattle.cover.specs.Cover.{own, own_parts, table, got, rest}
use Rattle.hour.specs.Hour.{hour_of, modulated, guaranteed, submarkets, guarantees, secondary, covered, deficit, surplus, left_over, rights, own_cover, cover_got, own_secondary, secondary_got, cover_table, secondary_table, figure, nets, allotment}
use Rattle.ledger.specs.Ledger.{in_bounds, zeros, added}
use Rattle.figures.specs.Figures as text
use Rattle.lines.specs.Fields.{to_first, fields}
use Rattle.lines.specs.Reading.{starts_with, line_start, start_length, line_fields, count_fits, read_number}
use Rattle.questions.specs.Questions.{sizes_number, placed, numbered, row_number, rows_number, lengths_number, tables_number}
use Rattle.month.specs.Questions.{is_open, is_blank, open_number, own_number, metered_number, inputs_number, posted, bounds_number, settle_number, close_number}
use Rattle.month.specs.Calls.{open_call, settle_call, close_call}
use Rattle.month.specs.Statement.{statement_of}
use Rattle.statement.specs.Worked.{statement}
use Rattle.statement.specs.Statement.{line, plant_line, plant_lines, total_line, statement_text}
use Rattle.file_lines.specs.File.{unfinished, lines_after, lines, plant_of, in_turn, begun, opened, settled, taken, read, next, refusal, printed, following, settled_file}

-- `MRE,1,1,3,1300` and its byte 10
abbrev sizes : List ℕ
sizes = 77 ∷ 82 ∷ 69 ∷ 44 ∷ 49 ∷ 44 ∷ 49 ∷ 44 ∷ 51 ∷ 44 ∷ 49 ∷ 51 ∷ 48 ∷ 48 ∷ 10 ∷ []

-- `P,1,10,100,1000000,1000000` and its byte 10
abbrev plant10 : List ℕ
plant10 = 80 ∷ 44 ∷ 49 ∷ 44 ∷ 49 ∷ 48 ∷ 44 ∷ 49 ∷ 48 ∷ 48 ∷ 44 ∷ 49 ∷ 48 ∷ 48 ∷ 48 ∷ 48 ∷ 48 ∷ 48 ∷ 44 ∷ 49 ∷ 48 ∷ 48 ∷ 48 ∷ 48 ∷ 48 ∷ 48 ∷ 10 ∷ []

-- `P,1,11,50,1000000,1000000` and its byte 10
abbrev plant11 : List ℕ
plant11 = 80 ∷ 44 ∷ 49 ∷ 44 ∷ 49 ∷ 49 ∷ 44 ∷ 53 ∷ 48 ∷ 44 ∷ 49 ∷ 48 ∷ 48 ∷ 48 ∷ 48 ∷ 48 ∷ 48 ∷ 44 ∷ 49 ∷ 48 ∷ 48 ∷ 48 ∷ 48 ∷ 48 ∷ 48 ∷ 10 ∷ []

-- `P,2,20,60,1000000,1000000` and its byte 10
abbrev plant20 : List ℕ
plant20 = 80 ∷ 44 ∷ 50 ∷ 44 ∷ 50 ∷ 48 ∷ 44 ∷ 54 ∷ 48 ∷ 44 ∷ 49 ∷ 48 ∷ 48 ∷ 48 ∷ 48 ∷ 48 ∷ 48 ∷ 44 ∷ 49 ∷ 48 ∷ 48 ∷ 48 ∷ 48 ∷ 48 ∷ 48 ∷ 10 ∷ []

-- `H,1,180` and its byte 10
abbrev hour1 : List ℕ
hour1 = 72 ∷ 44 ∷ 49 ∷ 44 ∷ 49 ∷ 56 ∷ 48 ∷ 10 ∷ []

-- `G,1,130,20,30`
abbrev meters : List ℕ
meters = 71 ∷ 44 ∷ 49 ∷ 44 ∷ 49 ∷ 51 ∷ 48 ∷ 44 ∷ 50 ∷ 48 ∷ 44 ∷ 51 ∷ 48 ∷ []

-- ... and its byte 10
abbrev meters1 : List ℕ
meters1 = meters ++ (10 ∷ [])

-- the file up to its last H line, and the file
abbrev opening : List ℕ
opening = sizes ++ (plant10 ++ (plant11 ++ (plant20 ++ hour1)))

abbrev file : List ℕ
file = opening ++ meters1

-- The paper's file prints the paper's statement; and some files that are refused
pub record Worked : Type 0 where
  shown : settled_file file ≡ statement
  -- no line at all: `R,1,31`, the early end
  empty : settled_file [] ≡ 82 ∷ 44 ∷ 49 ∷ 44 ∷ 51 ∷ 49 ∷ 10 ∷ []
  -- an empty line behind the last G line: `R,7,27`, read before its turn is asked
  blank_line : settled_file (file ++ (10 ∷ [])) ≡ 82 ∷ 44 ∷ 55 ∷ 44 ∷ 50 ∷ 55 ∷ 10 ∷ []
  -- a second G line: `R,7,31`
  one_more : settled_file (file ++ meters1) ≡ 82 ∷ 44 ∷ 55 ∷ 44 ∷ 51 ∷ 49 ∷ 10 ∷ []
  -- the last byte 10 left out: `R,6,31`
  unended : settled_file (opening ++ meters) ≡ 82 ∷ 44 ∷ 54 ∷ 44 ∷ 51 ∷ 49 ∷ 10 ∷ []
  -- the G line left out: `R,6,31`, the line after the last
  early : settled_file opening ≡ 82 ∷ 44 ∷ 54 ∷ 44 ∷ 51 ∷ 49 ∷ 10 ∷ []
  -- rows that do not rise: `R,5,6`, asked after the last H line
  asked : settled_file (sizes ++ (plant11 ++ (plant10 ++ (plant20 ++ hour1)))) ≡ 82 ∷ 44 ∷ 53 ∷ 44 ∷ 54 ∷ 10 ∷ []

pub worked : Worked
unfolding rowwise sum every at_most joined totals transpose flatten ◌then◌ first_no in_range outcome parts share serve transfer hour_of modulated guaranteed portion own own_parts table got rest submarkets guarantees secondary covered deficit surplus left_over rights own_cover cover_got own_secondary secondary_got cover_table secondary_table figure nets allotment accounts_of column sumℤ is_within in_bounds zeros added posted is_open is_blank sizes_number placed numbered row_number rows_number lengths_number tables_number open_number own_number metered_number inputs_number bounds_number settle_number close_number open_call settle_call close_call text.digits text.figure text.minus text.signed_figure text.commas_before text.by_commas text.value_from text.value text.is_digit text.leading_zero text.is_figure to_first fields starts_with line_start start_length line_fields count_fits read_number line plant_line plant_lines total_line statement_text statement_of unfinished lines_after lines plant_of in_turn begun opened settled taken read next refusal printed following settled_file
worked = record { shown = refl; empty = refl; blank_line = refl; one_more = refl; unended = refl; early = refl; asked = refl }

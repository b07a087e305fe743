-- Document 01's example month opened, settled and closed: the statement call writes the four lines that the paper shows, by computing. Assumes nothing.
use Rattle.std.specs.Prelude.{◌≡◌, refl, replicate}
use mathlib.Core.List.{◌++◌, flatten}
use Rattle.lists.specs.Lists.{sum, every, at_most}
use Rattle.lists.specs.Columns.{rowwise, joined, totals, transpose, column}
use Rattle.lists.specs.Questions.{◌then◌, first_no, in_range, outcome}
use Rattle.signed.specs.Figures.{is_within, accounts_of}
use Rattle.sharing.specs.Sharing.{parts, share}
use Rattle.transfer.specs.Transfer.{serve, transfer}
use Rattle.blocks.specs.Portion.{portion}
use Rattle.cover.specs.Cover.{own, own_parts, table, got, rest}
use Rattle.hour.specs.Hour.{hour_of, modulated, guaranteed, submarkets, guarantees, secondary, covered, deficit, surplus, left_over, rights, own_cover, cover_got, own_secondary, secondary_got, cover_table, secondary_table, figure, nets, allotment}
use Rattle.ledger.specs.Ledger.{in_bounds, zeros, added}
use Rattle.figures.specs.Figures.{digits, figure as figureText, minus, signed_figure, commas_before, by_commas}
use Rattle.statement.specs.Statement.{line, plant_line, plant_lines, total_line, statement_text, room_for}
use Rattle.statement.specs.Worked.{plants, statement}
use Rattle.questions.specs.Questions.{sizes_number, placed, numbered, row_number, rows_number, lengths_number, ledger_number, tables_number}
use Rattle.month.specs.Questions.{is_open, is_blank, open_number, own_number, metered_number, inputs_number, posted, bounds_number, settle_number, close_number, balance_number}
use Rattle.month.specs.Calls.{open_call, settle_call, balance_call, close_call}
use Rattle.demand.specs.Tally.{next, after}
use Rattle.demand.specs.Worked.{start, calls, closed}
use Rattle.month.specs.Statement.{due_number, sizing_number, statement_number, statement_of, statement_call}

-- 101 bytes with as many lent as 22 asks for, and 22 with a byte fewer
pub record Example : Type 0 where
  -- 22 asks for 128 × 3 + 128 bytes
  stated : let s = after start calls in
      statement_call s.month plants s.ledger (replicate 512 7)
      ≡ record { answer = record { number = 0; month = closed; length = 101 }; bytes = statement ++ replicate 411 7 }
  short : let s = after start calls in
      statement_call s.month plants s.ledger (replicate 511 7)
      ≡ record { answer = record { number = 22; month = closed; length = 0 }; bytes = replicate 511 7 }

pub example : Example
unfolding rowwise sum every at_most joined totals transpose flatten ◌then◌ first_no in_range outcome parts share serve transfer hour_of modulated guaranteed portion own own_parts table got rest submarkets guarantees secondary covered deficit surplus left_over rights own_cover cover_got own_secondary secondary_got cover_table secondary_table figure nets allotment accounts_of column is_within in_bounds zeros added posted is_open is_blank sizes_number placed numbered row_number rows_number lengths_number ledger_number tables_number open_number own_number metered_number inputs_number bounds_number settle_number close_number balance_number open_call settle_call balance_call close_call next after digits figureText minus signed_figure commas_before by_commas line plant_line plant_lines total_line statement_text room_for due_number sizing_number statement_number statement_of statement_call
example = record { stated = refl; short = refl }

-- What was fed so far are the bytes that the reader gave so far.
use mathlib.Core.Bool.{false}
use lib.ListN.{length}
use Rattle.file_lines.specs.Lists.{lent_lists, SameLists}
use Rattle.month_file.specs.Run.{place}
use Rattle.settle_month.specs.Input.{Taken}
use Rattle.settle_month.proofs.take_input.Given as goal

abbrev pub invariant-loop : goal.invariant-loop
invariant-loop g l =
    let o = l.initial in
    (Taken (g.R.Read.remaining o.input) (g.R.Read.remaining l.input) (length o.part) false (place o.file.state (lent_lists g.T.PlantRows.rows o.file) o.line) (place l.file.state (lent_lists g.T.PlantRows.rows l.file) l.line))
    × SameLists o.file l.file

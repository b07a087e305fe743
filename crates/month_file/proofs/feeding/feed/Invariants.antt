use Prim.Native.Nat.{◌-◌}
use lib.ListN.{length}
use Rattle.file_lines.specs.Lists.{lent_lists, SameLists}
use Rattle.month_file.proofs.Parts.{Feeding}
use Rattle.month_file.proofs.feeding.feed.Given as goal

abbrev pub invariant-loop-next : goal.invariant-loop-next
invariant-loop-next g l =
    Feeding l.part l.initial.line (lent_lists g.T.PlantRows.rows l.initial.file) l.initial.file.state l.line (lent_lists g.T.PlantRows.rows l.file) l.file.state l.at
    × SameLists l.initial.file l.file

abbrev pub decreases-loop-next : goal.decreases-loop-next
decreases-loop-next g l = length l.part - l.at

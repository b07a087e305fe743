use mathlib.Core.Path.{◌≡◌}
use lib.ListN.{length}
use Rattle.sharing.specs.Sharing.{share}
use Rattle.transfer.specs.Transfer.{serve}
use Rattle.blocks.specs.Portion.{portion}
use Rattle.blocks.specs.Blocks.{standing_at}
use Rattle.cover.proofs.Serving.{Giving}
use Rattle.cover.proofs.serve_rows.Given as goal

abbrev pub invariant-loop-g : goal.invariant-loop-g
invariant-loop-g l = (length l.part ≡ length l.initial.part)
    × Giving (standing_at l.blocks.starts) l.fn.table (serve (portion share (standing_at l.blocks.starts)) l.initial.want l.fn.table) l.initial.want l.initial.figures l.want l.figures l.still l.g

use mathlib.Core.Path.{◌≡◌}
use lib.ListN.{length}
use Rattle.sharing.specs.Sharing.{share}
use Rattle.blocks.specs.Portion.{portion}
use Rattle.blocks.specs.Blocks.{standing_at}
use Rattle.blocks.proofs.Shares.{Blocked}
use Rattle.blocks.proofs.Blocks.share.Given as goal

abbrev pub invariant-loop-s : goal.invariant-loop-s
invariant-loop-s l = (length l.part ≡ length l.initial.part) × Blocked l.self.starts l.columns (portion share (standing_at l.self.starts) l.amounts l.initial.want) l.initial.want l.initial.figures l.want l.figures l.s

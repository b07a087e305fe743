-- `writing::I64Figure::write` meets its contract. Assumes nothing.
use mathlib.Core.Path.{◌≡◌, ap, ◌∙◌}
use mathlib.Core.Bool.{true, false}
use native.Mathlib.Omega.{arith}
use lib.IntN.{pos, nat_abs}
use lib.ListN.{length-set}
use lib.Signed.{lt_z}
use mir.Facts.{to_z-of_z}
use Rattle.figures.specs.Figures.{figure_length, signed_figure_length}
use Rattle.signed.proofs.Machine.{tested}
use Rattle.figures.proofs.Signs.{length-below, length_above, wrote_below, wrote_above}
use Rattle.figures.proofs.writing.I64Figure.write.Goals as goal
use Rattle.figures.proofs.writing.I64Figure.write.Goals.{After-magnitude-x, Else-self-lt0, Then-self-lt0}

size : (c : After-magnitude-x) → c.magnitude-x.result ≡ nat_abs c.args.self
size c = c.magnitude-x.ensures ∙ ap nat_abs (to_z-of_z c.ranges.self)

below : (c : Then-self-lt0) → lt_z c.args.self (pos 0) ≡ true
below c = tested (to_z-of_z c.ranges.self) c.if-self-lt0.true

above : (c : Else-self-lt0) → lt_z c.args.self (pos 0) ≡ false
above c = tested (to_z-of_z c.ranges.self) c.if-self-lt0.false

pub bounds-text-at : goal.bounds-text-at
unfolding signed_figure_length
bounds-text-at c = omega (arith, length-below c.args.self (below c))

pub write-requires : goal.write-requires
unfolding figure_length signed_figure_length
write-requires c = simp length-set (omega (arith, ap figure_length (size (goal.at.write-requires c).After-magnitude-x), length-below c.args.self (below (goal.at.write-requires c).Then-self-lt0)))

pub returns-then-self-lt0 : goal.returns-then-self-lt0
unfolding signed_figure_length
returns-then-self-lt0 c = wrote_below c.args.self c.magnitude-x.result (size (goal.at.returns-then-self-lt0 c).After-magnitude-x) c.args.text.now c.args.at c.requires (below (goal.at.returns-then-self-lt0 c).Then-self-lt0) c.write.ensures

pub write-requires-2 : goal.write-requires-2
unfolding figure_length signed_figure_length
write-requires-2 c = omega (arith, ap figure_length (size (goal.at.write-requires-2 c).After-magnitude-x), length_above c.args.self (above (goal.at.write-requires-2 c).Else-self-lt0))

pub returns : goal.returns
unfolding signed_figure_length
returns c = wrote_above c.args.self c.magnitude-x.result (size (goal.at.returns c).After-magnitude-x) c.args.text.now c.args.at c.requires (above (goal.at.returns c).Else-self-lt0) c.write-2.ensures

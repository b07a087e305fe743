-- `writing::U64Figure::write` meets its contract. Assumes nothing.
use mathlib.Core.Path.{refl}
use Rattle.figures.specs.Figures.{figure_length}
use Rattle.figures.proofs.Decimal.{writing_more}
use Rattle.figures.proofs.writing.U64Figure.write.Goals as goal

pub loop-i-preserved : goal.loop-i-preserved
unfolding figure_length
loop-i-preserved c = writing_more c.loop-i.invariant c.loop-i-test.true c.requires refl

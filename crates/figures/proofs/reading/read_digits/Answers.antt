-- `reading::read_digits` meets its contract. Assumes nothing.
use Rattle.figures.proofs.Digits.{reading, reading_more}
use Rattle.figures.proofs.reading.read_digits.Goals as goal

pub loop-b-init : goal.loop-b-init
loop-b-init c = reading

pub loop-b-preserved : goal.loop-b-preserved
loop-b-preserved c = search reading_more

use Rattle.figures.proofs.Digits.{Reading}
use Rattle.figures.proofs.reading.read_digits.Given as goal

abbrev pub invariant-loop-b : goal.invariant-loop-b
invariant-loop-b l = Reading l.field l.value l.b-index

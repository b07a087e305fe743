use Rattle.figures.proofs.Decimal.{Writing}
use Rattle.figures.proofs.writing.U64Figure.write.Given as goal

abbrev pub invariant-loop-i : goal.invariant-loop-i
invariant-loop-i l = Writing l.self l.at l.initial.text l.i l.rest l.text

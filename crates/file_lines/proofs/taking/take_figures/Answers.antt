-- `taking::take_figures` meets its contract. Assumes nothing.
use Rattle.file_lines.proofs.Taken.{sizes-taken, meters-taken}
use Rattle.file_lines.proofs.taking.take_figures.Goals as goal

pub invariant_of-file : goal.invariant_of-file
invariant_of-file g c = record { valid = (c.begun-file.ensures _ c.args.file.now.valid.lent).valid }

pub returns-in-First-clause-moved : goal.returns-in-First-clause-moved
returns-in-First-clause-moved g c = sizes-taken _ _ _ c.in-First.is (c.begun-file.ensures _ c.args.file.now.valid.lent)

pub returns-in-Metering-clause-moved : goal.returns-in-Metering-clause-moved
returns-in-Metering-clause-moved g c = meters-taken _ _ c.args.figures.now c.in-Metering.is c.settle_line.ensures.moved

-- `gathering::gather` meets its contract. Assumes nothing.
use Rattle.file_lines.proofs.Gathered.{row_moved, figure_moved, last_moved}
use Rattle.file_lines.proofs.gathering.gather.Goals as goal

pub returns-then-row-state-clause-moved : goal.returns-then-row-state-clause-moved
returns-then-row-state-clause-moved g c = rw (c.put.ensures.placed, c.plant_of.ensures) (row_moved c.requires.0 c.args.file.now.valid c.args.figures.now c.if-row-state.true _ c.at_stage.ensures)

pub invariant_of-file : goal.invariant_of-file
invariant_of-file g c = record { valid = rw (c.put.ensures.placed, c.plant_of.ensures) (row_moved c.requires.0 c.args.file.now.valid c.args.figures.now c.if-row-state.true _ c.at_stage.ensures).valid }

pub returns-then-at-state-clause-moved : goal.returns-then-at-state-clause-moved
returns-then-at-state-clause-moved g c = figure_moved c.requires.0 c.args.file.now.valid c.args.figures.now c.if-row-state.false c.if-at-state.true _ c.at_stage-then-at-state.ensures

pub invariant_of-file-then-at-state : goal.invariant_of-file-then-at-state
invariant_of-file-then-at-state g c = record { valid = (figure_moved c.requires.0 c.args.file.now.valid c.args.figures.now c.if-row-state.false c.if-at-state.true _ c.at_stage-then-at-state.ensures).valid }

pub returns-clause-moved : goal.returns-clause-moved
returns-clause-moved g c = last_moved c.requires.0 c.args.file.now.valid c.args.figures.now c.if-row-state.false c.if-at-state.false c.open_month.ensures.moved

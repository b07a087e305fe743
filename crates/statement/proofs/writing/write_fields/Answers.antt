-- `writing::write_fields` meets its contract. The invariant: the fields of the figures from its index on are left to write. Assumes nothing.
use mathlib.Core.List.{◌∷◌}
use lib.ListN.{get_or}
use Rattle.figures.specs.Figures.{figure}
use Rattle.statement.proofs.Text.{fields-more, fields-none}
use Rattle.statement.proofs.Parts.{left-room, left-more, left-none}
use Rattle.statement.proofs.writing.write_fields.Goals as goal

pub write_field-end-requires : goal.write_field-end-requires
write_field-end-requires c = let figures = c.args.figures.now in
    (left-room c.loop-figure.invariant (44 ∷ figure (get_or figures c.loop-figure.figure-index 0)) _ (fields-more figures c.loop-figure.figure-index c.loop-figure-test.true)).fits

pub loop-figure-preserved : goal.loop-figure-preserved
loop-figure-preserved c = left-more c.loop-figure.invariant _ _ (fields-more _ _ c.loop-figure-test.true)
    c.write_field-end.ensures

pub returns : goal.returns
returns c = left-none c.loop-figure.invariant (fields-none _ _ c.loop-figure-test.false)

-- `taking::take_line` meets its contract. Assumes nothing.
use mathlib.Core.Path.{refl, sym, ◌∙◌}
use Rattle.lists.proofs.Parts.{front_count}
use Rattle.refusals.proofs.Asking.{refused_number}
use Rattle.file_lines.proofs.Taken.{places, many_places, reading_refused, fits, out_of_turn, figures_in_turn, line_taken}
use Rattle.file_lines.proofs.taking.take_line.Goals as goal

pub slice_bounds-figures-end : goal.slice_bounds-figures-end
slice_bounds-figures-end g c = fits c.args.file.now.valid c.requires _ places _ _ many_places c.in-Ok.ensures refl c.read_line.auto.figures

pub slice_bounds-take_figures-end : goal.slice_bounds-take_figures-end
slice_bounds-take_figures-end g c = front_count _ _ (fits c.args.file.now.valid c.requires _ places _ _ many_places c.in-Ok.ensures refl c.read_line.auto.figures)

pub take_figures-requires : goal.take_figures-requires
take_figures-requires g c = figures_in_turn c.args.file.now.valid c.requires _ places _ _ many_places c.in-Ok.ensures refl (sym c.in_turn.ensures ∙ c.if-in_turn.true)

pub returns-in-Ok-clause-moved : goal.returns-in-Ok-clause-moved
returns-in-Ok-clause-moved g c = line_taken c.args.file.now.valid c.requires _ places _ _ many_places c.in-Ok.ensures refl (sym c.in_turn.ensures ∙ c.if-in_turn.true) c.take_figures.ensures.moved

pub returns-in-Ok-2-clause-moved : goal.returns-in-Ok-2-clause-moved
returns-in-Ok-2-clause-moved g c = out_of_turn c.args.file.now.valid c.requires _ places _ _ many_places c.in-Ok.ensures refl _ c.refused-file.ensures (sym c.in_turn.ensures ∙ c.if-in_turn.false)

pub invariant_of-file : goal.invariant_of-file
invariant_of-file g c = record { valid = (out_of_turn c.args.file.now.valid c.requires _ places _ _ many_places c.in-Ok.ensures refl _ c.refused-file.ensures (sym c.in_turn.ensures ∙ c.if-in_turn.false)).valid }

pub returns-in-Err-clause-moved : goal.returns-in-Err-clause-moved
returns-in-Err-clause-moved g c = reading_refused c.args.file.now.valid c.requires _ places _ _ many_places c.in-Err.ensures _ c.refused-file-in-Err.ensures (λ z. refused_number c.in-Err.refusal z)

pub invariant_of-file-in-Err : goal.invariant_of-file-in-Err
invariant_of-file-in-Err g c = record { valid = (reading_refused c.args.file.now.valid c.requires _ places _ _ many_places c.in-Err.ensures _ c.refused-file-in-Err.ensures (λ z. refused_number c.in-Err.refusal z)).valid }

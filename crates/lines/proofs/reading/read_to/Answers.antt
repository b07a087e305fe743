-- `reading::read_to` meets its contract. Assumes nothing.
use mathlib.Core.Path.{◌≡◌, ap, ◌∙◌}
use Prim.Native.Nat.{ℕ}
use native.Mathlib.Omega.{arith}
use mathlib.Core.Bool.{cond}
use mathlib.Core.List.{map}
use lib.Dec.{leb}
use lib.ListN.{length}
use lib.Seq.{take_at, length-take-le}
use Rattle.std.specs.Prelude.{Option, Some, None, Result, Ok}
use Rattle.std.specs.Option.{ok_or}
use Rattle.std.proofs.lemmas.Result.{err_from_is_err_and}
use Rattle.refusals.specs.declared.Refusal.{Refusal}
use Rattle.refusals.specs.declared.Refusal.TheVariants.{LineStart}
use Rattle.refusals.proofs.Asking.{refused_number}
use Rattle.figures.specs.Figures.{value}
use Rattle.lines.specs.Reading.{line_start, start_number, found, start_length, count_fits}
use Rattle.lines.specs.declared.reading.Start.{Start}
use Rattle.lines.proofs.Starts.{start-room, start_some}
use Rattle.lines.proofs.Lines.{Begun, fields_behind, granted, number-28, number_rest, count_few}
use Rattle.lines.proofs.reading.read_to.Goals as goal
use Rattle.lines.proofs.reading.read_to.Goals.{In_ok-start, After-length, After-count_fields-fields, In_ok-ask-2}

is_found : (o : Option Start) (r : Refusal) {start : Start} → ◌≡◌ {A = Result Start Refusal} (Ok start) (ok_or o r) → start_number start ≡ found o
is_found None r e = absurd (cc)
is_found (Some start) r e = ap start_number cc

started : (c : In_ok-start) → start_number c.in_ok-start.start ≡ line_start c.args.line.now
started c = is_found c.line_start.result LineStart (c.in_ok-start.ensures).value ∙ c.line_start.ensures

size : (c : After-length) → c.length.result ≡ start_length (line_start c.args.line.now)
size c = c.length.ensures ∙ ap start_length (is_found c.line_start.result LineStart (c.in_ok-start.ensures).value ∙ c.line_start.ensures)

begun : (c : After-count_fields-fields) → Begun c.args.line.now c.in_ok-start.start c.count_fields-fields.result
begun c =
    let is = is_found c.line_start.result LineStart (c.in_ok-start.ensures).value ∙ c.line_start.ensures in
    record {
      short = granted (leb (length c.args.line.now) 8192) 26 (omega arith) c.in_ok-ask.ensures;
      is = is;
      counted = c.count_fields-fields.ensures ∙ ap length (fields_behind c.args.line.now (c.length.ensures ∙ ap start_length is));
    }

fit : (c : In_ok-ask-2) → ◌≡◌ {A = ℕ} 0 (cond (count_fits (start_number c.in_ok-start.start) c.count_fields-fields.result) 0 28)
fit c = rw c.fits.ensures at c.in_ok-ask-2.ensures

pub slice_bounds-bytes-count : goal.slice_bounds-bytes-count
slice_bounds-bytes-count c =
    rw (size c) (start-room c.args.line.now (λ z. start_some c.in_ok-start.start (started (goal.at.slice_bounds-bytes-count c).In_ok-start ∙ z)))

pub slice_bounds-bytes-start : goal.slice_bounds-bytes-start
slice_bounds-bytes-start c =
    rw (size c) (start-room c.args.line.now (λ z. start_some c.in_ok-start.start (started (goal.at.slice_bounds-bytes-start c).In_ok-start ∙ z)))

pub returns-in_err-ask-2-clause-number : goal.returns-in_err-ask-2-clause-number
returns-in_err-ask-2-clause-number c =
    let p = err_from_is_err_and c.from_residual-in_err-ask-2.result c.from_residual-in_err-ask-2.ensures.1 in
    rw (p.1, p.2) (number-28 (begun (goal.at.returns-in_err-ask-2-clause-number c).After-count_fields-fields) (refused_number _) (rw c.fits.ensures at c.in_err-ask-2.ensures))

pub slice_bounds-read_fields-end : goal.slice_bounds-read_fields-end
slice_bounds-read_fields-end c = omega (arith, count_few (begun (goal.at.slice_bounds-read_fields-end c).After-count_fields-fields) (fit c))

pub slice_bounds-read_fields-end-2 : goal.slice_bounds-read_fields-end-2
slice_bounds-read_fields-end-2 c =
    let few = count_few (begun (goal.at.slice_bounds-read_fields-end-2 c).After-count_fields-fields) (fit (goal.at.slice_bounds-read_fields-end-2 c).In_ok-ask-2) in
    omega (arith, length-take-le c.count_fields-fields.result c.args.figures.now (omega arith))

pub read_fields-requires : goal.read_fields-requires
read_fields-requires c =
    let few = count_few (begun (goal.at.read_fields-requires c).After-count_fields-fields) (fit (goal.at.read_fields-requires c).In_ok-ask-2) in
    length-take-le c.count_fields-fields.result c.args.figures.now (omega arith) ∙ c.count_fields-fields.ensures

pub returns-in_err-read_fields-clause-number : goal.returns-in_err-read_fields-clause-number
returns-in_err-read_fields-clause-number c =
    let at = goal.at.returns-in_err-read_fields-clause-number c in
    let p = err_from_is_err_and c.from_residual-in_err-read_fields.result c.from_residual-in_err-read_fields.ensures.1 in
    rw (p.1, p.2) (number_rest (begun at.After-count_fields-fields) (fit at.In_ok-ask-2) (rw (fields_behind c.args.line.now (size at.After-length)) at (c.in_err-read_fields.ensures).number))

pub returns-clause-number : goal.returns-clause-number
returns-clause-number c =
    let at = goal.at.returns-clause-number c in
    number_rest (begun at.After-count_fields-fields) (fit at.In_ok-ask-2) (rw (fields_behind c.args.line.now (size at.After-length)) at (c.in_ok-read_fields.ensures).number)

pub returns-clause-read : goal.returns-clause-read
returns-clause-read c =
    let at = goal.at.returns-clause-read c in
    let k = begun at.After-count_fields-fields in
    let few = count_few k (fit at.In_ok-ask-2) in
    let long : length c.read_fields.new.figures ≡ c.count_fields-fields.result = c.read_fields.auto.figures ∙ length-take-le c.count_fields-fields.result c.args.figures.now (omega arith) in
    record {
      start = k.is;
      count = k.counted;
      few = few;
      figures = take_at c.read_fields.new.figures _ c.count_fields-fields.result long ∙ (c.in_ok-read_fields.ensures).figures ∙ ap (map value) (fields_behind c.args.line.now (size at.After-length));
    }

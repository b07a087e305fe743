-- A line that is read and, in turn, taken. Assumes nothing.
use mathlib.Core.Path.{◌≡◌, refl, sym, ap, ◌∙◌}
use mathlib.Core.Logic.{◌≢◌, by_cases}
use mathlib.Core.Bool.{Bool, true, false, cond}
use mathlib.Core.List.{List, map}
use Prim.Native.Nat.{ℕ, ◌+◌, ◌-◌, ◌≤◌, ◌<◌}
use native.Mathlib.Decide.{dec_lt}
use native.Mathlib.Omega.{arith}
use borrow.Author.Tests.{eqb-true, lt-ltb, le-ltb}
use lib.Dec.{eqb}
use lib.ListN.{length, take, drop, get_or, replicate, length-map, length-replicate, length-drop, get_or-append}
use lib.Seq.{length-take-le, take_at, take_all}
use Rattle.lists.proofs.Questions.{accepted, both}
use Rattle.figures.specs.Figures.{value}
use Rattle.lines.specs.Reading.{line_start, line_fields, count_fits, read_number, ReadEnd, read_call}
use Rattle.lines.specs.declared.reading.Line.{Line}
use Rattle.lines.proofs.Commas.{fields-some}
use Rattle.lines.proofs.Accepted.{Read, read_number_lem, read-start, read_count, read-figures, read-yes, month-fields, plant-fields, period-fields, meter_fields}
use Rattle.file_lines.specs.declared.FileStage.{FileStage}
use Rattle.file_lines.specs.declared.FileStage.TheVariants as stage
use Rattle.file_lines.specs.declared.FileStage.TheVariants.{First, Metering, Refused}
use Rattle.file_lines.specs.declared.MonthFile.{MonthFile}
use Rattle.file_lines.specs.File as file
use Rattle.file_lines.specs.File.{whole, Progress, begins, settles, sizes_named, in_turn, begun, taken, read}
use Rattle.file_lines.specs.State.{is_refused, Kept, ledger_of, progress_at, progress_of, turn_at, turn, Valid, Moved, at_refusal, settled_of, Figured}
use Rattle.file_lines.proofs.Moves.{by_stage, moved_as, refused_moved, refuses-by}
use Rattle.file_lines.proofs.Gathered.{gathers_is}

-- one of the stages before a refusal
pub before_refusal {ℓ} : {A : Type ℓ} (s : FileStage) → s ≢ Refused → (s ≡ First → A) → (s ≡ stage.Gathering → A) → (s ≡ Metering → A) → A
before_refusal s h a b c = by_stage s a b c (λ e. absurd (h e))

module _ (f : MonthFile) (k : Kept) where
  pub begins_is : f.stage ≡ First → progress_of f k ≡ begins
  unfolding progress_at progress_of
  begins_is e = rw e

  pub settles_is : f.stage ≡ Metering
      → progress_of f k ≡ settles (take f.month.plants k.plants) (take f.month.periods k.profile) f.month (ledger_of f.month.plants k)
  unfolding progress_at progress_of
  settles_is e = rw e

  -- ---- the figures of a line in turn

  pub sizes-taken : (figures : List ℕ) {r : MonthFile} {q : Kept} → f.stage ≡ First
      → Moved f (begun (f.count + 1) (sizes_named figures)) r q
      → Moved f (taken (f.count + 1) (progress_of f k) figures) r q
  unfolding taken
  sizes-taken figures {r} {q} e m = moved_as f q m.valid.lent m refl (ap (λ (p : Progress). taken (f.count + 1) p figures) (sym (begins_is e)))

  pub meters-taken : (figures : List ℕ) {r : MonthFile} {q : Kept} → f.stage ≡ Metering
      → Moved f (settled_of f k (take (length figures - 1) (drop 1 figures))) r q → Moved f (taken (f.count + 1) (progress_of f k) figures) r q
  unfolding taken settled_of
  meters-taken figures {r} {q} e m =
      moved_as f q m.valid.lent m refl
      (ap (settled_of f k) (take_all (length figures - 1) (drop 1 figures) (omega (arith, length-drop 1 figures))) ∙ ap (λ (p : Progress). taken (f.count + 1) p figures) (sym (settles_is e)))

module _ {f : MonthFile} {k : Kept} (v : Valid f k) (due : f.stage ≢ Refused) where
  pub unrefused : is_refused (progress_of f k) ≡ false
  unfolding is_refused progress_at progress_of
  unrefused = before_refusal f.stage due (λ e. rw e) (λ e. rw e) (λ e. rw e)

  -- 31
  module _ (start : ℕ) (figures : List ℕ) where
    first-turn : f.stage ≡ First → turn f start (get_or figures 0 0) ≡ in_turn (progress_of f k) start figures
    unfolding turn_at turn in_turn
    first-turn e = rw (begins_is f k e, e)

    gather_turn_lem : f.stage ≡ stage.Gathering → turn f start (get_or figures 0 0) ≡ in_turn (progress_of f k) start figures
    unfolding turn_at turn in_turn
    gather_turn_lem e =
        let g = v.gathering e in
        rw (
          gathers_is f k e,
          e,
          length-take-le f.rows k.plants (omega (arith, g.rows, g.plants, v.lent.plants)),
          length-take-le f.figures k.profile (omega (arith, g.periods, g.figures, v.lent.profile)),
        )

    meter_turn_lem : f.stage ≡ Metering → turn f start (get_or figures 0 0) ≡ in_turn (progress_of f k) start figures
    unfolding turn_at turn in_turn
    meter_turn_lem e = rw (settles_is f k e, e)

    turn_is : turn f start (get_or figures 0 0) ≡ in_turn (progress_of f k) start figures
    turn_is = before_refusal f.stage due first-turn gather_turn_lem meter_turn_lem

  -- how many figures a line in turn has
  module _ (start period n : ℕ) (fits : count_fits start n ≡ true) (t : turn f start period ≡ true) where
    three : f.stage ≡ First → n ≡ 3
    unfolding turn_at turn
    three e = month-fields n (rw (eqb-true start 1 (rw e at t)) at fits)

    five : f.stage ≡ stage.Gathering → f.rows < f.plants → n ≡ 5
    unfolding turn_at turn
    five e h = plant-fields n (rw (eqb-true start 2 (rw (e, lt-ltb f.rows f.plants h) at t)) at fits)

    two : f.stage ≡ stage.Gathering → f.plants ≤ f.rows → n ≡ 2
    unfolding turn_at turn
    two e h =
        let b = both (eqb start 3) _ (rw (e, le-ltb f.rows f.plants h) at t) in
        period-fields n (rw (eqb-true start 3 b.0) at fits)

    more : f.stage ≡ Metering → 2 ≤ n
    unfolding turn_at turn
    more e = let b = both (eqb start 4) _ (rw e at t) in (meter_fields n (rw (eqb-true start 4 b.0) at fits)).0

    gathering-some : f.stage ≡ stage.Gathering → 2 ≤ n
    gathering-some e = by_cases (dec_lt f.rows f.plants) (λ h. omega (arith, five e h)) (λ h. omega (arith, two e (omega (arith, h))))

    figured : (figures : List ℕ) → length figures ≡ n → Figured f figures
    figured figures l =
        record {
          due = due;
          some = before_refusal f.stage due (λ e. omega (arith, l, three e)) (λ e. omega (arith, l, gathering-some e)) (λ e. omega (arith, l, more e));
          sizes = λ e. omega (arith, l, three e);
          row = λ e h. omega (arith, l, five e h);
        }

-- ---- the line

-- the places for its figures, before it is read
abbrev pub places : List ℕ
places = replicate 513 0

pub many_places : length places ≡ 513
many_places = length-replicate {A = ℕ} 513 0

-- 26 to 30, with 513 places for its figures
pub line-number : (line old : List ℕ) {answer : Line} {new : List ℕ} → length old ≡ 513
    → ◌≡◌ {A = ReadEnd} (record { answer = answer; figures = new }) (read_call line old) → answer.number ≡ read_number line 513
line-number line old many e = read_number_lem line old e ∙ ap (read_number line) many

module _ {f : MonthFile} {k : Kept} (v : Valid f k) (due : f.stage ≢ Refused) (line old new : List ℕ) (answer : Line) (many : length old ≡ 513)
    (e : ◌≡◌ {A = ReadEnd} (record { answer = answer; figures = new }) (read_call line old)) where
  pub reading_refused : (r : MonthFile) → r ≡ at_refusal f answer.number → (answer.number ≡ 0 → ⊥)
      → Moved f (read (f.count + 1) (progress_of f k) (whole line)) r k
  unfolding read
  reading_refused r q z = refuses-by f k v.lent r answer.number (read_number line 513) _ q (line-number line old many e) z

  module _ (z : answer.number ≡ 0) where
    abbrev figures : List ℕ
    figures = map value (line_fields line)

    yes : Read line (length old)
    yes = read-yes line old e z

    count_is : length figures ≡ answer.fields
    count_is = length-map (line_fields line) value ∙ sym (read_count line old e z)

    -- the front of the list holds the line's figures
    pub front : take answer.fields new ≡ figures
    front = ap (take answer.fields) (read-figures line old e z) ∙ take_at figures _ answer.fields count_is

    pub fits : length new ≡ length old → answer.fields ≤ length new
    fits l = omega (arith, l, yes.room, read_count line old e z)

    some-fields : 0 < length figures
    unfolding line_fields
    some-fields = rw (length-map (line_fields line) value) (fields-some _)

    first_field_lem : get_or new 0 0 ≡ get_or figures 0 0
    first_field_lem = ap (λ (l : List ℕ). get_or l 0 0) (read-figures line old e z) ∙ get_or-append figures _ 0 0 some-fields

    abbrev is_turn_lem : Bool
    is_turn_lem = turn f answer.start (get_or new 0 0)

    asks_turn : is_turn_lem ≡ in_turn (progress_of f k) (line_start line) figures
    asks_turn = rw (first_field_lem, read-start line old e z) (turn_is v due (line_start line) figures)

    reads_as : (t : Bool) → in_turn (progress_of f k) (line_start line) figures ≡ t
        → read (f.count + 1) (progress_of f k) (whole line) ≡ cond t (taken (f.count + 1) (progress_of f k) figures) (file.refuses (f.count + 1) 31)
    unfolding read
    reads_as t h = accepted _ _ _ (sym (line-number line old many e) ∙ z) ∙ rw h

    -- out of turn
    pub out_of_turn : (r : MonthFile) → r ≡ at_refusal f 31 → is_turn_lem ≡ false → Moved f (read (f.count + 1) (progress_of f k) (whole line)) r k
    out_of_turn r q t = moved_as f k v.lent (refused_moved f k v.lent 31) (sym q) (sym (reads_as false (sym asks_turn ∙ t)))

    -- in turn
    module _ (t : is_turn_lem ≡ true) where
      pub figures_in_turn : Figured f (take answer.fields new)
      figures_in_turn = figured v due answer.start (get_or new 0 0) answer.fields (rw (read-start line old e z, read_count line old e z) yes.fits) t _ (ap length front ∙ count_is)

      pub line_taken : {r : MonthFile} {q : Kept} → Moved f (taken (f.count + 1) (progress_of f k) (take answer.fields new)) r q
          → Moved f (read (f.count + 1) (progress_of f k) (whole line)) r q
      line_taken {r} {q} m = moved_as f q m.valid.lent m refl (ap (taken (f.count + 1) (progress_of f k)) front ∙ sym (reads_as true (sym asks_turn ∙ t)))

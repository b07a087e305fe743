-- What a caller learns of a line that was read: for those who go on with its figures. Assumes nothing.
use mathlib.Core.Path.{◌≡◌, sym, ap, ◌∙◌}
use mathlib.Core.Bool.{true}
use mathlib.Core.List.{List, ◌++◌, map}
use Prim.Native.Nat.{ℕ, ◌≤◌, ◌<◌}
use borrow.Author.Tests.{leb-true, ltb-true, eqb-true}
use lib.ListN.{length, drop}
use Rattle.lists.specs.Lists.{every}
use Rattle.lists.proofs.Questions.{asked, limits, accepted, number_itself, outcome-part}
use Rattle.figures.specs.Figures.{value, is_figure}
use Rattle.lines.specs.Fields.{longest}
use Rattle.lines.specs.Reading.{line_start, line_fields, count_fits, read_number, ReadEnd, read_call}
use Rattle.lines.specs.declared.reading.Line.{Line}

-- ---- the questions answered yes

pub record Read (line : List ℕ) (places : ℕ) : Type 0 where
  pub short : length line ≤ longest
  pub started : 0 < line_start line
  pub fits : count_fits (line_start line) (length (line_fields line)) ≡ true
  pub figures : every is_figure (line_fields line) ≡ true
  pub room : length (line_fields line) ≤ places

pub read : (line : List ℕ) (places : ℕ) → read_number line places ≡ 0 → Read line places
unfolding read_number
read line places e =
    let a = asked _ _ _ tt e in
    let b = asked _ _ _ tt a.1 in
    let c = asked _ _ _ tt b.1 in
    let d = asked _ _ _ tt c.1 in
    let f = asked _ _ _ tt d.1 in
    record {
      short = leb-true (length line) longest a.0;
      started = ltb-true 0 (line_start line) b.0;
      fits = c.0;
      figures = d.0;
      room = leb-true (length (line_fields line)) places f.0;
    }

-- ---- the parts of what the call leaves

module _ (line old : List ℕ) {answer : Line} {new : List ℕ} (e : ◌≡◌ {A = ReadEnd} (record { answer = answer; figures = new }) (read_call line old)) where
  -- the number is that of the questions
  pub read_number_lem : answer.number ≡ read_number line (length old)
  unfolding read_call
  read_number_lem =
      ap (λ (r : ReadEnd). r.answer.number) e ∙ outcome-part (λ (r : ReadEnd). r.answer.number) (read_number line (length old)) _ _
      ∙ number_itself (read_number line (length old))

  module _ (z : answer.number ≡ 0) where
    none : read_number line (length old) ≡ 0
    none = sym read_number_lem ∙ z

    pub read-start : answer.start ≡ line_start line
    unfolding read_call
    read-start = ap (λ (r : ReadEnd). r.answer.start) (e ∙ accepted _ _ _ none)

    pub read_count : answer.fields ≡ length (line_fields line)
    unfolding read_call
    read_count = ap (λ (r : ReadEnd). r.answer.fields) (e ∙ accepted _ _ _ none)

    pub read-figures : new ≡ map value (line_fields line) ++ drop (length (line_fields line)) old
    unfolding read_call
    read-figures = ap (λ (r : ReadEnd). r.figures) (e ∙ accepted _ _ _ none)

    pub read-yes : Read line (length old)
    read-yes = read line (length old) none

-- ---- how many fields each start has

pub month-fields : (n : ℕ) → count_fits 1 n ≡ true → n ≡ 3
unfolding count_fits
month-fields n e = eqb-true n 3 e

pub plant-fields : (n : ℕ) → count_fits 2 n ≡ true → n ≡ 5
unfolding count_fits
plant-fields n e = eqb-true n 5 e

pub period-fields : (n : ℕ) → count_fits 3 n ≡ true → n ≡ 2
unfolding count_fits
period-fields n e = eqb-true n 2 e

pub meter_fields : (n : ℕ) → count_fits 4 n ≡ true → (2 ≤ n) × (n ≤ 513)
unfolding count_fits
meter_fields n e = limits 2 513 n e

-- Laws of reading: a loop that reads the fields of a line to a list, and what the call answers. Assumes nothing.
use mathlib.Core.Path.{◌≡◌, refl, sym, ap, ◌∙◌}
use mathlib.Core.Logic.{by_cases}
use mathlib.Core.Bool.{Bool, true, false, false≢true, cond}
use mathlib.Core.List.{List, [], ◌∷◌, ◌++◌, map, map-append}
use Prim.Native.Nat.{ℕ, ◌+◌, ◌-◌, ◌≤◌, ◌<◌}
use native.Mathlib.Numerals.{add-one}
use native.Mathlib.Decide.{dec_lt}
use native.Mathlib.Omega.{arith}
use lib.Dec.{leb, ltb}
use lib.ListN.{length, take, drop, get_or, set, length-set, length-drop, drop_of_length-le}
use lib.Seq.{take-suc-set, take-suc, take_all}
use Rattle.std.specs.Prelude.{Option, Some, None, Ok}
use Rattle.lists.specs.Lists.{every}
use Rattle.lists.specs.Questions.{◌then◌, ◌⁇◌, first_no}
use Rattle.lists.proofs.Loops.{Passing, passing, passing_more, halted, passed, drop_more}
use Rattle.lists.proofs.Questions.{no, then_yes, refuses, accepts}
use Rattle.figures.specs.Figures.{value, is_figure, ReadAs}
use Rattle.lines.specs.Fields.{longest, fields}
use Rattle.lines.specs.Reading.{line_start, start_length, line_fields, count_fits, start_number, read_number, refusal, ReadEnd, read_call, line_of}
use Rattle.lines.specs.Inner.{read_questions, ReadTo}
use Rattle.lines.specs.declared.reading.ReadLine.{ReadLine}
use Rattle.lines.specs.declared.reading.Start.{Start}
use Rattle.lines.specs.declared.reading.Start.TheVariants.{Month, Plant, Period, Meter}
use Rattle.lines.proofs.Starts.{too_many}

-- ---- a loop that reads fields

-- i fields are read
pub record Gathering (fs : List (List ℕ)) (i : ℕ) (figures : List ℕ) : Type 0 where
  pub same : length figures ≡ length fs
  pub tested : Passing is_figure fs (drop i fs)
  pub written : take i figures ≡ map value (take i fs)

module _ {fs : List (List ℕ)} {figures : List ℕ} where
  pub gathering : length figures ≡ length fs → Gathering fs 0 figures
  gathering e = record { same = e; tested = passing; written = refl }

  module _ {i : ℕ} (g : Gathering fs i figures) where
    module _ (h : i < length fs) {f : List ℕ} (e : f ≡ get_or fs i []) {o : Option ℕ} (r : ReadAs (is_figure f) f o) where
      pub gathering_more : {v : ℕ} → o ≡ Some v → Gathering fs (i + 1) (set figures i v)
      gathering_more {v} s =
          let good : is_figure f ≡ true = sym r.said ∙ rw s in
          let worth : v ≡ value f = rw (s, good) at r.stands in
          let inside : i < length figures = omega (arith, g.same) in
          record {
            same = length-set figures i v ∙ g.same;
            tested = passing_more g.tested (drop_more fs i [] h) (sym (ap is_figure e) ∙ good);
            written = rw (add-one, take-suc-set figures i v inside, take-suc fs i [] h, ← e, map-append, worth, g.written);
          }

      pub gathering_stopped : o ≡ None → 29 ≡ first_no (every is_figure fs ⁇ 29 ∷ [])
      gathering_stopped s = no _ 29 [] (sym (halted g.tested (drop_more fs i [] h) (sym (ap is_figure e) ∙ sym r.said ∙ rw s)))

    module _ (h : length fs ≤ i) where
      pub gathered_number : 0 ≡ first_no (every is_figure fs ⁇ 29 ∷ [])
      unfolding first_no
      gathered_number = rw (← passed g.tested (drop_of_length-le fs {i = i} h))

      pub gathered : figures ≡ map value fs
      gathered = sym (take_all i figures (omega (arith, g.same))) ∙ g.written ∙ ap (map value) (take_all i fs h)

-- ---- the questions, with what a step has found

refused : (b : Bool) {n k : ℕ} → (n ≡ 0 → ⊥) → n ≡ cond b 0 k → (b ≡ false) × (n ≡ k)
refused true h e = absurd (h e)
refused false h e = (refl, e)

pub granted : (b : Bool) (k : ℕ) → 0 < k → ◌≡◌ {A = ℕ} 0 (cond b 0 k) → b ≡ true
granted true k h e = refl
granted false k h e = absurd (omega arith)

start_above : (start : Start) → ltb 0 (start_number start) ≡ true
start_above Month = refl
start_above Plant = refl
start_above Period = refl
start_above Meter = refl

-- the fields behind the start
pub fields_behind : (line : List ℕ) {n : ℕ} → n ≡ start_length (line_start line) → fields (take (length line - n) (drop n line)) ≡ line_fields line
unfolding line_fields
fields_behind line {n} e = ap fields (take_all (length line - n) (drop n line) (omega (arith, length-drop n line))) ∙ ap (λ (n : ℕ). fields (drop n line)) e

-- a start is found, and its fields are counted
pub record Begun (line : List ℕ) (start : Start) (count : ℕ) : Type 0 where
  pub short : leb (length line) longest ≡ true
  pub is : start_number start ≡ line_start line
  pub counted : count ≡ length (line_fields line)

module _ {line : List ℕ} {start : Start} {count : ℕ} (k : Begun line start count) where
  pub number-28 : {n : ℕ} → (n ≡ 0 → ⊥) → n ≡ cond (count_fits (start_number start) count) 0 28 → n ≡ first_no (read_questions line)
  unfolding first_no
  number-28 h e = let q = refused (count_fits (start_number start) count) h e in rw (k.short, ← k.is, start_above start, ← k.counted, q.0) q.1

  module _ (e : ◌≡◌ {A = ℕ} 0 (cond (count_fits (start_number start) count) 0 28)) where
    fits : count_fits (start_number start) count ≡ true
    fits = granted (count_fits (start_number start) count) 28 (omega arith) e

    pub number_rest : {n : ℕ} → n ≡ first_no (every is_figure (line_fields line) ⁇ 29 ∷ []) → n ≡ first_no (read_questions line)
    unfolding first_no
    number_rest p = rw (k.short, ← k.is, start_above start, ← k.counted, fits) p

    pub count_few : count ≤ 513
    count_few = by_cases (dec_lt 513 count) (λ h. absurd (false≢true (sym (too_many (start_number start) count h) ∙ fits))) (λ h. omega arith)

-- ---- what the call leaves

abbrev answered : Bool → Bool → Bool → Bool → ℕ → ℕ
answered a b c d n = cond a (cond b (cond c (cond d n 29) 28) 27) 26

-- the last question is put where the others are answered yes
split_last : (a b c d : Bool) (n : ℕ) → answered a b c d n ≡ answered a b c d 0 then n
unfolding ◌then◌
split_last false b c d n = refl
split_last true false c d n = refl
split_last true true false d n = refl
split_last true true true false n = refl
split_last true true true true n = refl

pub number_split : (line : List ℕ) (places : ℕ) → read_number line places ≡ first_no (read_questions line) then cond (leb (length (line_fields line)) places) 0 30
unfolding read_number first_no
number_split line places =
    split_last (leb (length line) longest) (ltb 0 (line_start line)) (count_fits (line_start line) (length (line_fields line))) (every is_figure (line_fields line)) (cond (leb (length (line_fields line)) places) 0 30)

module _ (line old : List ℕ) where
  pub refused_with : {n : ℕ} → (n ≡ 0 → ⊥) → n ≡ read_number line (length old) → ◌≡◌ {A = ReadEnd} (record { answer = refusal n; figures = old }) (read_call line old)
  unfolding read_call
  refused_with {n} h e = refuses n (read_number line (length old)) _ _ _ e h refl

  pub accepted_with : {read : ReadLine} {list after : List ℕ} → 0 ≡ first_no (read_questions line) → ReadTo line read list → ◌≡◌ {A = ℕ} 0 (cond (leb read.fields (length old)) 0 30)
      → after ≡ take read.fields list ++ drop read.fields old → ◌≡◌ {A = ReadEnd} (record { answer = line_of (Ok read); figures = after }) (read_call line old)
  unfolding read_call
  accepted_with {read} e r room a =
      accepts 0 (read_number line (length old)) _ _ _
      (then_yes _ _ 0 e (rw r.count at room) ∙ sym (number_split line (length old))) refl (rw (a, r.figures, r.start, r.count))

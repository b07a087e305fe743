-- The end of the file: the refusal, or the statement after close. Assumes nothing.
use mathlib.Core.Path.{◌≡◌, refl, sym, ap, subst, ◌∙◌}
use mathlib.Core.Logic.{◌≢◌}
use mathlib.Core.Bool.{false}
use mathlib.Core.List.{List, [], ◌∷◌, ◌++◌}
use Prim.Native.Nat.{ℕ, ◌+◌, ◌-◌, ◌*◌, ◌^◌, ◌≤◌, ◌<◌}
use native.Mathlib.Omega.{arith}
use borrow.Author.Tests.{eq-eqb, ne_eqb}
use lib.ListN.{length, take, length-append}
use lib.Seq.{length-take-le}
use Rattle.lists.specs.Questions.{outcome}
use Rattle.lists.proofs.Questions.{accepted, refuses, outcome-part, same_either}
use Rattle.figures.specs.Figures.{commas_before}
use Rattle.lines.specs.Reading.{read_number, ReadEnd, read_call}
use Rattle.lines.specs.declared.reading.Line.{Line}
use Rattle.figures.proofs.Decimal.{length-le-20}
use Rattle.plants.specs.declared.Plant.{Plant}
use Rattle.ledger.specs.Ledger.{Ledger}
use Rattle.month.specs.declared.Month.{Month}
use Rattle.month.specs.Answers as month
use Rattle.questions.proofs.Asked.{rows-shown}
use Rattle.month.specs.Questions.{close_number}
use Rattle.month.specs.Calls.{close_call}
use Rattle.month.specs.Statement.{statement_of}
use Rattle.statement.specs.Laws.{InLimits}
use Rattle.statement.specs.Lengths.{fields_length, leading_length}
use Rattle.statement.specs.Writing.{leading, Fills}
use Rattle.statement.proofs.Text.{line_is, length-leading}
use Rattle.statement.proofs.Parts.{Left, left-whole}
use Rattle.file_lines.specs.declared.FileStage.TheVariants.{Metering, Refused}
use Rattle.file_lines.specs.declared.MonthFile.{MonthFile}
use Rattle.file_lines.specs.File as file
use Rattle.file_lines.specs.File.{unfinished, Progress, read, refusal, printed, following}
use Rattle.month_file.specs.Bytes.{finished}
use Rattle.file_lines.specs.State.{Kept, ledger_of, progress_at, progress_of, Settling, Valid, at_stage, at_refusal}
use Rattle.month_file.specs.Machine.{reading_of, unended_number, Finishable, AtEnd}
use Rattle.file_lines.proofs.Following.{stays, reads}
use Rattle.month_file.proofs.Bytes.{unfinished-some}
use Rattle.file_lines.proofs.Gathered.{gathers_is}
use Rattle.file_lines.proofs.Opened.{ledger-long}
use Rattle.file_lines.proofs.Taken.{before_refusal, begins_is, settles_is, unrefused, line-number}
use Rattle.month_file.proofs.Parts.{refused-progress}

-- ---- the refusal's text, field by field

refusal_is : (k n : ℕ) → refusal k n ≡ leading 82 k n [] ++ (10 ∷ [])
unfolding refusal leading commas_before
refusal_is k n = line_is 82 (k ∷ n ∷ []) []

refusal-short : (k n : ℕ) → k < 2 ^ 64 → n < 2 ^ 64 → length (refusal k n) ≤ 44
unfolding leading_length fields_length
refusal-short k n a b =
    let x = length-le-20 k a in
    let y = length-le-20 n b in
    rw (refusal_is k n) (omega (arith, length-append (leading 82 k n []) (10 ∷ []), length-leading 82 k n []))

pub refusal-left : (k n : ℕ) (text : List ℕ) → k < 2 ^ 64 → n < 2 ^ 64 → 44 ≤ length text
    → Left (refusal k n) 0 text 0 text (leading 82 k n [] ++ (10 ∷ []))
refusal-left k n text a b h = left-whole (record { fits = omega (arith, refusal-short k n a b) }) (refusal_is k n)

-- ---- a line without its byte 10

module _ (f : MonthFile) (line old new : List ℕ) (answer : Line) (many : length old ≡ 513)
    (e : ◌≡◌ {A = ReadEnd} (record { answer = answer; figures = new }) (read_call line old)) where
  pub unended-refused : (r : MonthFile) → r ≡ at_refusal f answer.number → (answer.number ≡ 0 → ⊥) → r ≡ at_refusal f (unended_number line)
  unfolding unended_number
  unended-refused r q z = q ∙ ap (at_refusal f) (refuses answer.number (read_number line 513) 31 _ (λ n. n) (line-number line old many e) z refl)

  pub unended-31 : (r : MonthFile) → r ≡ at_refusal f 31 → answer.number ≡ 0 → r ≡ at_refusal f (unended_number line)
  unfolding unended_number
  unended-31 r q z = q ∙ ap (at_refusal f) (sym (accepted (read_number line 513) 31 (λ n. n) (sym (line-number line old many e) ∙ z)))

unended_reads : (k : ℕ) (p : Progress) (bytes : List ℕ) → read k p (record { bytes = bytes; ended = false }) ≡ file.refuses k (unended_number bytes)
unfolding read unended_number
unended_reads k p bytes = sym (outcome-part (file.refuses k) (read_number bytes 513) 31 (λ n. n))

-- ---- the state after the last byte

module _ {f : MonthFile} {k : Kept} (v : Valid f k) (line : List ℕ) where
  pub ended-refused : f.stage ≡ Refused → AtEnd f k line f
  unfolding finished reading_of printed
  ended-refused s =
      record {
        prints = rw (refused-progress f k s) (stays f.count f.count f.number (unfinished (take f.length line)));
        finishable = λ h. absurd (h s);
      }

  -- refused at the end
  at-refusal : (n : ℕ) (r : MonthFile) → r ≡ at_refusal f n → finished (reading_of f k line) ≡ refusal (f.count + 1) n → AtEnd f k line r
  unfolding printed progress_at progress_of at_refusal at_stage
  at-refusal n r e p = record { prints = rw e p; finishable = λ h. absurd (h (ap (λ (m : MonthFile). m.stage) e)) }

  module _ (due : f.stage ≢ Refused) where
    pub ended-line : f.length ≤ length line → (f.length ≡ 0 → ⊥) → (r : MonthFile) → r ≡ at_refusal f (unended_number (take f.length line)) → AtEnd f k line r
    unfolding finished reading_of following printed
    ended-line fits some r e =
        at-refusal _ r e
        (rw (unfinished-some (take f.length line) (omega (arith, length-take-le f.length line fits)))
        (ap (printed (f.count + 1)) (reads (f.count + 1) (progress_of f k) _ (unrefused v due) ∙ unended_reads (f.count + 1) (progress_of f k) (take f.length line))))

    module _ (none : f.length ≡ 0) where
      no_line : finished (reading_of f k line) ≡ printed f.count (progress_of f k)
      unfolding finished reading_of following unfinished
      no_line = rw none

      pub ended-early : (f.stage ≡ Metering → ⊥) → (r : MonthFile) → r ≡ at_refusal f 31 → AtEnd f k line r
      unfolding printed
      ended-early h r e =
          at-refusal 31 r e (no_line ∙ before_refusal f.stage due (λ q. ap (printed f.count) (begins_is f k q)) (λ q. ap (printed f.count) (gathers_is f k q)) (λ q. absurd (h q)))

      pub ended-short : f.stage ≡ Metering → f.month.due ≤ f.month.periods → (r : MonthFile) → r ≡ at_refusal f 31 → AtEnd f k line r
      unfolding printed
      ended-short h d r e =
          at-refusal 31 r e (no_line ∙ ap (printed f.count) (settles_is f k h) ∙ rw (ne_eqb f.month.due (f.month.periods + 1) (λ q. omega arith)))

      pub ended-settled : f.stage ≡ Metering → f.month.periods < f.month.due → AtEnd f k line f
      ended-settled h d =
          record { prints = no_line; finishable = λ _. record { valid = v; settling = h; last = omega (arith, (v.settling h).counted.due) } }

-- ---- the statement after close

-- close leaves the period that is due
close_due : (m : Month) → (close_call m).month.due ≡ m.due
unfolding close_call
close_due m = outcome-part (λ (r : month.Ended). r.month.due) (close_number m) _ _ ∙ same_either (close_number m) m.due

module _ {f : MonthFile} {k : Kept} (w : Finishable f k) (end : month.Ended) (e : end ≡ close_call f.month) where
  abbrev m : Month
  m = f.month

  abbrev rows : List Plant
  rows = take m.plants k.plants

  abbrev ledger : Ledger
  ledger = ledger_of m.plants k

  g : Settling f k
  g = w.valid.settling w.settling

  prints : printed f.count (progress_of f k) ≡ outcome end.number (statement_of end.month rows ledger) (refusal f.count)
  unfolding printed
  prints = ap (printed f.count) (settles_is f k w.settling) ∙ rw (eq-eqb m.due (m.periods + 1) w.last, ← e)

  month-due : end.month.due ≡ m.due
  month-due = ap (λ (r : month.Ended). r.month.due) e ∙ close_due m

  pub some-due : 1 ≤ end.month.due
  some-due = omega (arith, month-due, w.last)

  pub in_limits : InLimits (end.month.due - 1) rows ledger
  unfolding ledger_of
  in_limits =
      let long = ledger-long k w.valid.lent m.plants g.counted.plants in
      let same = length-take-le m.plants k.plants (omega (arith, g.counted.plants, w.valid.lent.plants)) in
      record {
        few = omega (arith, same, g.counted.plants);
        periods = omega (arith, month-due, w.last, g.counted.periods);
        submarkets = (rows-shown rows g.rows).0;
        numbers = (rows-shown rows g.rows).1;
        figures = long.allotted ∙ ap (λ (n : ℕ). 4 * n) (sym same);
        nets = long.accounts ∙ ap (λ (n : ℕ). 2 * n) (sym same);
        bounded = g.bounded;
      }

  module _ {before : List ℕ} {n : ℕ} {after : List ℕ} where
    pub closing_stated : end.number ≡ 0 → Fills (statement_of end.month rows ledger) before n after → Fills (printed f.count (progress_of f k)) before n after
    closing_stated z = subst (λ (t : List ℕ). Fills t before n after) (sym (prints ∙ accepted end.number _ (refusal f.count) z))

    pub closing_refused : (end.number ≡ 0 → ⊥) → Fills (refusal f.count end.number) before n after → Fills (printed f.count (progress_of f k)) before n after
    closing_refused z = subst (λ (t : List ℕ). Fills t before n after) (refuses end.number end.number _ _ (refusal f.count) refl z refl ∙ sym prints)

-- ---- what is printed

module _ {f : MonthFile} {k : Kept} {line : List ℕ} {r : MonthFile} (e : AtEnd f k line r) {before : List ℕ} {n : ℕ} {after : List ℕ} where
  pub finishes : Fills (printed r.count (progress_of r k)) before n after → Fills (finished (reading_of f k line)) before n after
  finishes h = subst (λ (t : List ℕ). Fills t before n after) (sym e.prints) h

  pub finishes_refused : r.stage ≡ Refused → Fills (refusal r.count r.number) before n after → Fills (finished (reading_of f k line)) before n after
  unfolding printed
  finishes_refused s h = finishes (subst (λ (t : List ℕ). Fills t before n after) (ap (printed r.count) (sym (refused-progress r k s))) h)

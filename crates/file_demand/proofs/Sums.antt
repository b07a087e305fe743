-- A whole file is settled and adds up, and any other is refused. Assumes nothing.
use mathlib.Core.Path.{◌≡◌, refl, sym, ap, ap₂, subst, ◌∙◌}
use mathlib.Core.List.{List, [], ◌∷◌, ◌++◌, map, head-eq_of_cons-eq, tail-eq_of_cons-eq}
use Prim.Native.Nat.{ℕ, ◌+◌, ◌≤◌, ◌<◌}
use native.Mathlib.Omega.{arith}
use native.Mathlib.Nat.{sub-zero}
use borrow.Author.Tests.{eqb-true, eq-eqb}
use lib.ListN.{length, get_or, replicate, length-map}
use Rattle.lists.proofs.Questions.{accepted, asked, parted}
use Rattle.lines.specs.Reading.{line_start}
use Rattle.plants.specs.declared.Plant.{Plant}
use Rattle.ledger.specs.Ledger.{Ledger}
use Rattle.figures.specs.Figures.{by_commas}
use Rattle.statement.specs.Statement.{line, plant_line, plant_lines, total_line, statement_text}
use Rattle.questions.specs.Questions.{sizes_number}
use Rattle.questions.proofs.Asked as question
use Rattle.month.specs.Questions.{open_number}
use Rattle.demand.specs.Tally.{number, entries}
use Rattle.file_lines.specs.File.{FileLine, whole, lines, begins, in_turn, begun, taken, refusal, printed, following, settled_file}
use Rattle.file_lines.specs.State.{is_refused}
use Rattle.file_demand.specs.Sums.{sizes_in, plants_in, profile_in, metered_in, Readable, WholeFile, SettledAs, SettledAs·holds, Outcome, settled, refused, Outcome·holds}
use Rattle.month.proofs.Accepted.{open_number_lem}
use Rattle.file_demand.proofs.Followed as followed
use Rattle.file_demand.proofs.Followed.{Followed, holds, on, by_number, IsRead, by-line, line_taken, next-line, count}
use Rattle.file_demand.proofs.Worked.{text_of, states}
use Rattle.file_demand.proofs.Planted.{Planted, planting, planted}

-- ---- a whole file is settled

module _ {ls : List FileLine} (w : WholeFile ls) where
  abbrev plants : List Plant
  plants = plants_in w.plant_lines

  abbrev profile : List ℕ
  profile = profile_in w.profile_lines

  abbrev text : List ℕ
  text = text_of plants profile (sizes_in w.first).tariff (metered_in w.meter_lines)

  -- 2 to 4 of the first line are those of the open
  sizes_zero : sizes_number (sizes_in w.first).plants (sizes_in w.first).periods (sizes_in w.first).tariff ≡ 0
  unfolding open_number number entries
  sizes_zero =
      let z = sym (open_number_lem _ _ _ _ _) ∙ head-eq_of_cons-eq w.accepted in
      let rows : length plants ≡ (sizes_in w.first).plants = length-map w.plant_lines _ ∙ count w.plant_lines _ 2 w.rows in
      let hours : length profile ≡ (sizes_in w.first).periods = length-map w.profile_lines _ ∙ count w.profile_lines _ 3 w.profile.starts in
      ap₂ (λ p h. sizes_number p h (sizes_in w.first).tariff) (sym rows) (sym hours) ∙ (parted _ _ (asked _ _ _ tt z).1).0

  is_text : following 0 begins ls ≡ text
  unfolding is_refused in_turn taken begun
  is_text =
      let given = w.plant_lines ++ (w.profile_lines ++ w.meter_lines) in
      let r = subst (λ (l : List FileLine). Readable l) w.is_file w.readable in
      ap (following 0 begins) w.is_file
      ∙ line_taken 0 begins w.first (map whole given) refl (head-eq_of_cons-eq r) (eq-eqb _ _ w.begins) (accepted _ _ _ sizes_zero)
      ∙ planted (sizes_in w.first) (question.sizes _ _ _ _ refl sizes_zero).some_periods 1 [] w.plant_lines w.profile_lines w.meter_lines
      (w.rows ∙ ap (λ (n : ℕ). replicate n 2) (sym (sub-zero (sizes_in w.first).plants))) w.profile w.meters (tail-eq_of_cons-eq r) w.accepted

  is_settled : SettledAs w (following 0 begins ls)
  is_settled = states plants profile (sizes_in w.first).tariff (metered_in w.meter_lines) w.accepted (following 0 begins ls) is_text

pub whole-settled : SettledAs·holds
unfolding settled_file
whole-settled bytes w = is_settled w

-- ---- any other is refused: a statement begins with `A` or `T`, and a refusal with `R`

statement-begins : (n : ℕ) (plants : List Plant) (l : Ledger) (line number : ℕ) → statement_text n plants l ≡ refusal line number → ⊥
unfolding statement_text plant_lines plant_line total_line by_commas line refusal
statement-begins n [] l j k e = omega (arith, ap (λ (t : List ℕ). get_or t 0 0) e)
statement-begins n (p ∷ ps) l j k e = omega (arith, ap (λ (t : List ℕ). get_or t 0 0) e)

-- the first line
begin : (x : FileLine) (ls : List FileLine) → IsRead x → line_start x.bytes ≡ 1 → Planted (sizes_in x.bytes) [] ls → WholeFile (x ∷ ls)
begin x ls w is1 r =
    let all = next-line w r.are_lines in
    record {
      first = x.bytes;
      plant_lines = r.ps;
      profile_lines = r.hs;
      meter_lines = r.gs;
      is_file = all.is_lines;
      readable = all.readable;
      begins = is1;
      rows = r.rows ∙ ap (λ (n : ℕ). replicate n 2) (sub-zero (sizes_in x.bytes).plants);
      profile = r.profiles;
      meters = r.meters;
      accepted = r.accepts;
    }

refuses : (ls : List FileLine) (line number : ℕ) → 1 ≤ line → line ≤ length ls + 1 → 0 < number → following 0 begins ls ≡ refusal line number
    → Outcome ls (following 0 begins ls)
refuses ls k n low high some e = refused k n low high some e (λ w. statement-begins _ _ _ k n (sym (is_settled w).is_statement ∙ e))

all_lines : (ls : List FileLine) → Outcome ls (following 0 begins ls)
unfolding following printed is_refused in_turn taken begun
all_lines [] = refuses [] 1 31 (omega arith) (omega arith) (omega arith) refl
all_lines (x ∷ ls) =
    let s = sizes_in x.bytes in
    decided
    (by-line 0 begins x ls
    (λ w t. by_number (sizes_number s.plants s.periods s.tariff) 1 _ ls
    (λ z. on (begin x ls w (eqb-true (line_start x.bytes) 1 t)) (planting s (question.sizes _ _ _ _ refl z).some_periods 1 [] ls)))
    refl)
  where
    decided : Followed (WholeFile (x ∷ ls)) 1 ls (following 0 begins (x ∷ ls)) → Outcome (x ∷ ls) (following 0 begins (x ∷ ls))
    decided (holds w) = settled w (is_settled w)
    decided (followed.refused k n low high some e) = refuses (x ∷ ls) k n low (omega (arith, high)) some e

pub either : Outcome·holds
unfolding settled_file
either bytes = all_lines (lines bytes)

-- H lines, and the opening after the last: a line is refused, or the H and G lines are a whole file's, and then they are stated. Assumes nothing.
use mathlib.Core.Path.{◌≡◌, refl, sym, ap, ap₂, subst, ◌∙◌}
use mathlib.Core.Bool.{Bool, true, false, cond}
use mathlib.Core.List.{List, [], ◌∷◌, ◌++◌, map, append_assoc, append-nil, head-eq_of_cons-eq, tail-eq_of_cons-eq}
use Prim.Native.Nat.{ℕ, ◌+◌, ◌-◌, ◌≤◌, ◌<◌}
use native.Mathlib.Omega.{arith}
use borrow.Author.Tests.{eqb-true, eqb-false, eq-eqb, ne_eqb}
use lib.Dec.{eqb, ltb}
use lib.ListN.{length, get_or, length-append}
use Rattle.lists.proofs.Questions.{accepted, both}
use Rattle.lines.specs.Reading.{line_start}
use Rattle.plants.specs.declared.Plant.{Plant}
use Rattle.ledger.specs.Ledger.{zeros}
use Rattle.month.specs.declared.Month.{Month}
use Rattle.month.specs.Questions.{open_number}
use Rattle.month.specs.Calls.{blank, opened_month, OpenEnd, open_call}
use Rattle.demand.specs.Tally as call
use Rattle.demand.specs.Tally.{number, after, entries}
use Rattle.file_lines.specs.File.{FileLine, whole, Sizes, Progress, gathers, figures_of, in_turn, opened, taken, printed, following}
use Rattle.file_lines.specs.State.{is_refused}
use Rattle.file_demand.specs.Sums.{profile_in, metered_in, file_calls, unopened, Accepted, Rising, Readable}
use Rattle.month.proofs.Accepted.{open_number_lem}
use Rattle.file_demand.proofs.Followed.{Followed, on, later, ended-early, by_number, IsRead, by-line, line_taken, AreLines, next-line, count, no_lines, one_line, after_one, rising_as}
use Rattle.file_demand.proofs.Metered.{Due, Metered, metering, metered}
use Rattle.file_demand.proofs.Worked.{text_of}

-- the calls of a file with these G lines are accepted
abbrev pub Calls : List Plant → List ℕ → ℕ → List (List ℕ) → Type 0
Calls plants profile tariff gs = Accepted (unopened plants) (file_calls plants profile tariff (metered_in gs))

-- ... and then the given lines are stated
abbrev pub Stating : ℕ → Progress → List (List ℕ) → List Plant → List ℕ → ℕ → List (List ℕ) → Type 0
Stating k p given plants profile tariff gs = Calls plants profile tariff gs → following k p (map whole given) ≡ text_of plants profile tariff (metered_in gs)

module _ (plants : List Plant) (profile : List ℕ) (tariff : ℕ) where
  abbrev is_opened : OpenEnd
  is_opened = open_call blank plants profile tariff (zeros (length plants))

  opened-month : is_opened.answer.number ≡ 0
      → is_opened.answer.month ≡ opened_month (length plants) (length profile) tariff
  unfolding open_call
  opened-month z =
      let open-zero : open_number blank plants profile tariff (zeros (length plants)) ≡ 0 = sym (open_number_lem blank plants profile tariff (zeros (length plants))) ∙ z in
      ap (λ (r : OpenEnd). r.answer.month) (accepted (open_number blank plants profile tariff (zeros (length plants))) _ _ open-zero)

pub record Profiled (s : Sizes) (plants : List Plant) (profile : List ℕ) (ls : List FileLine) : Type 0 where
  pub hs : List (List ℕ)
  pub gs : List (List ℕ)
  pub are_lines : AreLines ls (hs ++ gs)
  pub profiles : Rising 3 (length profile + 1) (s.periods - length profile) hs
  pub meters : Rising 4 1 s.periods gs
  pub accepts : Calls plants (profile ++ profile_in hs) s.tariff gs

abbrev longer : List ℕ → List ℕ → List ℕ
longer profile x = profile ++ (get_or (figures_of x) 1 0 ∷ [])

one_more_lem : (profile x : List ℕ) → length (longer profile x) ≡ length profile + 1
one_more_lem profile x = length-append profile (get_or (figures_of x) 1 0 ∷ [])

-- the plant table is whole, so that H lines are due, and after the last the month is opened
module _ (s : Sizes) (plants : List Plant) (full : ltb (length plants) s.plants ≡ false) where
  abbrev done : List ℕ → OpenEnd
  done profile = is_opened plants profile s.tariff

  abbrev pub gathered : ℕ → List ℕ → Progress
  gathered k profile = cond (eqb (length profile) s.periods) (opened k s plants profile) (gathers s plants profile)

  hour-taken : (k : ℕ) (profile x : List ℕ) → taken k (gathers s plants profile) (figures_of x) ≡ gathered k (longer profile x)
  unfolding taken
  hour-taken k profile x = rw full refl

  pub no-hour : 0 < s.periods → (k : ℕ) → gathered k [] ≡ gathers s plants []
  no-hour h k = rw (ne_eqb 0 s.periods (λ e. omega (arith, h, e))) refl

  module _ (profile : List ℕ) where
    opens : length profile ≡ s.periods → (ls : List FileLine) → (done profile).answer.number ≡ 0
        → Metered plants profile (done profile).answer.month (done profile).ledger ls → Profiled s plants profile ls
    unfolding number call.next entries
    opens e ls z r =
        record {
          hs = [];
          gs = r.gs;
          are_lines = r.are_lines;
          profiles = rising_as refl (omega (arith, e)) (no_lines 3 (length profile + 1));
          meters = rising_as refl (omega (arith, e)) (subst (λ (m : Month). Due m r.gs) (opened-month plants profile s.tariff z) r.meters);
          accepts = subst (λ (h : List ℕ). Calls plants h s.tariff r.gs) (sym (append-nil profile)) (ap₂ (λ a b. a ∷ b) z r.accepts);
        }

    by_open : (k : ℕ) (ls : List FileLine) (b : Bool) → eqb (length profile) s.periods ≡ b
        → ((length profile ≡ s.periods → ⊥) → Followed (Profiled s plants profile ls) k ls (following k (gathers s plants profile) ls))
        → Followed (Profiled s plants profile ls) k ls (following k (cond b (opened k s plants profile) (gathers s plants profile)) ls)
    unfolding opened
    by_open k ls true e rest = by_number (done profile).answer.number k _ ls (λ z. on (opens (eqb-true _ _ e) ls z) (metering k plants profile _ _ ls))
    by_open k ls false e rest = rest (eqb-false (length profile) s.periods e)

    -- an H line in turn
    module _ (low : length profile < s.periods) (x : FileLine) (ls : List FileLine) where
      more-hours : IsRead x → in_turn (gathers s plants profile) (line_start x.bytes) (figures_of x.bytes) ≡ true
          → Profiled s plants (longer profile x.bytes) ls → Profiled s plants profile (x ∷ ls)
      unfolding in_turn
      more-hours w t r =
          let a = both (eqb (line_start x.bytes) 3) _ (rw full at t) in
          record {
            hs = x.bytes ∷ r.hs;
            gs = r.gs;
            are_lines = next-line w r.are_lines;
            profiles =
                rising_as refl (omega (arith, low, one_more_lem profile x.bytes))
                (one_line (eqb-true (line_start x.bytes) 3 a.0) (eqb-true (get_or (figures_of x.bytes) 0 0) (length profile + 1) a.1)
                (rising_as (ap (λ (n : ℕ). n + 1) (one_more_lem profile x.bytes)) refl r.profiles));
            meters = r.meters;
            accepts = subst (λ (h : List ℕ). Calls plants h s.tariff r.gs) (append_assoc profile (get_or (figures_of x.bytes) 1 0 ∷ []) (profile_in r.hs)) r.accepts;
          }

  pub profiling : (k : ℕ) (profile : List ℕ) → length profile ≤ s.periods → (ls : List FileLine)
      → Followed (Profiled s plants profile ls) k ls (following k (gathered k profile) ls)
  unfolding following printed is_refused
  profiling k profile h [] = by_open profile k [] _ refl (λ _. ended-early k)
  profiling k profile h (x ∷ ls) =
      by_open profile k (x ∷ ls) _ refl
      (λ e. let low : length profile < s.periods = omega (arith, h, e) in
      later (by-line k (gathers s plants profile) x ls
      (λ w t. subst (λ (p : Progress). Followed (Profiled s plants profile (x ∷ ls)) (k + 1) ls (following (k + 1) p ls)) (sym (hour-taken (k + 1) profile x.bytes))
      (on (more-hours profile low x ls w t) (profiling (k + 1) (longer profile x.bytes) (omega (arith, low, one_more_lem profile x.bytes)) ls)))
      refl))

  -- accepted, they are stated
  opened_on : (k : ℕ) (profile : List ℕ) → length profile ≡ s.periods → (gs : List (List ℕ)) → Rising 4 1 s.periods gs → Readable (map whole gs)
      → Stating k (opened k s plants profile) gs plants profile s.tariff gs
  unfolding opened number call.next after entries
  opened_on k profile e gs g r a =
      let z : (done profile).answer.number ≡ 0 = head-eq_of_cons-eq a in
      ap (λ (p : Progress). following k p (map whole gs)) (accepted _ _ _ z)
      ∙ metered plants profile k _ _ gs (subst (λ (m : Month). Due m gs) (sym (opened-month plants profile s.tariff z)) (rising_as refl (omega (arith, e)) g)) r
      (tail-eq_of_cons-eq a)

  hour-turn : (profile x : List ℕ) → line_start x ≡ 3 → get_or (figures_of x) 0 0 ≡ length profile + 1 → in_turn (gathers s plants profile) (line_start x) (figures_of x) ≡ true
  unfolding in_turn
  hour-turn profile x a b = rw (full, eq-eqb _ _ a, eq-eqb _ _ b) refl

  pub profiled : (k : ℕ) (profile : List ℕ) (hs gs : List (List ℕ)) → length profile ≤ s.periods → Rising 3 (length profile + 1) (s.periods - length profile) hs
      → Rising 4 1 s.periods gs → Readable (map whole (hs ++ gs)) → Stating k (gathered k profile) (hs ++ gs) plants (profile ++ profile_in hs) s.tariff gs
  unfolding is_refused
  profiled k profile [] gs l h g r a =
      let last = count [] (s.periods - length profile) 3 h.starts in
      let e : length profile ≡ s.periods = omega (arith, l, last) in
      rw (eq-eqb _ _ e, append-nil profile) (opened_on k profile e gs g r (subst (λ (p : List ℕ). Calls plants p s.tariff gs) (append-nil profile) a))
  profiled k profile (x ∷ hs) gs l h g r a =
      let q = after_one h in
      let some = q.1 in
      rw (ne_eqb (length profile) s.periods (λ e. omega (arith, some, e)))
      (line_taken k (gathers s plants profile) x (map whole (hs ++ gs)) refl (head-eq_of_cons-eq r) (hour-turn profile x q.2 q.3) (hour-taken (k + 1) profile x)
      ∙ subst (λ (p : List ℕ). Stating (k + 1) (gathered (k + 1) (longer profile x)) (hs ++ gs) plants p s.tariff gs)
      (append_assoc profile (get_or (figures_of x) 1 0 ∷ []) (profile_in hs))
      (profiled (k + 1) (longer profile x) hs gs (omega (arith, some, one_more_lem profile x))
      (rising_as (ap (λ (n : ℕ). n + 1) (sym (one_more_lem profile x))) (omega (arith, some, one_more_lem profile x)) q.4) g (tail-eq_of_cons-eq r)) a)

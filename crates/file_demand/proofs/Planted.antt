-- P lines: one is refused, or the lines after the first are a whole file's, and then they are stated. Assumes nothing.
use mathlib.Core.Path.{◌≡◌, refl, sym, ap, ap₂, subst, ◌∙◌}
use mathlib.Core.Bool.{Bool, true, false}
use mathlib.Core.List.{List, [], ◌∷◌, ◌++◌, map, append_assoc, append-nil, head-eq_of_cons-eq, tail-eq_of_cons-eq}
use Prim.Native.Nat.{ℕ, suc, ◌+◌, ◌-◌, ◌≤◌, ◌<◌}
use native.Mathlib.Omega.{arith}
use borrow.Author.Tests.{ltb-true, ltb-false, eqb-true, lt-ltb, le-ltb, eq-eqb}
use lib.Dec.{ltb}
use lib.ListN.{length, replicate, length-append}
use Rattle.lines.specs.Reading.{line_start}
use Rattle.plants.specs.declared.Plant.{Plant}
use Rattle.file_lines.specs.File.{FileLine, whole, Sizes, Progress, gathers, figures_of, plant_of, in_turn, taken, printed, following}
use Rattle.file_lines.specs.State.{is_refused}
use Rattle.file_demand.specs.Sums.{plants_in, profile_in, Rising, Readable}
use Rattle.file_demand.proofs.Followed.{Followed, on, later, ended-early, IsRead, by-line, line_taken, AreLines, next-line, count, copied, rising_as}
use Rattle.file_demand.proofs.Profiled.{Stating, Calls, Profiled, gathered, no-hour, profiling, profiled}

pub record Planted (s : Sizes) (plants : List Plant) (ls : List FileLine) : Type 0 where
  pub ps : List (List ℕ)
  pub hs : List (List ℕ)
  pub gs : List (List ℕ)
  pub are_lines : AreLines ls (ps ++ (hs ++ gs))
  pub rows : map line_start ps ≡ replicate (s.plants - length plants) 2
  pub profiles : Rising 3 1 s.periods hs
  pub meters : Rising 4 1 s.periods gs
  pub accepts : Calls (plants ++ plants_in ps) (profile_in hs) s.tariff gs

-- no P line more
all_rows : (s : Sizes) (plants : List Plant) (ls : List FileLine) → s.plants ≤ length plants → Profiled s plants [] ls → Planted s plants ls
all_rows s plants ls h r =
    record {
      ps = [];
      hs = r.hs;
      gs = r.gs;
      are_lines = r.are_lines;
      rows = ap (λ (n : ℕ). replicate n 2) none_left;
      profiles = rising_as refl (omega arith) r.profiles;
      meters = r.meters;
      accepts = subst (λ (p : List Plant). Calls p (profile_in r.hs) s.tariff r.gs) (sym (append-nil plants)) r.accepts;
    }
  where
    none_left : 0 ≡ s.plants - length plants
    none_left = omega (arith, h)

abbrev wider : List Plant → List ℕ → List Plant
wider plants x = plants ++ (plant_of (figures_of x) ∷ [])

-- a P line in turn
more_rows : (s : Sizes) (plants : List Plant) → length plants < s.plants → (x : FileLine) (ls : List FileLine) → IsRead x → line_start x.bytes ≡ 2
    → Planted s (wider plants x.bytes) ls → Planted s plants (x ∷ ls)
more_rows s plants h x ls w is2 r =
    record {
      ps = x.bytes ∷ r.ps;
      hs = r.hs;
      gs = r.gs;
      are_lines = next-line w r.are_lines;
      rows = ap₂ (λ a b. a ∷ b) is2 r.rows ∙ ap (λ (n : ℕ). replicate n 2) one_less;
      profiles = r.profiles;
      meters = r.meters;
      accepts = subst (λ (p : List Plant). Calls p (profile_in r.hs) s.tariff r.gs)
          (append_assoc plants (plant_of (figures_of x.bytes) ∷ []) (plants_in r.ps)) r.accepts;
    }
  where
    one_less : suc (s.plants - length (wider plants x.bytes)) ≡ s.plants - length plants
    one_less = omega (arith, h, length-append plants (plant_of (figures_of x.bytes) ∷ []))

row-taken : (s : Sizes) (plants : List Plant) → ltb (length plants) s.plants ≡ true → (k : ℕ) (x : List ℕ)
    → taken k (gathers s plants []) (figures_of x) ≡ gathers s (wider plants x) []
unfolding taken
row-taken s plants due k x = rw due refl

module _ (s : Sizes) (some-period : 0 < s.periods) where
  module _ (plants : List Plant) (k : ℕ) (x : FileLine) (ls : List FileLine)
      (rest : Followed (Planted s (wider plants x.bytes) ls) (k + 1) ls (following (k + 1) (gathers s (wider plants x.bytes) []) ls)) where
    one_row : (due : ltb (length plants) s.plants ≡ true) → IsRead x → in_turn (gathers s plants []) (line_start x.bytes) (figures_of x.bytes) ≡ true
        → Followed (Planted s plants (x ∷ ls)) (k + 1) ls (following (k + 1) (taken (k + 1) (gathers s plants []) (figures_of x.bytes)) ls)
    unfolding in_turn
    one_row due w t =
        subst (λ (p : Progress). Followed (Planted s plants (x ∷ ls)) (k + 1) ls (following (k + 1) p ls)) (sym (row-taken s plants due (k + 1) x.bytes))
        (on (more_rows s plants (ltb-true (length plants) s.plants due) x ls w (eqb-true (line_start x.bytes) 2 (rw due at t))) rest)

    by_rows : (b : Bool) → ltb (length plants) s.plants ≡ b → Followed (Planted s plants (x ∷ ls)) k (x ∷ ls) (following k (gathers s plants []) (x ∷ ls))
    unfolding is_refused
    by_rows false full =
        subst (λ (p : Progress). Followed (Planted s plants (x ∷ ls)) k (x ∷ ls) (following k p (x ∷ ls))) (no-hour s plants full some-period k)
        (on (all_rows s plants (x ∷ ls) (ltb-false (length plants) s.plants full)) (profiling s plants full k [] (omega arith) (x ∷ ls)))
    by_rows true due = later (by-line k (gathers s plants []) x ls (one_row due) refl)

  pub planting : (k : ℕ) (plants : List Plant) (ls : List FileLine) → Followed (Planted s plants ls) k ls (following k (gathers s plants []) ls)
  unfolding following printed
  planting k plants [] = ended-early k
  planting k plants (x ∷ ls) = by_rows plants k x ls (planting (k + 1) (wider plants x.bytes) ls) (ltb (length plants) s.plants) refl

  -- accepted, they are stated
  row-turn : (plants : List Plant) (x : List ℕ) → ltb (length plants) s.plants ≡ true → line_start x ≡ 2
      → in_turn (gathers s plants []) (line_start x) (figures_of x) ≡ true
  unfolding in_turn
  row-turn plants x due e = rw (due, eq-eqb _ _ e) refl

  pub planted : (k : ℕ) (plants : List Plant) (ps hs gs : List (List ℕ)) → map line_start ps ≡ replicate (s.plants - length plants) 2
      → Rising 3 1 s.periods hs → Rising 4 1 s.periods gs → Readable (map whole (ps ++ (hs ++ gs)))
      → Stating k (gathers s plants []) (ps ++ (hs ++ gs)) (plants ++ plants_in ps) (profile_in hs) s.tariff gs
  unfolding is_refused
  planted k plants [] hs gs p h g r a =
      let all = count [] (s.plants - length plants) 2 p in
      let full = le-ltb (length plants) s.plants (omega (arith, all)) in
      ap (λ (q : Progress). following k q (map whole (hs ++ gs))) (sym (no-hour s plants full some-period k))
      ∙ subst (λ (q : List Plant). Stating k (gathered s plants full k []) (hs ++ gs) q (profile_in hs) s.tariff gs) (sym (append-nil plants))
      (profiled s plants full k [] hs gs (omega arith) (rising_as refl (omega arith) h) g r) a
  planted k plants (x ∷ ps) hs gs p h g r a =
      let q = copied (s.plants - length plants) 2 (line_start x) (map line_start ps) p in
      let here = q.1 in
      let due = lt-ltb (length plants) s.plants (omega (arith, here)) in
      let less : q.0 ≡ s.plants - length (wider plants x) = omega (arith, here, length-append plants (plant_of (figures_of x) ∷ [])) in
      line_taken k (gathers s plants []) x (map whole (ps ++ (hs ++ gs))) refl (head-eq_of_cons-eq r) (row-turn plants x due q.2) (row-taken s plants due (k + 1) x)
      ∙ subst (λ (t : List Plant). Stating (k + 1) (gathers s (wider plants x) []) (ps ++ (hs ++ gs)) t (profile_in hs) s.tariff gs)
      (append_assoc plants (plant_of (figures_of x) ∷ []) (plants_in ps))
      (planted (k + 1) (wider plants x) ps hs gs (q.3 ∙ ap (λ (n : ℕ). replicate n 2) less) h g (tail-eq_of_cons-eq r)) a

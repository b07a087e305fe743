-- A line as it is written reads back. Assumes nothing.
use mathlib.Core.Path.{◌≡◌, refl, ap, ap₂, ◌∙◌}
use mathlib.Core.Bool.{true}
use mathlib.Core.List.{List, [], ◌∷◌, ◌++◌, map}
use Prim.Native.Nat.{ℕ, ◌-◌, ◌^◌, ◌≤◌}
use native.Mathlib.Omega.{arith}
use borrow.Author.Tests.{le-leb, ne_eqb}
use lib.ListN.{length, drop, get_or, length-map, get_or-map}
use Rattle.lists.specs.Lists.{Within, every}
use Rattle.lists.specs.Questions.{first_no}
use Rattle.lists.proofs.Questions.{both, every_all, limits, in_range_lem, accepted}
use Rattle.figures.specs.Figures.{figure, commas_before, by_commas, value, is_digit, is_figure}
use Rattle.figures.proofs.Promised as figures
use Rattle.lines.specs.Fields.{longest, fields, to_first}
use Rattle.lines.specs.Reading.{starts_with, line_start, start_length, line_fields, count_fits, read_number, ReadEnd, read_call}
use Rattle.lines.specs.Laws.{meter_line}

-- ---- digits hold no comma

no-comma : (b : ℕ) → is_digit b ≡ true → b ≡ 44 → ⊥
unfolding is_digit
no-comma b e p = let l = limits 48 57 b e in omega arith

-- before what begins with an empty field they are the first field
fields-digits : (f rest : List ℕ) (fs : List (List ℕ)) → every is_digit f ≡ true → fields rest ≡ [] ∷ fs → fields (f ++ rest) ≡ f ∷ fs
unfolding fields to_first every
fields-digits [] rest fs e h = h
fields-digits (b ∷ bs) rest fs e h =
    let p = both (is_digit b) (every is_digit bs) e in
    rw (ne_eqb b 44 (no-comma b p.0), fields-digits bs rest fs p.1 h)

-- ---- the fields of figures written

fields-figures : (x : ℕ) (xs : List ℕ) → fields (by_commas (map figure (x ∷ xs))) ≡ map figure (x ∷ xs)
unfolding by_commas commas_before fields
fields-figures x [] = fields-digits (figure x) [] [] (figures.digits_all x) refl
fields-figures x (y ∷ ys) =
    fields-digits (figure x) (44 ∷ by_commas (map figure (y ∷ ys))) _ (figures.digits_all x) (ap (λ (fs : List (List ℕ)). [] ∷ fs) (fields-figures y ys))

good-figures : (xs : List ℕ) → Within xs (10 ^ 19 - 1) → every is_figure (map figure xs) ≡ true
good-figures xs w =
    every_all is_figure (map figure xs) (figure 0) (λ i. ap is_figure (get_or-map figure xs i 0) ∙ (figures.promised).readable (get_or xs i 0) (omega (arith, w.at i)))

values_back : (xs : List ℕ) → map value (map figure xs) ≡ xs
values_back [] = refl
values_back (x ∷ xs) = ap₂ (λ (v : ℕ) (vs : List ℕ). v ∷ vs) ((figures.promised).back x) (values_back xs)

-- ---- a G line

module _ (period : ℕ) (metered : List ℕ) where
  meter_starts : line_start (meter_line period metered) ≡ 4
  unfolding line_start starts_with meter_line
  meter_starts = refl

  meter_fields : line_fields (meter_line period metered) ≡ map figure (period ∷ metered)
  unfolding line_fields start_length line_start starts_with meter_line
  meter_fields = fields-figures period metered

  counted : length (line_fields (meter_line period metered)) ≡ length (period ∷ metered)
  counted = ap length meter_fields ∙ length-map (period ∷ metered) figure

  fits : 1 ≤ length metered → length metered ≤ 512 → count_fits 4 (length (period ∷ metered)) ≡ true
  unfolding count_fits
  fits some few = in_range_lem 2 513 (length (period ∷ metered)) (omega arith) (omega arith)

  number : (places : ℕ) → Within (period ∷ metered) (10 ^ 19 - 1) → 1 ≤ length metered → length metered ≤ 512
      → length (meter_line period metered) ≤ longest → length (period ∷ metered) ≤ places → read_number (meter_line period metered) places ≡ 0
  unfolding read_number first_no
  number places w some few short room =
      rw (le-leb (length (meter_line period metered)) longest short, meter_starts, counted, fits some few, meter_fields, good-figures (period ∷ metered) w, le-leb (length (period ∷ metered)) places room)

  pub meter_back : (places : List ℕ) → Within (period ∷ metered) (10 ^ 19 - 1) → 1 ≤ length metered → length metered ≤ 512
      → length (meter_line period metered) ≤ longest → length (period ∷ metered) ≤ length places
      → read_call (meter_line period metered) places
      ≡ record { answer = record { number = 0; start = 4; fields = length (period ∷ metered) }; figures = (period ∷ metered) ++ drop (length (period ∷ metered)) places }
  unfolding read_call
  meter_back places w some few short room =
      accepted (read_number (meter_line period metered) (length places)) _ _ (number (length places) w some few short room)
      ∙ rw (meter_starts, counted, meter_fields) (ap left (values_back (period ∷ metered)))
    where
      left : List ℕ → ReadEnd
      left values = record { answer = record { number = 0; start = 4; fields = length (period ∷ metered) }; figures = values ++ drop (length (period ∷ metered)) places }

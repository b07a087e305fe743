-- Laws of figures read: a loop over the digits of a field, and what question 29 asks of it. Assumes nothing.
use mathlib.Core.Path.{◌≡◌, refl, sym, ◌∙◌}
use mathlib.Core.Bool.{Bool, true, false}
use mathlib.Core.List.{List}
use Rattle.std.specs.Prelude.{Option, Some, None}
use Rattle.std.specs.Char.{is_ascii_digit}
use Prim.Native.Nat.{ℕ, suc, ◌+◌, ◌-◌, ◌*◌, ◌^◌, ◌≤◌, ◌<◌}
use native.Mathlib.Nat.{pow-succ', pow-le-pow_right}
use native.Mathlib.Numerals.{add-one}
use native.Mathlib.Omega.{arith}
use lib.ListN.{length, drop, get_or, drop_of_length-le}
use Rattle.lists.specs.Lists.{every}
use Rattle.lists.specs.Questions.{in_range}
use Rattle.lists.proofs.Questions.{limits}
use Rattle.lists.proofs.Loops.{Passing, passing, passing_more, halted, passed, drop_more}
use Rattle.figures.specs.Figures.{value_from, value, is_digit, leading_zero, is_figure, ReadAs}

-- ---- a loop over digits, with v the number that the first i make

pub record Reading (f : List ℕ) (v i : ℕ) : Type 0 where
  pub tested : Passing is_digit f (drop i f)
  pub made : value f ≡ value_from v (drop i f)
  pub small : v < 10 ^ i

refused_as : {test : Bool} {f : List ℕ} → false ≡ test → ReadAs test f None
refused_as e = record { said = e; stands = rw (← e) }

module _ {f : List ℕ} where
  pub reading : Reading f 0 0
  unfolding value
  reading = record { tested = passing; made = refl; small = omega arith }

  -- at a byte, with what `is_ascii_digit` answers of it
  module _ {v i : ℕ} (r : Reading f v i) (h : i < length f) {x : Bool} (e : x ≡ is_ascii_digit (get_or f i 0)) where
    asked : in_range 48 57 (get_or f i 0) ≡ x
    unfolding in_range
    asked = sym e

    -- one digit more has room
    pub reading_fits : x ≡ true → length f ≤ 19 → (48 ≤ get_or f i 0) × (10 * v + (get_or f i 0 - 48) < 10 ^ 19)
    reading_fits d k =
        let up : 10 ^ suc i ≤ 10 ^ 19 = pow-le-pow_right (omega arith) {j = 19} (omega arith) in
        omega (arith, limits 48 57 (get_or f i 0) (asked ∙ d), r.small, pow-succ' 10 i)

    pub reading_more : {d : ℕ} → d ≡ get_or f i 0 - 48 → x ≡ true → Reading f (10 * v + d) (i + 1)
    unfolding value_from is_digit
    reading_more p d =
        record {
          tested = passing_more r.tested (drop_more f i 0 h) (asked ∙ d);
          made = r.made ∙ rw (drop_more f i 0, p);
          small = rw add-one (omega (arith, limits 48 57 (get_or f i 0) (asked ∙ d), r.small, pow-succ' 10 i));
        }

    pub reading_stopped : x ≡ false → ReadAs (every is_digit f) f None
    unfolding is_digit
    reading_stopped d = refused_as (halted r.tested (drop_more f i 0 h) (asked ∙ d))

  pub read_whole : {v i : ℕ} → Reading f v i → length f ≤ i → ReadAs (every is_digit f) f (Some v)
  unfolding value_from
  read_whole {v} {i} r h =
      let all = passed r.tested (drop_of_length-le f h) in
      record { said = all; stands = rw (← all) (sym (r.made ∙ rw (drop_of_length-le f h))) }

-- ---- question 29

module _ (f : List ℕ) where
  pub figure_unsized : in_range 1 19 (length f) ≡ false → ReadAs (is_figure f) f None
  unfolding is_figure
  figure_unsized e = refused_as (rw e)

  module _ (sized : in_range 1 19 (length f) ≡ true) (z : Bool) (e : z ≡ leading_zero f) where
    pub figure-leading : z ≡ true → ReadAs (is_figure f) f None
    unfolding is_figure
    figure-leading t = refused_as (rw (sized, ← e, t))

    pub figure-digits : {answer : Option ℕ} → z ≡ false → ReadAs (every is_digit f) f answer → ReadAs (is_figure f) f answer
    unfolding is_figure
    figure-digits t r = rw (sized, ← e, t) r

pub ruleset figure_asked = (figure_unsized, figure-leading, figure-digits, limits)

pub ruleset digits_read = (reading_fits, reading_stopped, read_whole)

-- The promises of specs/Laws. Assumes nothing.
use mathlib.Core.Path.{◌≡◌, refl, sym, ap, ◌∙◌}
use mathlib.Core.Bool.{Bool, true, false, not}
use mathlib.Core.List.{List, [], ◌∷◌, ◌++◌, append_assoc, append-nil}
use Prim.Native.Nat.{ℕ, ◌+◌, ◌-◌, ◌*◌, ◌/◌, ◌%◌, ◌^◌, ◌≤◌, ◌<◌}
use native.Mathlib.Omega.{arith}
use borrow.Author.Tests.{lt-ltb, ne_eqb, eqb-false, not-true}
use lib.Dec.{ltb, eqb}
use lib.ListN.{length, get_or, get_or-append}
use Rattle.lists.specs.Lists.{every}
use Rattle.lists.specs.Questions.{in_range}
use Rattle.lists.proofs.Questions.{and_both, and_second, both, in_range_lem, limits, not_yes}
use Rattle.figures.specs.Figures.{figure, figure_length, value_from, value, is_digit, leading_zero, is_figure}
use Rattle.figures.specs.Laws.{Promised}
use Rattle.figures.proofs.Signs.{signed_length-le}
use Rattle.figures.proofs.Decimal.{figure-small, figure-more, tens, length_pos, length-le, value-figure}

-- ---- a written figure passes question 29

every_append : {A : Type 0} (p : A → Bool) (xs ys : List A) → every p xs ≡ true → every p ys ≡ true → every p (xs ++ ys) ≡ true
unfolding every
every_append p [] ys e f = f
every_append p (x ∷ xs) ys e f = let h = both (p x) (every p xs) e in and_both (p x) (every p (xs ++ ys)) h.0 (every_append p xs ys h.1 f)

digit_is : (d : ℕ) → d < 10 → every is_digit ((48 + d) ∷ []) ≡ true
unfolding every is_digit
digit_is d h = and_both _ true (in_range_lem 48 57 (48 + d) (omega arith) (omega arith)) refl

pub digits_all : (x : ℕ) → every is_digit (figure x) ≡ true
digits_all =
    tens (λ x h. rw (figure-small x h) (digit_is x h))
    (λ x h ih. rw (figure-more x h) (every_append is_digit (figure (x / 10)) ((48 + x % 10) ∷ []) ih (digit_is (x % 10) (omega arith))))

-- the first digit of a number above 0 is no zero
first_digit : (x : ℕ) → 0 < x → 49 ≤ get_or (figure x) 0 0
unfolding figure_length
first_digit =
    tens (λ x h p. rw (figure-small x h) (omega arith))
    (λ x h ih p. rw (figure-more x h, get_or-append (figure (x / 10)) ((48 + x % 10) ∷ []) 0 0 (length_pos (x / 10))) (ih (omega arith)))

no-leading : (x : ℕ) → not (leading_zero (figure x)) ≡ true
unfolding leading_zero
no-leading =
    tens (λ x h. rw (figure-small x h))
    (λ x h ih. not_yes (leading_zero (figure x)) (and_second (ltb 1 (length (figure x))) (eqb (get_or (figure x) 0 0) 48) (ne_eqb (get_or (figure x) 0 0) 48 (λ e. omega (arith, first_digit x (omega arith))))))

figure-good : (x : ℕ) → x < 10 ^ 19 → is_figure (figure x) ≡ true
unfolding is_figure figure_length
figure-good x h = and_both _ _ (in_range_lem 1 19 (length (figure x)) (length_pos x) (length-le 18 x h)) (and_both _ _ (no-leading x) (digits_all x))

-- ---- what passes question 29 is what would be written

-- digits behind a number above 0
digits-behind : (bs : List ℕ) (v : ℕ) → 0 < v → every is_digit bs ≡ true → figure (value_from v bs) ≡ figure v ++ bs
unfolding value_from every is_digit
digits-behind [] v h e = sym (append-nil (figure v))
digits-behind (b ∷ bs) v h e =
    let p = both (is_digit b) (every is_digit bs) e in
    let l = limits 48 57 b p.0 in
    let tenth : (10 * v + (b - 48)) / 10 ≡ v = omega arith in
    let last : 48 + (10 * v + (b - 48)) % 10 ≡ b = omega arith in
    let next : figure (10 * v + (b - 48)) ≡ figure v ++ (b ∷ []) = figure-more (10 * v + (b - 48)) (omega arith) ∙ rw (tenth, last) in
    digits-behind bs (10 * v + (b - 48)) (omega arith) p.1
    ∙ ap (λ (l : List ℕ). l ++ bs) next
    ∙ append_assoc (figure v) (b ∷ []) bs

-- one digit
alone : (b : ℕ) → is_digit b ≡ true → figure (10 * 0 + (b - 48)) ≡ b ∷ []
unfolding is_digit
alone b e =
    let l = limits 48 57 b e in
    let is : 48 + (10 * 0 + (b - 48)) ≡ b = omega arith in
    figure-small (10 * 0 + (b - 48)) (omega arith) ∙ rw is

-- a first digit that is no zero
first_above : (b c : ℕ) (bs : List ℕ) → is_digit b ≡ true → leading_zero (b ∷ c ∷ bs) ≡ false → 0 < 10 * 0 + (b - 48)
unfolding is_digit leading_zero
first_above b c bs e z =
    let l = limits 48 57 b e in
    let n : eqb b 48 ≡ false = rw (lt-ltb 1 (length (b ∷ c ∷ bs)) (omega arith)) at z in
    omega (arith, l, eqb-false b 48 n)

figure-only : (bs : List ℕ) → is_figure bs ≡ true → figure (value bs) ≡ bs
unfolding is_figure value value_from every
figure-only bs e =
    let p = both (in_range 1 19 (length bs)) _ e in
    let q = both (not (leading_zero bs)) (every is_digit bs) p.1 in
    by bs (limits 1 19 (length bs) p.0).0 (not-true (leading_zero bs) q.0) q.1
  where
    by : (bs : List ℕ) → 1 ≤ length bs → leading_zero bs ≡ false → every is_digit bs ≡ true → figure (value bs) ≡ bs
    by [] h z e = absurd (omega arith)
    by (b ∷ []) h z e = alone b (both (is_digit b) true e).0
    by (b ∷ c ∷ bs) h z e =
        let p = both (is_digit b) (every is_digit (c ∷ bs)) e in
        digits-behind (c ∷ bs) (10 * 0 + (b - 48)) (first_above b c bs p.0 z) p.1 ∙ ap (λ (l : List ℕ). l ++ (c ∷ bs)) (alone b p.0)

pub promised : Promised
promised =
    record {
      back = value-figure;
      readable = figure-good;
      only = figure-only;
      some = length_pos;
      short = length-le;
      short_signed = signed_length-le;
    }

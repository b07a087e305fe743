-- Laws of figures written: digit by digit, how long a figure is, and that reading it gives it back. Assumes nothing.
use mathlib.Core.Path.{◌≡◌, refl, sym, ap, ◌∙◌}
use mathlib.Core.Logic.{by_cases}
use mathlib.Core.List.{List, [], ◌∷◌, ◌++◌, append_assoc}
use Prim.Native.Nat.{ℕ, zero, suc, ◌+◌, ◌-◌, ◌*◌, ◌/◌, ◌%◌, ◌^◌, ◌≤◌, ◌<◌, max}
use native.Mathlib.Nat.{pow-succ', pow-le-pow_right}
use native.Mathlib.Numerals.{add-one}
use native.Mathlib.Decide.{dec_lt}
use native.Mathlib.Omega.{arith}
use borrow.Author.Tests.{lt-ltb, le-ltb}
use lib.ListN.{length, take, drop, set, length-append, length-set, take-append-drop}
use lib.Seq.{take-set-le, drop-set-lt, drop-cons, get_or-set_same}
use Rattle.figures.specs.Figures.{digits, figure, figure_length, value_from, value, written, Wrote}

-- ---- digit by digit

-- more places than x has change nothing
enough : (k m x : ℕ) → x < k → x < m → digits k x ≡ digits m x
unfolding digits
enough zero m x h j = absurd (omega arith)
enough (suc k) zero x h j = absurd (omega arith)
enough (suc k) (suc m) x h j =
    by_cases (dec_lt x 10) (λ l. rw (lt-ltb x 10 l)) (λ g. rw (le-ltb x 10 (omega arith), enough k m (x / 10) (omega arith) (omega arith)))

pub figure-small : (x : ℕ) → x < 10 → figure x ≡ (48 + x) ∷ []
unfolding figure digits
figure-small x h = rw (lt-ltb x 10 h)

pub figure-more : (x : ℕ) → 10 ≤ x → figure x ≡ figure (x / 10) ++ ((48 + x % 10) ∷ [])
unfolding figure digits
figure-more x h = rw (le-ltb x 10 h, enough x (suc (x / 10)) (x / 10) (omega arith) (omega arith))

-- ---- how long a figure is

pub length-small : (x : ℕ) → x < 10 → figure_length x ≡ 1
unfolding figure_length
length-small x h = ap length (figure-small x h)

pub length_more : (x : ℕ) → 10 ≤ x → figure_length x ≡ suc (figure_length (x / 10))
unfolding figure_length
length_more x h = ap length (figure-more x h) ∙ length-append (figure (x / 10)) _ ∙ add-one _

-- a law of figures follows from the figures below 10, and from that of x / 10 for each other x
pub tens : {P : ℕ → Type 0} → ((x : ℕ) → x < 10 → P x) → ((x : ℕ) → 10 ≤ x → P (x / 10) → P x) → (x : ℕ) → P x
tens {P} small more x = down (suc x) x (omega arith)
  where
    down : (k x : ℕ) → x < k → P x
    down zero x h = absurd (omega arith)
    down (suc k) x h = by_cases (dec_lt x 10) (small x) (λ g. more x (omega arith) (down k (x / 10) (omega arith)))

pub length_pos : (x : ℕ) → 1 ≤ figure_length x
length_pos = tens (λ x h. omega (arith, length-small x h)) (λ x h ih. omega (arith, length_more x h))

-- a number below 10 to the k, k above 0, has at most k digits
pub length-le : (k x : ℕ) → x < 10 ^ suc k → figure_length x ≤ suc k
length-le zero x h = omega (arith, length-small x h)
length-le (suc k) x h =
    by_cases (dec_lt x 10) (λ l. omega (arith, length-small x l))
    (λ g. omega (arith, length_more x (omega arith), length-le k (x / 10) (omega (arith, pow-succ' 10 (suc k)))))

-- that of a `u64` takes at most 20 bytes
pub length-le-20 : (x : ℕ) → x < 2 ^ 64 → figure_length x ≤ 20
length-le-20 x h = length-le 19 x (omega arith)

-- a number from 10 ^ k on, below the next power
length_log : (k x : ℕ) → 10 ^ k ≤ x → x < 10 * 10 ^ k → figure_length x ≡ k + 1
length_log zero x l h = length-small x (omega arith)
length_log (suc k) x l h =
    let some : 10 ^ 0 ≤ 10 ^ k = pow-le-pow_right (omega arith) {i = 0} {j = k} (omega arith) in
    omega (arith, pow-succ' 10 k, length_more x (omega (arith, pow-succ' 10 k)), length_log k (x / 10) (omega (arith, pow-succ' 10 k)) (omega (arith, pow-succ' 10 k)))

-- ... and 0 has as many digits as 1
pub length_by_log : (k x : ℕ) → 10 ^ k ≤ max x 1 → max x 1 < 10 * 10 ^ k → k + 1 ≡ figure_length x
length_by_log k zero l h = omega (arith, length_log k 1 l h, length-small 1, length-small 0)
length_by_log k (suc x) l h = omega (arith, length_log k (suc x) (omega arith) (omega arith))

-- ---- a figure of which the first k digits are still to be written

pub padded : ℕ → ℕ → List ℕ
padded zero x = []
padded (suc k) x = padded k (x / 10) ++ ((48 + x % 10) ∷ [])

pub figure_padded : (x : ℕ) → figure x ≡ padded (figure_length x) x
unfolding padded
figure_padded = tens (λ x h. rw (length-small x h) (figure-small x h ∙ ap (λ (d : ℕ). (48 + d) ∷ []) (omega arith))) (λ x h ih. figure-more x h ∙ ap (λ (l : List ℕ). l ++ ((48 + x % 10) ∷ [])) ih ∙ rw (length_more x h))

-- a loop that writes from the last digit to the first
pub record Writing (x at : ℕ) (text₀ : List ℕ) (i rest : ℕ) (text : List ℕ) : Type 0 where
  pub low : at ≤ i
  pub high : i ≤ at + figure_length x
  pub same : length text ≡ length text₀
  pub whole : take at text ++ (padded (i - at) rest ++ drop i text) ≡ written text₀ at (figure x)

module _ {x at : ℕ} {text₀ : List ℕ} where
  pub writing : {i : ℕ} → i ≡ at + figure_length x → Writing x at text₀ i x text₀
  unfolding written figure_length
  writing {i} e =
      let n : i - at ≡ length (figure x) = omega arith in
      record { low = omega arith; high = omega arith; same = refl; whole = rw (n, ← figure_padded x, e) }

  pub writing_more : {i rest : ℕ} {text : List ℕ} {b : ℕ} → Writing x at text₀ i rest text → at < i → at + figure_length x ≤ length text₀ → b ≡ 48 + rest % 10
      → Writing x at text₀ (i - 1) (rest / 10) (set text (i - 1) b)
  unfolding padded
  writing_more {i} {rest} {text} {b} w h r e =
      let inside : i - 1 < length text = omega (arith, w.same) in
      let next : suc (i - 1) ≡ i = omega arith in
      let one_more : i - at ≡ suc (i - 1 - at) = omega arith in
      let stored : drop (i - 1) (set text (i - 1) b) ≡ b ∷ drop i text
      = drop-cons (set text (i - 1) b) (i - 1) 0 (rw length-set inside) ∙ rw (get_or-set_same text (i - 1) b 0, drop-set-lt (suc (i - 1)) text (i - 1) b (omega arith), next) in
      record {
        low = omega arith;
        high = omega arith;
        same = length-set text (i - 1) b ∙ w.same;
        whole = rw (take-set-le at text (i - 1) b (omega arith), stored, e) (rw (one_more, append_assoc) at w.whole);
      }

  written-whole : {i rest : ℕ} {text : List ℕ} → Writing x at text₀ i rest text → i ≤ at → text ≡ written text₀ at (figure x)
  unfolding padded
  written-whole {i} {rest} {text} w h =
      let none : i - at ≡ 0 = omega arith in
      let here : i ≡ at = omega arith in
      sym (take-append-drop at text) ∙ (rw (none, here) at w.whole)

  pub wrote : {n i rest : ℕ} {text : List ℕ} → n ≡ figure_length x → Writing x at text₀ i rest text → i ≤ at → Wrote (figure x) at text₀ text (at + n)
  unfolding figure_length
  wrote e w h = record { behind = ap (λ (n : ℕ). at + n) e; text = written-whole w h }

-- ---- reading a written figure gives the figure

pub value-append : (v : ℕ) (xs ys : List ℕ) → value_from v (xs ++ ys) ≡ value_from (value_from v xs) ys
unfolding value_from
value-append v [] ys = refl
value-append v (x ∷ xs) ys = value-append (10 * v + (x - 48)) xs ys

pub value-figure : (x : ℕ) → value (figure x) ≡ x
unfolding value value_from
value-figure =
    tens (λ x h. rw (figure-small x h) (omega arith))
    (λ x h ih. rw (figure-more x h, value-append 0 (figure (x / 10)) ((48 + x % 10) ∷ [])) (omega (arith, ih)))

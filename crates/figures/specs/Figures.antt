-- Figures as text: document 01, 'The file and its statement'. Bytes are numbers; the digits `0` to `9` are 48 to 57. Assumes nothing.
use Rattle.std.specs.Prelude.{◌≡◌, ℕ, zero, suc, ◌+◌, ◌*◌, ◌-◌, ◌/◌, ◌%◌, Bool, cond, not, ◌&&◌, List, [], ◌∷◌, ◌++◌, eqb, ltb, ℤ, pos, negsuc, nat_abs, length, get_or, Option, is_some, unwrap_or}
use Rattle.lists.specs.Lists.{between, every}
use Rattle.lists.specs.Questions.{in_range}

-- the digits of x, first digit first and no zero before it, in at most k places
unfoldable pub digits : ℕ → ℕ → List ℕ
digits zero x = []
digits (suc k) x = cond (ltb x 10) ((48 + x) ∷ []) (digits k (x / 10) ++ ((48 + x % 10) ∷ []))

-- "Figures are written shortest": the shortest decimal of x, which has no more than x + 1 digits
unfoldable pub figure : ℕ → List ℕ
figure x = digits (suc x) x

-- "a minus before one below zero": byte 45
unfoldable pub minus : ℤ → List ℕ
minus (pos n) = []
minus (negsuc n) = 45 ∷ []

-- a signed figure as it is written: its minus, and how far it is from zero
unfoldable pub signed_figure : ℤ → List ℕ
signed_figure z = minus z ++ figure (nat_abs z)

-- fields, each with a comma (byte 44) before it; and fields parted by commas
unfoldable pub commas_before : List (List ℕ) → List ℕ
commas_before [] = []
commas_before (f ∷ fs) = (44 ∷ f) ++ commas_before fs

unfoldable pub by_commas : List (List ℕ) → List ℕ
by_commas [] = []
by_commas (f ∷ fs) = f ++ commas_before fs

-- how many bytes a figure takes
unfoldable pub figure_length : ℕ → ℕ
figure_length x = length (figure x)

unfoldable pub signed_figure_length : ℤ → ℕ
signed_figure_length z = length (signed_figure z)

-- the number that a list of digits is the decimal of, after digits that make v
unfoldable pub value_from : ℕ → List ℕ → ℕ
value_from v [] = v
value_from v (b ∷ bs) = value_from (10 * v + (b - 48)) bs

-- ... of a whole list of digits
unfoldable pub value : List ℕ → ℕ
value bs = value_from 0 bs

-- question 29: "1 to 19 digits, no leading zero but `0` itself"
unfoldable pub is_digit : ℕ → Bool
is_digit b = in_range 48 57 b

unfoldable pub leading_zero : List ℕ → Bool
leading_zero bs = ltb 1 (length bs) && eqb (get_or bs 0 0) 48

unfoldable pub is_figure : List ℕ → Bool
is_figure bs = in_range 1 19 (length bs) && (not (leading_zero bs) && every is_digit bs)

-- bytes as read: their value with the test passed, else no figure
pub record ReadAs (test : Bool) (bytes : List ℕ) (answer : Option ℕ) : Type 0 where
  pub said : is_some answer ≡ test
  pub stands : unwrap_or answer 0 ≡ cond test (value bytes) 0

-- the text, with bytes in their place from a position on; what stands before and behind them stays
unfoldable pub written : List ℕ → ℕ → List ℕ → List ℕ
written text at bytes = between at (at + length bytes) text bytes

-- bytes written from a position on: the position behind them is answered, and the text holds them
pub record Wrote (bytes : List ℕ) (at : ℕ) (old new : List ℕ) (answer : ℕ) : Type 0 where
  pub behind : answer ≡ at + length bytes
  pub text : new ≡ written old at bytes

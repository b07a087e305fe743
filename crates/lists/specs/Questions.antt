-- The questions of a call, in the order they are put (document 01, 'The questions'): the first no gives its number, and with every question
-- answered yes the number is 0. Assumes nothing.
use Rattle.std.specs.Prelude.{ℕ, zero, suc, Bool, cond, ◌&&◌, List, [], ◌∷◌, leb}

infix 68 ◌⁇◌
infixr 66 ◌then◌
-- the number of the first of two parts that has one
unfoldable pub ◌then◌ : ℕ → ℕ → ℕ
zero then m = m
suc n then m = suc n

-- a question with the number of its no, or the number that a list of further questions has given
pub data Question : Type 0 where
  ◌⁇◌ : Bool → ℕ → Question
  part : ℕ → Question

-- 'The first no gives its number .. With every question answered yes the number is 0'
unfoldable pub first_no : List Question → ℕ
first_no [] = 0
first_no (b ⁇ n ∷ qs) = cond b (first_no qs) n
first_no (part n ∷ qs) = n then first_no qs

-- is x from low up to high?
unfoldable pub in_range : ℕ → ℕ → ℕ → Bool
in_range low high x = leb low x && leb x high

-- what a call answers and leaves, by its number: accepted where it is 0, else refused with it
unfoldable pub outcome {ℓ} : {A : Type ℓ} → ℕ → A → (ℕ → A) → A
outcome zero accepted refused = accepted
outcome (suc n) accepted refused = refused (suc n)

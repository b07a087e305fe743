-- The public call: its questions, and what it answers and leaves in every case (document 01, 'Calls' and 'The questions'). Assumes nothing.
use Rattle.std.specs.Prelude.{◌&&◌, ◌||◌, List, [], ◌∷◌, ℕ, ◌^◌, ltb, eqb, length}
use Rattle.lists.specs.Lists.{sum}
use Rattle.lists.specs.Questions.{◌⁇◌, first_no, outcome}
use Rattle.sharing.specs.Sharing.{share}

-- Sharing: lists equally long, W below 2^62 and T too? 24. T = 0 or W above 0? 25
unfoldable pub sharing_number : ℕ → List ℕ → List ℕ → ℕ
sharing_number t ws lent =
    first_no
    ((eqb (length ws) (length lent) && (ltb (sum ws) (2 ^ 62) && ltb t (2 ^ 62))) ⁇ 24
    ∷ (eqb t 0 || ltb 0 (sum ws)) ⁇ 25
    ∷ [])

-- the number answered, and the lent list afterwards: the parts, or as it was
pub record Shared : Type 0 where
  pub number : ℕ
  pub parts : List ℕ

unfoldable pub sharing_call : ℕ → List ℕ → List ℕ → Shared
sharing_call t ws lent =
    outcome (sharing_number t ws lent) (record { number = 0; parts = share t ws }) (λ n. record { number = n; parts = lent })

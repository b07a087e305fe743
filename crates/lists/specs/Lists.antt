-- Sums, tables, and a list with a part replaced. Assumes nothing.
use Rattle.std.specs.Prelude.{Bool, true, ◌&&◌, List, [], ◌∷◌, ◌++◌, ℕ, zero, suc, ◌+◌, ◌*◌, ◌^◌, ◌≤◌, leb, ℤ, pos, ◌+ℤ◌, take, drop, get_or}

-- figures added up; signed figures added up
unfoldable pub sum : List ℕ → ℕ
sum [] = 0
sum (x ∷ xs) = x + sum xs

unfoldable pub sumℤ : List ℤ → ℤ
sumℤ [] = pos 0
sumℤ (z ∷ zs) = z +ℤ sumℤ zs

-- f i, f (i + 1), .. : k elements
abbrev pub table_from {ℓ} : {A : Type ℓ} → (ℕ → A) → ℕ → ℕ → List A
table_from f i zero = []
table_from f i (suc k) = f i ∷ table_from f (i + 1) k

-- f 0, .., f (n - 1)
abbrev pub table {ℓ} : {A : Type ℓ} → ℕ → (ℕ → A) → List A
table n f = table_from f 0 n

-- the list l, with xs in the place of its elements from index i up to, not including, index n
abbrev pub between {ℓ} : {A : Type ℓ} → ℕ → ℕ → List A → List A → List A
between i n l xs = take i l ++ (xs ++ drop n l)

-- the most kWh that a figure of one hour can be: of the profile ('0 to 2 × 10^9 kWh'), metered (question 16), left or needed (23)
abbrev pub most : ℕ
most = 2 * 10 ^ 9

-- does each element pass the test?
unfoldable pub every : {A : Type 0} → (A → Bool) → List A → Bool
every p [] = true
every p (x ∷ xs) = p x && every p xs

-- is each figure at most the bound?
unfoldable pub at_most : ℕ → List ℕ → Bool
at_most bound xs = every (λ x. leb x bound) xs

-- each figure is at most the bound, as a fact
pub record Within (l : List ℕ) (bound : ℕ) : Type 0 where
  pub at : (i : ℕ) → get_or l i 0 ≤ bound

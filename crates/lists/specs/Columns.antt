-- Lists of figures, one for each row (a plant, a period or a submarket). A figure past a list's end counts as zero. Assumes nothing.
use Rattle.std.specs.Prelude.{ℕ, zero, suc, ◌+◌, ◌-◌, min, ◌≤◌, cond, eqb, ℤ, pos, ◌+ℤ◌, get_or}
use mathlib.Core.List.{List, [], ◌∷◌, flatten}
use Rattle.lists.specs.Lists.{sum}

infixl 65 ◌⊕◌ ◌⊕ℤ◌ ◌⊖◌
infixl 66 ◌⊓◌
-- two lists, row by row; x₀ and y₀ count past the end
unfoldable pub rowwise : {A B C : Type 0} → (A → B → C) → A → B → List A → List B → List C
rowwise f x₀ y₀ [] [] = []
rowwise f x₀ y₀ [] (y ∷ ys) = f x₀ y ∷ rowwise f x₀ y₀ [] ys
rowwise f x₀ y₀ (x ∷ xs) [] = f x y₀ ∷ rowwise f x₀ y₀ xs []
rowwise f x₀ y₀ (x ∷ xs) (y ∷ ys) = f x y ∷ rowwise f x₀ y₀ xs ys

-- sums, differences (zero where they would fall below) and the smaller of two, row by row
abbrev pub ◌⊕◌ : List ℕ → List ℕ → List ℕ
xs ⊕ ys = rowwise ◌+◌ 0 0 xs ys

abbrev pub ◌⊖◌ : List ℕ → List ℕ → List ℕ
xs ⊖ ys = rowwise ◌-◌ 0 0 xs ys

abbrev pub ◌⊓◌ : List ℕ → List ℕ → List ℕ
xs ⊓ ys = rowwise min 0 0 xs ys

abbrev pub ◌⊕ℤ◌ : List ℤ → List ℤ → List ℤ
xs ⊕ℤ ys = rowwise ◌+ℤ◌ (pos 0) (pos 0) xs ys

-- no figure of the first above that of the second
abbrev pub Below : List ℕ → List ℕ → Type 0
Below xs ys = (i : ℕ) → get_or xs i 0 ≤ get_or ys i 0

-- several columns added up, row by row
unfoldable pub joined : List (List ℕ) → List ℕ
joined [] = []
joined (c ∷ cs) = c ⊕ joined cs

-- the rows of submarket s keep their figure, every other row has zero; and the other way round
abbrev pub inside : ℕ → ℕ → ℕ → ℕ
inside s t x = cond (eqb t s) x 0

abbrev pub beyond : ℕ → ℕ → ℕ → ℕ
beyond s t x = cond (eqb t s) 0 x

abbrev pub within : ℕ → List ℕ → List ℕ → List ℕ
within s subs xs = rowwise (inside s) 0 0 subs xs

abbrev pub outside : ℕ → List ℕ → List ℕ → List ℕ
outside s subs xs = rowwise (beyond s) 0 0 subs xs

-- one entry for each submarket 1 to 4, and the entry s of a list counted from 1 (a submarket or a period); 0 reads the first
abbrev pub four : {A : Type 0} → (ℕ → A) → List A
four f = f 1 ∷ f 2 ∷ f 3 ∷ f 4 ∷ []

abbrev pub at : {A : Type 0} → ℕ → List A → A → A
at s xs d = get_or xs (s - 1) d

-- the sums over each submarket's rows
unfoldable pub totals : List ℕ → List ℕ → List ℕ
totals subs xs = four (λ s. sum (within s subs xs))

-- columns turned into rows, and the rows one after another; d counts past a column's end
unfoldable pub transpose : {A : Type 0} → A → List (List A) → List (List A)
transpose d [] = []
transpose d (c ∷ cs) = rowwise ◌∷◌ d [] c (transpose d cs)

abbrev pub by_row : {A : Type 0} → A → List (List A) → List A
by_row d cs = flatten (transpose d cs)

-- the column j of a list that runs row by row, w figures a row: j figures are passed over, one is taken, and w - 1 are passed over before the next
unfoldable pub column : {A : Type 0} → ℕ → ℕ → List A → List A
column w j [] = []
column w zero (x ∷ l) = x ∷ column w (w - 1) l
column w (suc j) (x ∷ l) = column w j l

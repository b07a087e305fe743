-- The blocks of the rows, and what sharing over them leaves in the lent lists. Assumes nothing.
use Rattle.std.specs.Prelude.{ℕ, suc, ◌+◌, ◌-◌, ◌*◌, ◌^◌, ◌<◌, ◌≡◌, cond, List, [], ◌∷◌, ◌++◌, leb, eqb, length, get_or, replicate}

-- how many rows, from the first on, stand in submarkets up to s
unfoldable pub leading : ℕ → List ℕ → ℕ
leading s [] = 0
leading s (t ∷ ts) = cond (leb t s) (suc (leading s ts)) 0

-- 'Each submarket's rows form one block': submarket s has the rows from the start at place s - 1 up to, not including, that at place s
unfoldable pub block_starts : List ℕ → List ℕ
block_starts subs = 0 ∷ leading 1 subs ∷ leading 2 subs ∷ leading 3 subs ∷ leading 4 subs ∷ []

-- how many rows submarket s has, by the starts
abbrev pub block_rows : List ℕ → ℕ → ℕ
block_rows starts s = get_or starts s 0 - get_or starts (s - 1) 0

-- the submarkets of rows whose blocks start there
unfoldable pub standing_at : List ℕ → List ℕ
standing_at starts =
    replicate (block_rows starts 1) 1 ++ (replicate (block_rows starts 2) 2 ++ (replicate (block_rows starts 3) 3 ++ replicate (block_rows starts 4) 4))

-- four figures a row: what the figure of each row i in each column j (0 to 3) rises by
pub record Raised (rise : ℕ → ℕ → ℕ) (before after : List ℕ) : Type 0 where
  pub same : length after ≡ length before
  pub by : (i j : ℕ) → j < 4 → get_or after (4 * i + j) 0 ≡ get_or before (4 * i + j) 0 + rise i j

-- each row's part goes to one column
abbrev pub in_column : ℕ → List ℕ → ℕ → ℕ → ℕ
in_column column parts i j = cond (eqb j column) (get_or parts i 0) 0

-- .. to the column that its submarket is served from
abbrev pub in_columns : List ℕ → List ℕ → List ℕ → ℕ → ℕ → ℕ
in_columns columns subs parts i j = in_column (get_or columns (get_or subs i 0 - 1) 0) parts i j

-- each figure has room for all that its row wants
pub record Room (want figures : List ℕ) : Type 0 where
  pub at : (i j : ℕ) → j < 4 → get_or figures (4 * i + j) 0 + get_or want i 0 < 2 ^ 64

-- Rows by submarket, and an amount for each submarket shared over its own rows (document 01, 'One hour', steps 4, 6 and 7). Assumes nothing.
use Rattle.std.specs.Prelude.{ℕ, ◌≤◌, List, [], ◌∷◌}
use Rattle.lists.specs.Columns.{joined, within, four, at}
use Rattle.sharing.specs.Sharing.{Rule}

-- Rows stand by submarket 1 to 4, never falling, after one of submarket s
abbrev pub Standing : ℕ → List ℕ → Type 0
Standing s [] = Unit {0}
Standing s (t ∷ ts) = (s ≤ t) × (1 ≤ t) × (t ≤ 4) × Standing t ts

-- An amount for each submarket, shared over its own rows: the others have weight zero, and so no part
unfoldable pub portion : Rule → List ℕ → List ℕ → List ℕ → List ℕ
portion rule subs amounts ws = joined (four (λ s. rule (at s amounts 0) (within s subs ws)))

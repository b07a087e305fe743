-- Step 6 on lists of figures: what the givers sent, and what it leaves in the lent figures. Assumes nothing.
use Rattle.std.specs.Prelude.{ℕ, List}
use Rattle.lists.specs.Columns.{Below, joined}
use Rattle.transfer.specs.Laws.{place}

-- each row's figure in column j rises by what it got from giver j, counted from 0
abbrev pub got_by : List (List ℕ) → ℕ → ℕ → ℕ
got_by got i j = place got j i

-- no receiver is sent more than it needs
abbrev pub SentWithin : List (List ℕ) → List ℕ → Type 0
SentWithin table need = Below (joined table) need

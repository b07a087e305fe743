-- What step 5 promises of its table, by any lawful rule of sharing. Assumes nothing.
use Rattle.std.specs.Prelude.{◌≡◌, List, [], ℕ, ◌+◌, ◌≤◌, min, get_or}
use Rattle.lists.specs.Lists.{sum}
use Rattle.lists.specs.Columns.{joined}
use Rattle.sharing.specs.Sharing.{Rule}
use Rattle.sharing.specs.Laws.{Lawful}
use Rattle.transfer.specs.Transfer.{transfer}

-- a place of a table: giver g, receiver r, counted from 0
abbrev pub place : List (List ℕ) → ℕ → ℕ → ℕ
place table g r = get_or (get_or table g []) r 0

-- the sums of a table of four by four: a row is what a giver gives, a column what a receiver gets
abbrev pub row_sum : List (List ℕ) → ℕ → ℕ
row_sum table g = place table g 0 + place table g 1 + place table g 2 + place table g 3

abbrev pub column_sum : List (List ℕ) → ℕ → ℕ
column_sum table r = get_or (joined table) r 0

-- the table of step 5, where the needs are no more than what is left in sum
pub record Served (rule : Rule) (left need : List ℕ) : Type 0 where
  -- each receiver's column adds up to its need
  pub received : (r : ℕ) → column_sum (transfer rule left need) r ≡ get_or need r 0
  -- no giver's row passes what it had
  pub given : (g : ℕ) → sum (get_or (transfer rule left need) g []) ≤ get_or left g 0
  -- a submarket that has not both gives itself nothing
  pub apart : (s : ℕ) → min (get_or left s 0) (get_or need s 0) ≡ 0 → place (transfer rule left need) s s ≡ 0

-- ... by any lawful rule, whatever is left and needed
pub record Transfers : Type 0 where
  pub served : (rule : Rule) → Lawful rule → (left need : List ℕ) → sum need ≤ sum left → Served rule left need

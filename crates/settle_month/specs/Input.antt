-- What the program makes of the bytes that a reader gives. Where the reader says which these are (a slice does), the parts that are fed are its bytes, each
-- once and in their order. Which bytes standard input holds no contract says, nor that it is at its end: `read` alone knows. What is printed is what the
-- file's definition prints for the bytes that were fed. Assumes nothing.
use Rattle.std.specs.Prelude.{◌≡◌, ◌<◌, ℕ, Bool, true, IfSome, Some, None}
use Rattle.std.specs.Io.KnownBytes.{Consumes, IsAtEnd}
use Rattle.std.specs.declared.option.Option.{Option}
use mathlib.Core.List.{List, flatten}
use Rattle.statement.specs.Writing.{Fills}
use Rattle.file_lines.specs.File.{settled_file}
use Rattle.month_file.specs.Run.{Place, Feeds}

-- some parts were fed, one after another. Of a reader that had `old` to give and has `new` now they are the bytes between, and all that it had where the
-- input is whole; with no room for a part nothing shows the end
pub record Taken (old new : Option (List ℕ)) (room : ℕ) (whole : Bool) (a b : Place) : Type 0 where
  pub parts : List (List ℕ)
  pub fed : Feeds a parts b
  pub given : Consumes old new (flatten parts)
  pub ended : whole ≡ true → 0 < room → IsAtEnd new

-- the bytes are all that the reader had, where it says what it gives
abbrev pub AreAll : Option (List ℕ) → ℕ → List ℕ → Type 0
AreAll had room bytes = 0 < room → IfSome had (λ xs. bytes ≡ xs)

-- nothing was written, and none is answered; or the text of some parts' bytes, all that the reader had, stands at the front, and its length is answered
pub data Settled (had : Option (List ℕ)) (room : ℕ) (before : List ℕ) (answer : Option ℕ) (after : List ℕ) : Type 0 where
  unread : answer ≡ None → after ≡ before → Settled had room before answer after
  written : (n : ℕ) → answer ≡ Some n → (parts : List (List ℕ)) → AreAll had room (flatten parts) → Fills (settled_file (flatten parts)) before n after
      → Settled had room before answer after

-- The machine over a whole file: fed with parts of any size and finished, it writes what the file's definition prints. Assumes nothing.
use mathlib.Core.List.{List, [], ◌∷◌, flatten}
use Rattle.std.specs.Prelude.{ℕ}
use Rattle.statement.specs.Writing.{Fills}
use Rattle.file_lines.specs.declared.MonthFile.{MonthFile}
use Rattle.file_lines.specs.File.{settled_file}
use Rattle.month_file.specs.Bytes.{finished}
use Rattle.file_lines.specs.State.{Kept, Lent, Valid, at_start}
use Rattle.month_file.specs.Machine.{reading_of, Fresh, Fed}

-- what goes on from part to part: the state, the lists that it keeps, and the line that has begun
pub record Place : Type 0 where
  pub file : MonthFile
  pub lists : Kept
  pub line : List ℕ

-- a place, by its state, lists and line
abbrev pub place : MonthFile → Kept → List ℕ → Place
place f k line = record { file = f; lists = k; line = line }

-- parts fed one after another, each as `feed` promises
pub data Feeds : Place → List (List ℕ) → Place → Type 0 where
  none : {a : Place} → Feeds a [] a
  more : {a b c : Place} {part : List ℕ} {parts : List (List ℕ)} → Fed a.file a.lists a.line part b.file b.lists b.line → Feeds b parts c
      → Feeds a (part ∷ parts) c

-- from the state before the first byte on, after any parts
pub record Promised : Type 0 where
  -- the state before the first byte is fresh, with any lists that are long enough
  pub fresh : (k : Kept) (line : List ℕ) → Lent k → Fresh at_start k line
  -- `feed` and `finish` may be called after any parts
  pub valid : {a b : Place} {parts : List (List ℕ)} → Fresh a.file a.lists a.line → Feeds a parts b → Valid b.file b.lists
  -- what `finish` promises to write after any parts is what the file's definition prints for their bytes, however they were cut
  pub written : {a b : Place} {parts : List (List ℕ)} {before : List ℕ} {n : ℕ} {after : List ℕ} → Fresh a.file a.lists a.line → Feeds a parts b
      → Fills (finished (reading_of b.file b.lists b.line)) before n after → Fills (settled_file (flatten parts)) before n after

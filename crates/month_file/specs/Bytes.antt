-- The month file read byte by byte, in parts of any size, and that this prints what the file's definition says. Assumes nothing.
use Rattle.std.specs.Prelude.{◌≡◌, ℕ, ◌+◌, cond, eqb, ltb, length}
use mathlib.Core.List.{List, [], ◌∷◌, ◌++◌, flatten}
use Rattle.lines.specs.Fields.{longest}
use Rattle.file_lines.specs.File.{whole, unfinished, Progress, begins, refuses, next, following, settled_file}
use Rattle.file_lines.specs.State.{is_refused}

-- How far the bytes have come: the bytes of the line that has begun, how many lines were read before it, and how far these have come
pub record Reading : Type 0 where
  pub line : List ℕ
  pub count : ℕ
  pub progress : Progress

-- a byte 10: the line is read
unfoldable pub ended : Reading → Reading
ended r = let k = r.count + 1 in record { line = []; count = k; progress = next k r.progress (whole r.line) }

-- any other byte goes to the line; 26 as soon as the line is too long
unfoldable pub longer : Reading → ℕ → Reading
longer r b =
    cond (ltb (length r.line) longest)
    (record { line = r.line ++ (b ∷ []); count = r.count; progress = r.progress })
    (let k = r.count + 1 in record { line = []; count = k; progress = refuses k 26 })

-- one byte; after a refusal none matters
unfoldable pub byte : Reading → ℕ → Reading
byte r b = cond (is_refused r.progress) r (cond (eqb b 10) (ended r) (longer r b))

-- bytes, one by one
unfoldable pub fed : Reading → List ℕ → Reading
fed r [] = r
fed r (b ∷ bs) = fed (byte r b) bs

-- parts of any size, one by one
unfoldable pub fed_parts : Reading → List (List ℕ) → Reading
fed_parts r [] = r
fed_parts r (part ∷ parts) = fed_parts (fed r part) parts

-- before the first byte
abbrev pub start : Reading
start = record { line = []; count = 0; progress = begins }

-- after the last byte: what is printed
unfoldable pub finished : Reading → List ℕ
finished r = following r.count r.progress (unfinished r.line)

-- byte by byte, or in parts cut anywhere, the file's text is printed
pub record Promised : Type 0 where
  -- the bytes one by one give the file's text
  pub same : (bytes : List ℕ) → finished (fed start bytes) ≡ settled_file bytes
  -- and so do they in parts, however they are cut
  pub cut : (parts : List (List ℕ)) → finished (fed_parts start parts) ≡ settled_file (flatten parts)

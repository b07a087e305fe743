-- The machine that reads the file's bytes: how its state and the lent lists stand for how far the bytes have come. Assumes nothing.
use Rattle.std.specs.Prelude.{◌≡◌, ◌≢◌, ℕ, ◌+◌, ◌-◌, ◌≤◌, ◌<◌, false, List, length, take, drop, get_or}
use Rattle.lists.specs.Questions.{outcome}
use Rattle.lines.specs.Fields.{longest}
use Rattle.lines.specs.Reading.{read_number}
use Rattle.file_lines.specs.declared.FileStage.TheVariants.{Metering, Refused}
use Rattle.file_lines.specs.declared.MonthFile.{MonthFile}
use Rattle.file_lines.specs.File.{Progress, printed}
use Rattle.file_lines.specs.State.{Kept, progress_of, is_refused, Valid}
use Rattle.month_file.specs.Bytes.{Reading, ended, fed, start, finished}

-- how far the bytes have come, with the bytes of the line that has begun at the front of a list
unfoldable pub reading_of : MonthFile → Kept → List ℕ → Reading
reading_of f k line = record { line = take f.length line; count = f.count; progress = progress_of f k }

-- bytes taken from a part, from `from` on, to a line that has `at` bytes: they stop at `to`, at a byte 10, at the part's end, or where the line is full
pub record Collected (part : List ℕ) (from : ℕ) (old : List ℕ) (at : ℕ) (to : ℕ) (new : List ℕ) : Type 0 where
  pub low : from ≤ to
  pub high : to ≤ length part
  pub short : at + (to - from) ≤ longest
  pub full : to < length part → (get_or part to 0 ≡ 10 → ⊥) → at + (to - from) ≡ longest
  pub same : (count : ℕ) (p : Progress) → is_refused p ≡ false
      → fed (record { line = take at old; count = count; progress = p }) (drop from part)
      ≡ fed (record { line = take (at + (to - from)) new; count = count; progress = p }) (drop to part)

-- ---- parts of the file

-- no byte was read
pub record Fresh (f : MonthFile) (k : Kept) (line : List ℕ) : Type 0 where
  pub valid : Valid f k
  pub stands : reading_of f k line ≡ start

-- bytes of a part were taken, from `from` on, up to a byte 10: the rest of it, from `to` on, gives what they gave, once the line that has ended is taken
pub record Stepped (f : MonthFile) (k : Kept) (line part : List ℕ) (from : ℕ) (r : MonthFile) (after : List ℕ) (to : ℕ) : Type 0 where
  pub low : from < to
  pub high : to ≤ length part
  pub valid : Valid r k
  pub due : r.stage ≢ Refused
  pub ends : fed (reading_of f k line) (drop from part) ≡ fed (ended (reading_of r k after)) (drop to part)

-- a part was taken: the state and the lists stand for its bytes, one by one
pub record Fed (f : MonthFile) (k : Kept) (line part : List ℕ) (r : MonthFile) (q : Kept) (after : List ℕ) : Type 0 where
  pub valid : Valid r q
  pub stands : reading_of r q after ≡ fed (reading_of f k line) part

-- ---- the end of the file

-- a line without its byte 10: 26 to 30 come first, then 31
unfoldable pub unended_number : List ℕ → ℕ
unended_number line = outcome (read_number line 513) 31 (λ n. n)

-- the month is open and its last period is settled
pub record Finishable (f : MonthFile) (k : Kept) : Type 0 where
  pub valid : Valid f k
  pub settling : f.stage ≡ Metering
  pub last : f.month.due ≡ f.month.periods + 1

-- the input has ended: r is refused, or its last period is settled, and it prints what f and the line that has begun print
pub record AtEnd (f : MonthFile) (k : Kept) (line : List ℕ) (r : MonthFile) : Type 0 where
  pub prints : finished (reading_of f k line) ≡ printed r.count (progress_of r k)
  pub finishable : r.stage ≢ Refused → Finishable r k

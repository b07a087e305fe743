-- The state of a month file, and the lent lists, one line after another: how they stand for how far the lines have come. Assumes nothing.
use Rattle.std.specs.Prelude.{◌≡◌, ◌≢◌, ℕ, ◌+◌, ◌*◌, ◌≤◌, ◌<◌, Bool, true, false, List, eqb, ℤ, length, take}
use Rattle.lists.specs.Questions.{outcome}
use Rattle.plants.specs.declared.Plant.{Plant}
use Rattle.ledger.specs.Ledger.{Ledger, in_bounds}
use Rattle.lines.specs.Fields.{longest}
use Rattle.month.specs.declared.Month.{Month}
use Rattle.questions.specs.Questions.{rows_number}
use Rattle.month.specs.Questions.{is_open}
use Rattle.month.specs.Calls.{blank}
use Rattle.file_lines.specs.declared.FileStage.{FileStage}
use Rattle.file_lines.specs.declared.FileStage.TheVariants as stage
use Rattle.file_lines.specs.declared.FileStage.TheVariants.{First, Metering, Refused}
use Rattle.file_lines.specs.declared.MonthFile.{MonthFile}
use Rattle.file_lines.specs.File.{Progress, begins, gathers, settles, refuses, opened, settled, Sizes, gather_turn, meter_turn}

-- The lent lists that hold what was read: the plant table, the profile, the ledger
pub record Kept : Type 0 where
  pub plants : List Plant
  pub profile : List ℕ
  pub allotted : List ℕ
  pub accounts : List ℤ

-- ... of these four lists
abbrev pub kept : List Plant → List ℕ → List ℕ → List ℤ → Kept
kept plants profile allotted accounts = record { plants = plants; profile = profile; allotted = allotted; accounts = accounts }

-- the ledger of n plants
unfoldable pub ledger_of : ℕ → Kept → Ledger
ledger_of n k = record { allotted = take (4 * n) k.allotted; accounts = take (2 * n) k.accounts }

-- what the first line named
abbrev pub sizes_of : MonthFile → Sizes
sizes_of f = record { periods = f.periods; plants = f.plants; tariff = f.tariff }

-- how far the lines have come, at a stage
unfoldable pub progress_at : FileStage → MonthFile → Kept → Progress
progress_at First f k = begins
progress_at stage.Gathering f k = gathers (sizes_of f) (take f.rows k.plants) (take f.figures k.profile)
progress_at Metering f k = settles (take f.month.plants k.plants) (take f.month.periods k.profile) f.month (ledger_of f.month.plants k)
progress_at Refused f k = refuses f.count f.number

-- ... at the file's own
unfoldable pub progress_of : MonthFile → Kept → Progress
progress_of f k = progress_at f.stage f k

-- whether a line was refused
unfoldable pub is_refused : Progress → Bool
is_refused begins = false
is_refused (gathers s plants profile) = false
is_refused (settles plants profile m l) = false
is_refused (refuses k n) = true

-- ---- what holds of the state and the lists at every line

-- the lent lists are long enough for every month
pub record Lent (k : Kept) : Type 0 where
  pub plants : 512 ≤ length k.plants
  pub profile : 744 ≤ length k.profile
  pub allotted : 4 * 512 ≤ length k.allotted
  pub accounts : 2 * 512 ≤ length k.accounts

-- among P and H lines: what the first line names is in limits, and each line so far was one of these
pub record Gathering (f : MonthFile) : Type 0 where
  pub plants : f.plants ≤ 512
  pub periods : f.periods ≤ 744
  pub rows : f.rows ≤ f.plants
  pub figures : f.figures < f.periods
  pub counted : f.count ≡ 1 + f.rows + f.figures

-- among G lines, of the month alone: it is open, its sizes are in limits, and each line so far was the first, a P, an H or a G line
pub record Counted (m : Month) (count : ℕ) : Type 0 where
  pub is_opened : is_open m.stage ≡ true
  pub plants : m.plants ≤ 512
  pub some : 1 ≤ m.periods
  pub periods : m.periods ≤ 744
  pub due : m.due ≤ m.periods + 1
  pub lines : count ≡ m.plants + m.periods + m.due

-- ... the table has passed 5 to 8, and the ledger is in its bounds
pub record Settling (f : MonthFile) (k : Kept) : Type 0 where
  pub counted : Counted f.month f.count
  pub rows : rows_number 0 0 (take f.month.plants k.plants) ≡ 0
  pub bounded : in_bounds (ledger_of f.month.plants k) ≡ true

-- the lists are long enough, the line that has begun has at most 8,192 bytes, no line is counted before the first, and among P, H and G lines it is as above
pub record Valid (f : MonthFile) (k : Kept) : Type 0 where
  pub lent : Lent k
  pub short : f.length ≤ longest
  pub begun : f.stage ≡ First → f.count ≡ 0
  pub gathering : f.stage ≡ stage.Gathering → Gathering f
  pub settling : f.stage ≡ Metering → Settling f k

-- a line was read: the state r and the lists stand for this progress
pub record Moved (f : MonthFile) (p : Progress) (r : MonthFile) (k : Kept) : Type 0 where
  pub empty : r.length ≡ 0
  pub counted : r.count ≡ f.count + 1
  pub stands : progress_of r k ≡ p
  pub valid : Valid r k

-- ---- the state, line by line

-- the state before the first byte
abbrev pub at_start : MonthFile
at_start = record { stage = First; length = 0; count = 0; plants = 0; periods = 0; tariff = 0; rows = 0; figures = 0; month = blank; number = 0 }

-- a state with another stage, length, count, month and number
abbrev pub file_with : MonthFile → FileStage → ℕ → ℕ → Month → ℕ → MonthFile
file_with f at length count month number =
    record {
      stage = at;
      length = length;
      count = count;
      plants = f.plants;
      periods = f.periods;
      tariff = f.tariff;
      rows = f.rows;
      figures = f.figures;
      month = month;
      number = number;
    }

-- the state with one more line read, at a stage
unfoldable pub at_stage : MonthFile → FileStage → MonthFile
at_stage f at = file_with f at 0 (f.count + 1) f.month f.number

-- a state with another number
abbrev pub numbered : MonthFile → ℕ → MonthFile
numbered f n = file_with f f.stage f.length f.count f.month n

-- a state with another month
abbrev pub monthed : MonthFile → Month → MonthFile
monthed f m = file_with f f.stage f.length f.count m f.number

-- the state with one more line read, refused
unfoldable pub at_refusal : MonthFile → ℕ → MonthFile
at_refusal f n = numbered (at_stage f Refused) n

-- ... once open or settle has answered: refused, or among G lines with its month
unfoldable pub at_call : MonthFile → ℕ → Month → MonthFile
at_call f n m = outcome n (monthed (at_stage f Metering) m) (at_refusal f)

-- ---- a line that is taken

-- 31, at a stage: is a line with this start and first figure in turn?
unfoldable pub turn_at : FileStage → MonthFile → ℕ → ℕ → Bool
turn_at First f start period = eqb start 1
turn_at stage.Gathering f start period = gather_turn f.plants f.rows f.figures start period
turn_at Metering f start period = meter_turn f.month start period
turn_at Refused f start period = false

-- ... at the file's own
unfoldable pub turn : MonthFile → ℕ → ℕ → Bool
turn f start period = turn_at f.stage f start period

-- what opening asks: the first line's sizes in limits, and each line so far but the one just read was the first, a P or an H line
pub record Openable (f : MonthFile) (k : Kept) : Type 0 where
  pub lent : Lent k
  pub plants : f.plants ≤ 512
  pub periods : f.periods ≤ 744
  pub counted : f.count ≡ f.plants + f.periods

-- the month of the rows and the profile that are kept, opened
unfoldable pub opened_of : MonthFile → Kept → Progress
opened_of f k = opened (f.count + 1) (sizes_of f) (take f.plants k.plants) (take f.periods k.profile)

-- the period due, settled with the metered figures of its line
unfoldable pub settled_of : MonthFile → Kept → List ℕ → Progress
settled_of f k metered =
    settled (f.count + 1) (take f.month.plants k.plants) (take f.month.periods k.profile) f.month (ledger_of f.month.plants k) metered

-- the figures of a line in turn are as many as its taking reads
pub record Figured (f : MonthFile) (figures : List ℕ) : Type 0 where
  pub due : f.stage ≢ Refused
  pub some : 2 ≤ length figures
  pub sizes : f.stage ≡ First → 3 ≤ length figures
  pub row : f.stage ≡ stage.Gathering → f.rows < f.plants → 5 ≤ length figures

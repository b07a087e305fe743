-- The month file's state and its lists as a C program keeps them. Assumes nothing.
use Rattle.std.specs.Prelude.{◌≡◌, ◌≤◌, ◌<◌, List, ℕ, ℤ, cond, eqb, length}
use Rattle.records.specs.Records.{put_rows, rows_of, table_places}
use Rattle.file_lines.specs.declared.FileStage.{FileStage}
use Rattle.file_lines.specs.declared.FileStage.TheVariants.{First, Gathering, Metering, Refused}
use Rattle.file_lines.specs.declared.MonthFile.{MonthFile}
use Rattle.file_lines.specs.State.{Kept, kept}
use Rattle.month_file.specs.Run.{place}
use Rattle.file_calls.specs.Checking.{FedAny, FinishedAny}
use Rattle.file_calls.specs.declared.FinishAnswer.{FinishAnswer}
use Rattle.kept_file.specs.declared.KeptFile.{KeptFile}
use Rattle.kept_file.specs.declared.KeptFed.{KeptFed}
use Rattle.kept_month.specs.Months.{month_of, kept_of}

-- ---- the state

-- every number is read as a stage: any above 2 as refused
unfoldable pub stage_of : ℕ → FileStage
stage_of n = cond (eqb n 0) First (cond (eqb n 1) Gathering (cond (eqb n 2) Metering Refused))

-- ... and the number of a stage
unfoldable pub stage_number : FileStage → ℕ
stage_number First = 0
stage_number Gathering = 1
stage_number Metering = 2
stage_number Refused = 3

-- the state that C's stands for
unfoldable pub file_of : KeptFile → MonthFile
file_of k =
    record {
      stage = stage_of k.stage;
      length = k.length;
      count = k.count;
      plants = k.plants;
      periods = k.periods;
      tariff = k.tariff;
      rows = k.rows;
      figures = k.figures;
      month = month_of k.month;
      number = k.number;
    }

-- how a state is kept for C, with this number for its stage
unfoldable pub kept_at : ℕ → MonthFile → KeptFile
kept_at stage f =
    record {
      stage = stage;
      length = f.length;
      count = f.count;
      plants = f.plants;
      periods = f.periods;
      tariff = f.tariff;
      rows = f.rows;
      figures = f.figures;
      month = kept_of f.month;
      number = f.number;
    }

-- ... with its own
unfoldable pub kept_file_of : MonthFile → KeptFile
kept_file_of f = kept_at (stage_number f.stage) f

-- ---- the lists

-- The lists that C lends, to be kept from call to call: the plant table as five columns, the profile, the ledger
pub record KeptLists : Type 0 where
  pub columns : List ℕ
  pub profile : List ℕ
  pub allotted : List ℕ
  pub accounts : List ℤ

-- ... of these four lists
abbrev pub kept_lists : List ℕ → List ℕ → List ℕ → List ℤ → KeptLists
kept_lists columns profile allotted accounts = record { columns = columns; profile = profile; allotted = allotted; accounts = accounts }

-- the lists that they stand for
unfoldable pub meant : KeptLists → Kept
meant l = kept (rows_of 512 l.columns) l.profile l.allotted l.accounts

-- ---- the calls

-- feed: 30 where the columns have too few places; else what `feed_any` answers and leaves on the state and the lists that are meant. The columns
-- afterwards hold the rows that it leaves, and nothing else in them has changed. Refused, the caller's own state comes back, figure for figure, and
-- nothing is written. A state that was refused before comes back with the stage that it came with, its month with the stage that is meant
pub record FileFed (k : KeptFile) (lists : KeptLists) (line part : List ℕ) (r : KeptFed) (after : KeptLists) (lineAfter : List ℕ) : Type 0 where
  pub short : length lists.columns < table_places → r.number ≡ 30
  pub fed : table_places ≤ length lists.columns
      → FedAny (place (file_of k) (meant lists) line) part r.number (place (file_of r.file) (meant after) lineAfter)
  pub columns : after.columns ≡ put_rows lists.columns 0 (rows_of 512 after.columns)
  pub same : (r.number ≡ 0 → ⊥) → (r.file ≡ k) × (after ≡ lists) × (lineAfter ≡ line)
  pub stays : r.number ≡ 0 → 2 < k.stage → r.file ≡ kept_at k.stage (file_of k)

-- finish: 30 where the columns have too few places, and nothing is written; else what `finish_any` answers and leaves
pub record FileFinished (k : KeptFile) (lists : KeptLists) (line text : List ℕ) (r : FinishAnswer) (after : List ℕ) : Type 0 where
  pub short : length lists.columns < table_places → (r.number ≡ 30) × (r.length ≡ 0) × (after ≡ text)
  pub finished : table_places ≤ length lists.columns → FinishedAny (place (file_of k) (meant lists) line) text r after

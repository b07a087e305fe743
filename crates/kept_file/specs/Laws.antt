-- What is promised of a month file's state as C keeps it. Assumes nothing.
use Rattle.std.specs.Prelude.{◌≡◌}
use Rattle.file_lines.specs.declared.MonthFile.{MonthFile}
use Rattle.kept_file.specs.Files.{file_of, kept_file_of}

-- a state that is kept for C stands for itself: begin's stands for `at_start`, and the next call goes on from it; of feed `FileFed` says so
pub record Files : Type 0 where
  pub back : (f : MonthFile) → file_of (kept_file_of f) ≡ f

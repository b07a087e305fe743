-- The machine over a whole file. Assumes nothing.
use mathlib.Core.Path.{◌≡◌, refl, sym, ap, subst, ◌∙◌}
use mathlib.Core.List.{List, ◌∷◌, flatten}
use Prim.Native.Nat.{ℕ}
use native.Mathlib.Omega.{arith}
use Rattle.statement.specs.Writing.{Fills}
use Rattle.file_lines.specs.declared.MonthFile.{MonthFile}
use Rattle.file_lines.specs.File.{settled_file}
use Rattle.month_file.specs.Bytes.{Reading, fed_parts, finished}
use Rattle.file_lines.specs.State.{Kept, progress_at, progress_of, Lent, Valid, at_start}
use Rattle.month_file.specs.Machine.{reading_of, Fresh}
use Rattle.month_file.specs.Run.{Place, Feeds, none, more, Promised}
use Rattle.file_lines.proofs.Moves.{valid_at}
use Rattle.file_lines.specs.declared.FileStage.TheVariants.{First}
use Rattle.month_file.proofs.Bytes as bytes

abbrev read_at : Place → Reading
read_at a = reading_of a.file a.lists a.line

feeds_valid : {a b : Place} {parts : List (List ℕ)} → Valid a.file a.lists → Feeds a parts b → Valid b.file b.lists
feeds_valid v none = v
feeds_valid v (more f r) = feeds_valid f.valid r

feeds_stand : {a b : Place} {parts : List (List ℕ)} → Feeds a parts b → read_at b ≡ fed_parts (read_at a) parts
unfolding fed_parts
feeds_stand none = refl
feeds_stand {parts = part ∷ parts} (more f r) = feeds_stand r ∙ ap (λ (q : Reading). fed_parts q parts) f.stands

feeds_written : {a b : Place} {parts : List (List ℕ)} {before : List ℕ} {n : ℕ} {after : List ℕ} → Fresh a.file a.lists a.line → Feeds a parts b
    → Fills (finished (read_at b)) before n after → Fills (settled_file (flatten parts)) before n after
feeds_written {parts = parts} {before} {n} {after} s r h =
    subst (λ (t : List ℕ). Fills t before n after)
    (ap finished (feeds_stand r ∙ ap (λ (q : Reading). fed_parts q parts) s.stands) ∙ (bytes.promised).cut parts) h

-- ---- before the first byte

start-fresh : (k : Kept) (line : List ℕ) → Lent k → Fresh at_start k line
unfolding reading_of progress_at progress_of
start-fresh k line lent =
    record { valid = valid_at at_start k lent (omega arith) First refl refl; stands = refl }

-- what `fresh` answers
pub fresh_is : {f : MonthFile} → f ≡ at_start → (k : Kept) (line : List ℕ) → Lent k → Fresh f k line
fresh_is e k line lent = subst (λ (f : MonthFile). Fresh f k line) (sym e) (start-fresh k line lent)

pub promised : Promised
promised = record { fresh = start-fresh; valid = λ s r. feeds_valid s.valid r; written = feeds_written }

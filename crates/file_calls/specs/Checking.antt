-- Feed and finish for any caller: lists that are too short, and a state that does not fit them, are refused, and nothing is written. Assumes nothing.
use Rattle.std.specs.Prelude.{◌≡◌, Bool, true, false, ℕ, ◌≤◌, ◌<◌, Result, Ok, Err, length}
use mathlib.Core.List.{List, [], ◌∷◌, flatten}
use Rattle.lines.specs.Fields.{longest}
use Rattle.statement.specs.Statement.{room_for}
use Rattle.statement.specs.Writing.{Fills}
use Rattle.refusals.specs.declared.Refusal.{Refusal}
use Rattle.refusals.specs.Numbers.{refusal_number}
use Rattle.file_calls.specs.declared.FinishAnswer.{FinishAnswer}
use Rattle.file_lines.specs.File.{settled_file}
use Rattle.month_file.specs.Bytes.{finished}
use Rattle.file_lines.specs.State.{Lent, Valid}
use Rattle.month_file.specs.Machine.{reading_of, Fresh, Fed}
use Rattle.month_file.specs.Run.{Place, place}

-- the answer is yes where it holds, and no where it does not
pub record Decides (holds : Type 0) (answer : Bool) : Type 0 where
  pub yes : answer ≡ true → holds
  pub no : answer ≡ false → holds → ⊥

-- ---- what feed and finish both ask

-- the lists that a caller keeps from call to call, the line that has begun among them, are long enough for every month
pub record FileRoom (a : Place) : Type 0 where
  pub bytes : longest ≤ length a.line
  pub lent : Lent a.lists

-- 30: are the lists long enough? 31: do state and lists fit together, as after every feed?
pub data FileNumber : Place → ℕ → Type 0 where
  short : {a : Place} → (FileRoom a → ⊥) → FileNumber a 30
  unknown : {a : Place} → FileRoom a → (Valid a.file a.lists → ⊥) → FileNumber a 31
  good : {a : Place} → FileRoom a → Valid a.file a.lists → FileNumber a 0

-- ---- feed

-- A part is fed at `a`, n is answered, and `b` is left. Refused, the state comes back as it came, and nothing is written; else the part is taken
pub record FedAny (a : Place) (part : List ℕ) (n : ℕ) (b : Place) : Type 0 where
  pub number : FileNumber a n
  pub refused : (n ≡ 0 → ⊥) → b ≡ a
  pub taken : n ≡ 0 → Fed a.file a.lists a.line part b.file b.lists b.line

-- ---- finish

-- 30, then 22: are 65,664 bytes lent for the text? then 31
pub data FinishNumber : Place → List ℕ → ℕ → Type 0 where
  narrow : {a : Place} {text : List ℕ} → FileRoom a → length text < room_for 512 → FinishNumber a text 22
  wide : {a : Place} {text : List ℕ} {n : ℕ} → (FileRoom a → room_for 512 ≤ length text) → FileNumber a n → FinishNumber a text n

-- an answer as C gets it
abbrev pub finish_answer : Result ℕ Refusal → FinishAnswer
finish_answer (Ok length) = record { number = 0; length = length }
finish_answer (Err r) = record { number = refusal_number r; length = 0 }

-- Only the text is lent to be written. Refused, nothing is written; else what is printed stands at its front
pub record FinishedAny (a : Place) (text : List ℕ) (r : FinishAnswer) (after : List ℕ) : Type 0 where
  pub number : FinishNumber a text r.number
  pub refused : (r.number ≡ 0 → ⊥) → (r.length ≡ 0) × (after ≡ text)
  pub written : r.number ≡ 0 → Fills (finished (reading_of a.file a.lists a.line)) text r.length after

-- ---- a file from its first part on

-- parts fed one after another by any caller who leaves the lists alone in between, each answered with a number of which this holds
pub data Answered (holds : ℕ → Type 0) : Place → List (List ℕ) → Place → Type 0 where
  none : {a : Place} → Answered holds a [] a
  more : {a b c : Place} {part : List ℕ} {parts : List (List ℕ)} {n : ℕ} → FedAny a part n b → holds n → Answered holds b parts c → Answered holds a (part ∷ parts) c

-- what is promised of a file that any caller feeds, from a fresh state on
pub record AnyPromised : Type 1 where
  -- whatever was answered before, neither feed nor finish answers 31
  pub known : {holds : ℕ → Type 0} {a b : Place} {parts : List (List ℕ)} {n : ℕ} → (Lent a.lists → Fresh a.file a.lists a.line) → Answered holds a parts b
      → FileNumber b n → n ≡ 31 → ⊥
  pub known_end : {holds : ℕ → Type 0} {a b : Place} {parts : List (List ℕ)} {line text : List ℕ} {n : ℕ} → (Lent a.lists → Fresh a.file a.lists a.line)
      → Answered holds a parts b → FinishNumber (place b.file b.lists line) text n → n ≡ 31 → ⊥
  -- what finish writes after parts that were all taken is what the file's definition prints for their bytes, however they were cut
  pub written : {a b : Place} {parts : List (List ℕ)} {text after : List ℕ} {r : FinishAnswer} → Fresh a.file a.lists a.line
      → Answered (λ n. n ≡ 0) a parts b → FinishedAny b text r after → r.number ≡ 0 → Fills (settled_file (flatten parts)) text r.length after

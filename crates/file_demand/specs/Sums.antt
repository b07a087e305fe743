-- A whole file, from its bytes to the sums of demand 3: its lines, what they hold, the calls and the hours of its month, and how its statement
-- adds up. It is settled, and any other is refused. Assumes nothing.
use Rattle.std.specs.Prelude.{◌≡◌, ℕ, ◌+◌, ◌*◌, ◌≤◌, ◌<◌, List, [], ◌∷◌, ◌++◌, map, length, drop, get_or, replicate}
use Rattle.std.proofs.Math.Option.{none, some}
use Rattle.lists.specs.Lists.{table_from}
use Rattle.lines.specs.Reading.{line_start, read_number}
use Rattle.plants.specs.declared.Plant.{Plant}
use Rattle.hour.specs.Hour.{Hour, hour_of}
use Rattle.ledger.specs.Ledger.{zeros}
use Rattle.statement.specs.Statement.{statement_text}
use Rattle.month.specs.Calls.{blank}
use Rattle.demand.specs.Tally.{Call, opens, settles, closes, State, after, Entry, entries, Tally, tally, summed, IsTally}
use Rattle.file_lines.specs.File.{FileLine, whole, lines, Sizes, figures_of, plant_of, refusal, settled_file, sizes_named}

-- what the first line names
abbrev pub sizes_in : List ℕ → Sizes
sizes_in first = sizes_named (figures_of first)

-- 'P lines (submarket, number, Q, loss, availability)': the plant table
abbrev pub plants_in : List (List ℕ) → List Plant
plants_in plant_lines = map (λ (l : List ℕ). plant_of (figures_of l)) plant_lines

-- 'H lines (period, kWh)': the profile
abbrev pub profile_in : List (List ℕ) → List ℕ
profile_in profile_lines = map (λ (l : List ℕ). get_or (figures_of l) 1 0) profile_lines

-- 'G lines (period, one figure a plant)': the metered figures, period by period
abbrev pub metered_in : List (List ℕ) → List (List ℕ)
metered_in meter_lines = map (λ (l : List ℕ). drop 1 (figures_of l)) meter_lines

-- the periods that H or G lines bear
abbrev pub periods_in : List (List ℕ) → List ℕ
periods_in ls = map (λ (l : List ℕ). get_or (figures_of l) 0 0) ls

-- '.. settles after each G line', with an allotment list of four a plant, and closes
abbrev pub hour_calls : List Plant → List ℕ → List (List ℕ) → List Call
hour_calls plants profile metered = map (λ (g : List ℕ). settles plants profile g (replicate (4 * length plants) 0)) metered ++ (closes ∷ [])

-- '.. opens after the last H line': the calls of a file
abbrev pub file_calls : List Plant → List ℕ → ℕ → List (List ℕ) → List Call
file_calls plants profile tariff metered = opens plants profile tariff ∷ hour_calls plants profile metered

-- ... and what they begin with: a blank month, and a ledger of zeros
abbrev pub unopened : List Plant → State
unopened plants = record { month = blank; ledger = zeros (length plants) }

-- 'A call is accepted when it answers number 0': all calls of a list are
abbrev pub Accepted : State → List Call → Type 0
Accepted s calls = map (λ (e : Entry). e.answered) (entries s calls) ≡ map (λ _. 0) calls

-- the hours of the metered figures after some hours, the latest first
unfoldable pub file_hours : List Plant → List ℕ → List Hour → List (List ℕ) → List Hour
file_hours plants profile hs [] = hs
file_hours plants profile hs (g ∷ gs) = file_hours plants profile (hour_of plants profile g (length hs + 1) ∷ hs) gs

-- the tally of hours, the latest first
abbrev pub tally_of : ℕ → ℕ → List Hour → Tally
tally_of p tariff hs = record { figures = summed p tariff hs; tariff = tariff; count = length hs }

-- A text is the statement of the month of these values: of the ledger that the calls leave, which is the tally of the file's hours and adds up over
-- them, as demand 3 says
pub record Stated (plants : List Plant) (profile : List ℕ) (tariff : ℕ) (metered : List (List ℕ)) (text : List ℕ) : Type 0 where
  pub is_statement : text ≡ statement_text (length metered) plants (after (unopened plants) (file_calls plants profile tariff metered)).ledger
  pub is_tally : tally none (entries (unopened plants) (file_calls plants profile tariff metered))
      ≡ some (tally_of (length plants) tariff (file_hours plants profile [] metered))
  pub sums : let hours = file_hours plants profile [] metered in
      IsTally (after (unopened plants) (file_calls plants profile tariff metered)) (tally_of (length plants) tariff hours) hours

-- n lines of one start, with periods that rise by 1
pub record Rising (start from n : ℕ) (ls : List (List ℕ)) : Type 0 where
  pub starts : map line_start ls ≡ replicate n start
  pub periods : periods_in ls ≡ table_from (λ (k : ℕ). k) from n

-- 'Reading a line': 26 to 30 are answered yes of each line, with 513 places for its figures
abbrev pub Readable : List FileLine → Type 0
Readable ls = map (λ (l : FileLine). read_number l.bytes 513) ls ≡ map (λ _. 0) ls

-- A file that meets the questions: '`MRE,1,periods,plants,TEO`; then P lines; H lines; G lines. Periods rise from 1', each line with its byte 10; each
-- can be read, and no call is refused. Starts are numbered: 1 `MRE,1,`, 2 `P,`, 3 `H,`, 4 `G,`
pub record WholeFile (ls : List FileLine) : Type 0 where
  pub first : List ℕ
  pub plant_lines : List (List ℕ)
  pub profile_lines : List (List ℕ)
  pub meter_lines : List (List ℕ)
  pub is_file : ls ≡ map whole (first ∷ (plant_lines ++ (profile_lines ++ meter_lines)))
  pub readable : Readable ls
  pub begins : line_start first ≡ 1
  pub rows : map line_start plant_lines ≡ replicate (sizes_in first).plants 2
  pub profile : Rising 3 1 (sizes_in first).periods profile_lines
  pub meters : Rising 4 1 (sizes_in first).periods meter_lines
  pub accepted : Accepted (unopened (plants_in plant_lines)) (file_calls (plants_in plant_lines) (profile_in profile_lines) (sizes_in first).tariff (metered_in meter_lines))

-- A text is the statement of a whole file
abbrev pub SettledAs : {ls : List FileLine} → WholeFile ls → List ℕ → Type 0
SettledAs w text = Stated (plants_in w.plant_lines) (profile_in w.profile_lines) (sizes_in w.first).tariff (metered_in w.meter_lines) text

-- Every month file that meets the questions is worked to its end
abbrev pub SettledAs·holds : Type 0
SettledAs·holds = (bytes : List ℕ) (w : WholeFile (lines bytes)) → SettledAs w (settled_file bytes)

-- What is printed for a file: the statement of a whole file; or, of a file that is not whole, 'a refusal', of one of its lines or of 'the line after
-- the last', with a number other than 0. There is no third
pub data Outcome (ls : List FileLine) (text : List ℕ) : Type 0 where
  settled : (w : WholeFile ls) → SettledAs w text → Outcome ls text
  refused : (line number : ℕ) → 1 ≤ line → line ≤ length ls + 1 → 0 < number → text ≡ refusal line number → (WholeFile ls → ⊥) → Outcome ls text

-- ... of every file
abbrev pub Outcome·holds : Type 0
Outcome·holds = (bytes : List ℕ) → Outcome (lines bytes) (settled_file bytes)

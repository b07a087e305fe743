-- The month file, from its bytes to the bytes that `settle-month` prints (document 01, 'The file and its statement'). Assumes nothing.
use Rattle.std.specs.Prelude.{ℕ, ◌+◌, ◌*◌, Bool, true, false, cond, ◌&&◌, List, [], ◌∷◌, ◌++◌, map, eqb, leb, ltb, length, drop, get_or, replicate}
use Rattle.lists.specs.Questions.{outcome}
use Rattle.figures.specs.Figures.{figure, value}
use Rattle.lines.specs.Reading.{line_start, line_fields, read_number}
use Rattle.plants.specs.declared.Plant.{Plant}
use Rattle.ledger.specs.Ledger.{Ledger, zeros}
use Rattle.month.specs.declared.Month.{Month}
use Rattle.questions.specs.Questions.{sizes_number}
use Rattle.month.specs.Calls.{blank, open_call, settle_call, close_call}
use Rattle.month.specs.Statement.{statement_of}
use Rattle.statement.specs.Statement.{line}

-- A line of the file: its bytes, and whether a byte 10 ended it
pub record FileLine : Type 0 where
  pub bytes : List ℕ
  pub ended : Bool

-- ... a line that a byte 10 ended
abbrev pub whole : List ℕ → FileLine
whole bytes = record { bytes = bytes; ended = true }

-- What stands after the last byte 10, if it has bytes, is a line without its byte 10
unfoldable pub unfinished : List ℕ → List FileLine
unfinished [] = []
unfinished (b ∷ bs) = record { bytes = b ∷ bs; ended = false } ∷ []

-- the lines, parted at byte 10, after some bytes of the first
unfoldable pub lines_after : List ℕ → List ℕ → List FileLine
lines_after begun [] = unfinished begun
lines_after begun (b ∷ bs) = cond (eqb b 10) (whole begun ∷ lines_after [] bs) (lines_after (begun ++ (b ∷ [])) bs)

-- ... the lines of a whole file
unfoldable pub lines : List ℕ → List FileLine
lines bytes = lines_after [] bytes

-- What the first line names
pub record Sizes : Type 0 where
  pub periods : ℕ
  pub plants : ℕ
  pub tariff : ℕ

-- How far the lines have come: the first line is due; P and H lines are due, with the rows and the profile figures so far; the month is
-- open, and its G lines are due; or a line, by its number, was refused with a number
pub data Progress : Type 0 where
  begins : Progress
  gathers : Sizes → List Plant → List ℕ → Progress
  settles : List Plant → List ℕ → Month → Ledger → Progress
  refuses : ℕ → ℕ → Progress

-- the figures of a line
abbrev pub figures_of : List ℕ → List ℕ
figures_of line = map value (line_fields line)

-- 'P lines (submarket, number, Q, loss, availability)'
unfoldable pub plant_of : List ℕ → Plant
plant_of figures =
    record {
      submarket = get_or figures 0 0;
      number = get_or figures 1 0;
      guarantee = get_or figures 2 0;
      loss = get_or figures 3 0;
      availability = get_or figures 4 0;
    }

-- `MRE,1,periods,plants,TEO`: what the first line's figures name
abbrev pub sizes_named : List ℕ → Sizes
sizes_named figures = record { periods = get_or figures 0 0; plants = get_or figures 1 0; tariff = get_or figures 2 0 }

-- 31, among P lines (start 2) and then H lines (3), with so many plants named, so many rows and so many profile figures read: is a line with this start and
-- first figure in turn? 'An H or G line whose period is not the next is out of turn'
abbrev pub gather_turn : ℕ → ℕ → ℕ → ℕ → ℕ → Bool
gather_turn plants rows figures start period = cond (ltb rows plants) (eqb start 2) (eqb start 3 && eqb period (figures + 1))

-- ... among G lines (4): any line after the last is out of turn
abbrev pub meter_turn : Month → ℕ → ℕ → Bool
meter_turn m start period = eqb start 4 && (leb m.due m.periods && eqb period m.due)

-- ... in the whole, of which `MRE,1,` (1) is the first line
unfoldable pub in_turn : Progress → ℕ → List ℕ → Bool
in_turn begins start figures = eqb start 1
in_turn (gathers s plants profile) start figures = gather_turn s.plants (length plants) (length profile) start (get_or figures 0 0)
in_turn (settles plants profile m l) start figures = meter_turn m start (get_or figures 0 0)
in_turn (refuses k n) start figures = false

-- 'It puts 2 to 4 on the first line'
unfoldable pub begun : ℕ → Sizes → Progress
begun k s = outcome (sizes_number s.plants s.periods s.tariff) (gathers s [] []) (refuses k)

-- '.. opens after the last H line': a blank month, and a ledger of zeros
unfoldable pub opened : ℕ → Sizes → List Plant → List ℕ → Progress
opened k s plants profile =
    let r = open_call blank plants profile s.tariff (zeros (length plants)) in
    outcome r.answer.number (settles plants profile r.answer.month r.ledger) (refuses k)

-- '.. settles after each G line': the figures after the period, and an allotment list of four a plant
unfoldable pub settled : ℕ → List Plant → List ℕ → Month → Ledger → List ℕ → Progress
settled k plants profile m l metered =
    let r = settle_call m plants profile metered (replicate (4 * length plants) 0) l in
    outcome r.answer.number (settles plants profile r.answer.month r.ledger) (refuses k)

-- the figures of a line in turn, the k-th, are taken: 'the other questions'
unfoldable pub taken : ℕ → Progress → List ℕ → Progress
taken k begins figures = begun k (sizes_named figures)
taken k (gathers s plants profile) figures =
    cond (ltb (length plants) s.plants) (gathers s (plants ++ (plant_of figures ∷ [])) profile)
    (let more = profile ++ (get_or figures 1 0 ∷ []) in
    cond (eqb (length more) s.periods) (opened k s plants more) (gathers s plants more))
taken k (settles plants profile m l) figures = settled k plants profile m l (drop 1 figures)
taken k (refuses j n) figures = refuses j n

-- 'On one line 26 to 30 come first, then 31, then the other questions': the k-th line is read, with 513 places for its figures
unfoldable pub read : ℕ → Progress → FileLine → Progress
read k p l =
    outcome (read_number l.bytes 513)
    (let figures = figures_of l.bytes in
    cond (l.ended && in_turn p (line_start l.bytes) figures) (taken k p figures) (refuses k 31))
    (refuses k)

-- after a refusal nothing is read
unfoldable pub next : ℕ → Progress → FileLine → Progress
next k begins l = read k begins l
next k (gathers s plants profile) l = read k (gathers s plants profile) l
next k (settles plants profile m g) l = read k (settles plants profile m g) l
next k (refuses j n) l = refuses j n

-- 'A refusal prints `R,line,number` alone'
unfoldable pub refusal : ℕ → ℕ → List ℕ
refusal k n = line ((82 ∷ []) ∷ figure k ∷ figure n ∷ [])

-- What is printed after the last line, the k-th: 'the statement after close', or the refusal. An early end gives 31, 'as the line after the last'
unfoldable pub printed : ℕ → Progress → List ℕ
printed k begins = refusal (k + 1) 31
printed k (gathers s plants profile) = refusal (k + 1) 31
printed k (settles plants profile m l) =
    cond (eqb m.due (m.periods + 1))
    (let r = close_call m in outcome r.number (statement_of r.month plants l) (refusal k))
    (refusal (k + 1) 31)
printed k (refuses j n) = refusal j n

-- the lines that follow the k-th; 'a refusal bears the number of the line just read'
unfoldable pub following : ℕ → Progress → List FileLine → List ℕ
following k p [] = printed k p
following k p (l ∷ ls) = following (k + 1) (next (k + 1) p l) ls

-- The file: what `settle-month` prints for the bytes that it reads
unfoldable pub settled_file : List ℕ → List ℕ
settled_file bytes = following 0 begins (lines bytes)

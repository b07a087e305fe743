-- What is promised of commas and of lines as they are written. Assumes nothing.
use Rattle.std.specs.Prelude.{◌≡◌, List, ◌∷◌, ◌++◌, map, ℕ, ◌-◌, ◌^◌, ◌≤◌, ◌<◌, length, drop, get_or}
use Rattle.lists.specs.Lists.{Within}
use Rattle.figures.specs.Figures.{figure, by_commas}
use Rattle.lines.specs.Fields.{next_comma, longest}
use Rattle.lines.specs.Reading.{meter_start, read_call}

-- a G line as it is written: the period, and the metered kWh of each plant
unfoldable pub meter_line : ℕ → List ℕ → List ℕ
meter_line period metered = meter_start ++ by_commas (map figure (period ∷ metered))

-- What is promised of the next comma, and of a G line that is read back
pub record Promised : Type 0 where
  -- from each start in the line: the first comma there or later, or the line's end where there is none
  pub inside : (line : List ℕ) (from : ℕ) → from ≤ length line → (from ≤ next_comma line from) × (next_comma line from ≤ length line)
  pub none_before : (line : List ℕ) (from at : ℕ) → from ≤ at → at < next_comma line from → get_or line at 0 ≡ 44 → ⊥
  pub comma : (line : List ℕ) (from : ℕ) → next_comma line from < length line → get_or line (next_comma line from) 0 ≡ 44
  -- a G line as written, of figures of up to 19 digits, reads back whole
  pub meter_back : (period : ℕ) (metered places : List ℕ) → Within (period ∷ metered) (10 ^ 19 - 1) → 1 ≤ length metered → length metered ≤ 512
      → length (meter_line period metered) ≤ longest → length (period ∷ metered) ≤ length places
      → read_call (meter_line period metered) places
      ≡ record { answer = record { number = 0; start = 4; fields = length (period ∷ metered) }; figures = (period ∷ metered) ++ drop (length (period ∷ metered)) places }

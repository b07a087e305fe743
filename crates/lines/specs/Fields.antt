-- The fields of a line, parted by commas (byte 44), and the field call: document 01, 'Reading a line'. Assumes nothing.
use Rattle.std.specs.Prelude.{◌≡◌, ℕ, suc, ◌+◌, cond, List, [], ◌∷◌, map, eqb, leb, ltb, length, take, drop, get_or}
use Rattle.std.specs.Borrow.{Bor}
use Rattle.lists.specs.Lists.{sum}
use Rattle.lists.specs.Questions.{◌⁇◌, first_no, outcome}

-- how many bytes stand before the first comma, or in all where there is none
unfoldable pub to_comma : List ℕ → ℕ
to_comma [] = 0
to_comma (b ∷ bs) = cond (eqb b 44) 0 (suc (to_comma bs))

-- from a start, where the first comma there or later stands, or the line's end where there is none
unfoldable pub next_comma : List ℕ → ℕ → ℕ
next_comma line from = from + to_comma (drop from line)

-- a byte put before the first part
unfoldable pub to_first : ℕ → List (List ℕ) → List (List ℕ)
to_first b [] = []
to_first b (f ∷ fs) = (b ∷ f) ∷ fs

-- the bytes "parted by commas": one part more than there are commas
unfoldable pub fields : List ℕ → List (List ℕ)
fields [] = [] ∷ []
fields (b ∷ bs) = cond (eqb b 44) ([] ∷ fields bs) (to_first b (fields bs))

-- 26: "at most 8,192 bytes"
abbrev pub longest : ℕ
longest = 8192

-- the questions that the field call puts: 26, "then 28 if the line has no such field (counted from 0 at the line's first byte)"
unfoldable pub field_number : List ℕ → ℕ → ℕ
field_number line index = first_no (leb (length line) longest ⁇ 26 ∷ ltb index (length (fields line)) ⁇ 28 ∷ [])

-- the field's bytes; refused, "an empty part"
unfoldable pub field_bytes : List ℕ → ℕ → List ℕ
field_bytes line index = outcome (field_number line index) (get_or (fields line) index []) (λ n. [])

-- where a field starts: behind the fields before it, and a comma for each
unfoldable pub start_of : List ℕ → ℕ → ℕ
start_of line index = sum (map length (take index (fields line))) + index

-- where in the line the part starts that the field call hands back; refused, at 0
unfoldable pub field_start : List ℕ → ℕ → ℕ
field_start line index = outcome (field_number line index) (start_of line index) (λ n. 0)

-- "a part of the line": it points into the line itself, so many bytes behind its beginning, and has these bytes
pub record Part (line part : Bor (List ℕ)) (start : ℕ) (bytes : List ℕ) : Type 0 where
  pub place : part.ref_ptr ≡ (line.ref_ptr.0, start + line.ref_ptr.1)
  pub content : part.now ≡ bytes

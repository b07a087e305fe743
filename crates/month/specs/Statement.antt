-- The statement call and the sizing call (document 01, 'The questions' and 'The file and its statement'): the number that each answers, and what it
-- leaves. Assumes nothing.
use Rattle.std.specs.Prelude.{◌≡◌, not, List, [], ◌∷◌, ◌++◌, ℕ, ◌+◌, ◌-◌, ◌≤◌, leb, eqb, length, drop}
use Rattle.lists.specs.Questions.{◌⁇◌, part, first_no, in_range, outcome}
use Rattle.plants.specs.declared.Plant.{Plant}
use Rattle.ledger.specs.Ledger.{Ledger}
use Rattle.statement.specs.Statement.{statement_text, room_for}
use Rattle.month.specs.declared.Month.{Month}
use Rattle.month.specs.Answers.{Stated, Sized}
use Rattle.questions.specs.Questions.{plants_in_limits, periods_in_limits, rows_number, ledger_number}
use Rattle.month.specs.Questions.{is_blank}

-- Statement: 21, 2 and 3 for the month's own P and H, 13 (P only, with so many rows lent), 14 (H + 1 passes too)
unfoldable pub due_number : Month → ℕ → ℕ
due_number m rows =
    first_no
    (not (is_blank m.stage) ⁇ 21
    ∷ plants_in_limits m.plants ⁇ 2
    ∷ periods_in_limits m.periods ⁇ 3
    ∷ eqb rows m.plants ⁇ 13
    ∷ in_range 1 (m.periods + 1) m.due ⁇ 14
    ∷ [])

-- ... 5 to 8, 11, 19 as for balance. 'A sizing call puts the statement's questions but 22'
unfoldable pub sizing_number : Month → List Plant → Ledger → ℕ
sizing_number m plants l =
    first_no
    (part (due_number m (length plants))
    ∷ part (rows_number 0 0 plants)
    ∷ part (ledger_number m.plants l)
    ∷ [])

-- ... then: at least 128P + 128 bytes lent? 22
unfoldable pub statement_number : Month → List Plant → Ledger → ℕ → ℕ
statement_number m plants l lent = first_no (part (sizing_number m plants l) ∷ leb (room_for m.plants) lent ⁇ 22 ∷ [])

-- the statement of a month: 'periods settled (the period due less 1)'
unfoldable pub statement_of : Month → List Plant → Ledger → List ℕ
statement_of m plants l = statement_text (m.due - 1) plants l

-- 'The statement fills the front of the lent bytes and answers its length; the rest stays'
pub record StatementEnd : Type 0 where
  pub answer : Stated
  pub bytes : List ℕ

unfoldable pub statement_call : Month → List Plant → Ledger → List ℕ → StatementEnd
statement_call m plants l lent =
    outcome (statement_number m plants l (length lent))
    (let text = statement_of m plants l in
    record { answer = record { number = 0; month = m; length = length text }; bytes = text ++ drop (length text) lent })
    (λ n. record { answer = record { number = n; month = m; length = 0 }; bytes = lent })

-- The sizing call's answer: number and month by the rules, and a size that 'is free between the bytes the statement writes and 128P + 128'
pub record Sizing (m : Month) (plants : List Plant) (l : Ledger) (r : Sized) : Type 0 where
  pub number : r.number ≡ sizing_number m plants l
  pub month : r.month ≡ m
  pub refused : (r.number ≡ 0 → ⊥) → r.size ≡ 0
  pub enough : r.number ≡ 0 → length (statement_of m plants l) ≤ r.size
  pub most : r.number ≡ 0 → r.size ≤ room_for m.plants

-- The public call: its question, and what it answers in every case (document 01, 'Calls' and 'The questions'). Assumes nothing.
use Rattle.std.specs.Prelude.{Bool, ◌&&◌, List, [], ◌∷◌, ℕ, leb, eqb, Result, Ok, Err}
use Rattle.lists.specs.Lists.{sum, most, every, at_most}
use Rattle.lists.specs.Columns.{◌⊓◌, four}
use Rattle.lists.specs.Questions.{◌⁇◌, first_no, outcome}
use Rattle.sharing.specs.Sharing.{share}
use Rattle.transfer.specs.Transfer.{transfer}
use Rattle.refusals.specs.declared.Refusal.{Refusal}
use Rattle.refusals.specs.Numbers.{refusal_number}
use Rattle.transfer.specs.declared.Table.{Table}
use Rattle.transfer.specs.declared.Transferred.{Transferred}

-- no submarket has both, something left and a need
unfoldable pub apart : List ℕ → List ℕ → Bool
apart left need = every (λ x. eqb x 0) (left ⊓ need)

-- Transfer step: all eight figures at most 2 × 10^9, needs no more than what is left in sum, no submarket with both? 23
unfoldable pub transfer_number : List ℕ → List ℕ → ℕ
transfer_number left need =
    first_no
    ((at_most most left && (at_most most need && (leb (sum need) (sum left) && apart left need))) ⁇ 23
    ∷ [])

-- a table of zeros: 'zeros in every other part of the answer'
abbrev pub no_table : List (List ℕ)
no_table = four (λ _. four (λ _. 0))

-- the answer as it goes to C: a table beside 0, or a refusal's number beside zeros
abbrev pub transferred : Result Table Refusal → Transferred
transferred (Ok table) = record { number = 0; table = table }
transferred (Err refusal) = record { number = refusal_number refusal; table = record { rows = no_table } }

-- the number answered, and the table beside it: zeros where it is refused
unfoldable pub transfer_call : List ℕ → List ℕ → Transferred
transfer_call left need =
    outcome (transfer_number left need)
    (record { number = 0; table = record { rows = transfer share left need } })
    (λ n. record { number = n; table = record { rows = no_table } })

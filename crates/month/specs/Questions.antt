-- "The questions, in the order they are put": the number that each call answers. Assumes nothing.
use Rattle.std.specs.Prelude.{ℕ, ◌+◌, ◌*◌, Bool, true, false, not, ◌&&◌, List, [], ◌∷◌, eqb, length}
use Rattle.lists.specs.Lists.{sum, most, at_most}
use Rattle.lists.specs.Columns.{at}
use Rattle.lists.specs.Questions.{◌⁇◌, part, first_no, in_range}
use Rattle.plants.specs.declared.Plant.{Plant}
use Rattle.hour.specs.Hour.{Hour, hour_of, allotment, nets}
use Rattle.ledger.specs.Ledger.{Ledger, in_bounds, added}
use Rattle.ledger.specs.Posting.{hour_figures}
use Rattle.questions.specs.Questions.{plants_in_limits, periods_in_limits, sizes_number, ledger_number, tables_number}
use Rattle.month.specs.declared.Month.{Month}
use Rattle.month.specs.declared.Stage.{Stage}
use Rattle.month.specs.declared.Stage.TheVariants.{Blank, Open, Closed}

-- 'A month is blank, open or closed': is it open? is it blank?
unfoldable pub is_open : Stage → Bool
is_open Blank = false
is_open Open = true
is_open Closed = false

unfoldable pub is_blank : Stage → Bool
is_blank Blank = true
is_blank Open = false
is_blank Closed = false

-- Open: 1, then 2 to 4 for the rows, the profile figures and the TEO lent, then 5 to 11
unfoldable pub open_number : Month → List Plant → List ℕ → ℕ → Ledger → ℕ
open_number m plants profile tariff l =
    first_no
    (not (is_open m.stage) ⁇ 1
    ∷ part (sizes_number (length plants) (length profile) tariff)
    ∷ part (tables_number (length plants) plants profile l)
    ∷ [])

-- Settle: 12, then 2 to 4 for the month's own P, H and TEO, then 13: rows and profile figures lent as many as these
unfoldable pub own_number : Month → ℕ → ℕ → ℕ
own_number m p h =
    first_no
    (is_open m.stage ⁇ 12
    ∷ part (sizes_number m.plants m.periods m.tariff)
    ∷ (eqb p m.plants && eqb h m.periods) ⁇ 13
    ∷ [])

-- ... 14 to 18: the period due, the metered figures, the allotment list
unfoldable pub metered_number : Month → List ℕ → List ℕ → ℕ → ℕ
metered_number m profile metered lent =
    first_no
    (in_range 1 m.periods m.due ⁇ 14
    ∷ eqb (length metered) m.plants ⁇ 15
    ∷ at_most most metered ⁇ 16
    ∷ eqb (sum metered) (at m.due profile 0) ⁇ 17
    ∷ eqb lent (4 * m.plants) ⁇ 18
    ∷ [])

-- ... 12, 2 to 4, 13, then 5 to 11, then 14 to 18: what it asks before it works the hour, with `lent` figures in the allotment list
unfoldable pub inputs_number : Month → List Plant → List ℕ → List ℕ → ℕ → Ledger → ℕ
inputs_number m plants profile metered lent l =
    first_no
    (part (own_number m (length plants) (length profile))
    ∷ part (tables_number m.plants plants profile l)
    ∷ part (metered_number m profile metered lent)
    ∷ [])

-- an hour's figures added to a ledger, its nets and its money at a tariff
unfoldable pub posted : Ledger → Hour → ℕ → Ledger
posted l h tariff = added l (hour_figures (allotment h) (nets h) tariff)

-- ... 19: every ledger figure inside its bound before and after; the hour is worked in the period due
unfoldable pub bounds_number : Ledger → Ledger → ℕ
bounds_number before after = first_no ((in_bounds before && in_bounds after) ⁇ 19 ∷ [])

-- ... all of settle's questions, in their order
unfoldable pub settle_number : Month → List Plant → List ℕ → List ℕ → List ℕ → Ledger → ℕ
settle_number m plants profile metered lent l =
    first_no
    (part (inputs_number m plants profile metered (length lent) l)
    ∷ part (bounds_number l (posted l (hour_of plants profile metered m.due) m.tariff))
    ∷ [])

-- Close: a month open? 12. H in limits? 3. The last period settled, so that H + 1 is due? 20
unfoldable pub close_number : Month → ℕ
close_number m = first_no (is_open m.stage ⁇ 12 ∷ periods_in_limits m.periods ⁇ 3 ∷ eqb m.due (m.periods + 1) ⁇ 20 ∷ [])

-- Balance: month not blank? 21; then 2 and 11 by the month's own P, and 19 for the ledger at hand
unfoldable pub balance_number : Month → Ledger → ℕ
balance_number m l =
    first_no
    (not (is_blank m.stage) ⁇ 21
    ∷ plants_in_limits m.plants ⁇ 2
    ∷ part (ledger_number m.plants l)
    ∷ [])

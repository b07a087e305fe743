-- The calls of a file, all accepted: their tally is that of the file's hours, and adds up. Assumes nothing.
use mathlib.Core.Path.{◌≡◌, refl, ap, subst, ◌∙◌}
use mathlib.Core.List.{List, [], ◌∷◌, head-eq_of_cons-eq, tail-eq_of_cons-eq}
use mathlib.Core.Option.{Option, none, some}
use Prim.Native.Nat.{ℕ, ◌+◌, ◌-◌, ◌*◌}
use native.Mathlib.Omega.{arith}
use native.Mathlib.Numerals.{add-one}
use lib.ListN.{length, replicate}
use Rattle.lists.proofs.Questions.{accepted}
use Rattle.plants.specs.declared.Plant.{Plant}
use Rattle.hour.specs.Hour.{Hour, hour_of}
use Rattle.month.specs.Statement.{statement_of}
use Rattle.statement.specs.Statement.{statement_text}
use Rattle.demand.specs.Tally.{Call, opens, settles, State, next, after, Entry, entries, Tally, tallied, tally, hours_after, hours, summed, IsTally, Left}
use Rattle.demand.proofs.Demand.{demand3}
use Rattle.file_demand.specs.Sums.{hour_calls, file_calls, unopened, Accepted, file_hours, tally_of, Stated}

-- what is printed after the calls of a file
abbrev pub text_of : List Plant → List ℕ → ℕ → List (List ℕ) → List ℕ
text_of plants profile tariff metered = let s = after (unopened plants) (file_calls plants profile tariff metered) in statement_of s.month plants s.ledger

hours-length : (plants : List Plant) (profile : List ℕ) (hs : List Hour) (gs : List (List ℕ)) → length (file_hours plants profile hs gs) ≡ length hs + length gs
unfolding file_hours
hours-length plants profile hs [] = omega arith
hours-length plants profile hs (g ∷ gs) = omega (arith, hours-length plants profile (hour_of plants profile g (length hs + 1) ∷ hs) gs)

-- the settles of the G lines, and the close
module _ (plants : List Plant) (profile : List ℕ) where
  abbrev hour : List Hour → List ℕ → Hour
  hour hs g = hour_of plants profile g (length hs + 1)

  abbrev rest : State → List ℕ → List (List ℕ) → List Entry
  rest s g gs = entries (next s (settles plants profile g (replicate (4 * length plants) 0))) (hour_calls plants profile gs)

  works : (s : State) (hs : List Hour) (gs : List (List ℕ)) → Accepted s (hour_calls plants profile gs)
      → hours hs (entries s (hour_calls plants profile gs)) ≡ file_hours plants profile hs gs
  unfolding entries hours_after hours file_hours
  works s hs [] a = accepted _ hs (λ _. hs) (head-eq_of_cons-eq a)
  works s hs (g ∷ gs) a =
      ap (λ (q : List Hour). hours q (rest s g gs)) (accepted _ (hour hs g ∷ hs) (λ _. hs) (head-eq_of_cons-eq a))
      ∙ works (next s (settles plants profile g (replicate (4 * length plants) 0))) (hour hs g ∷ hs) gs (tail-eq_of_cons-eq a)

  module _ (p tariff : ℕ) where
    abbrev counted : List Hour → ℕ → Option Tally
    counted hs n = some (record { figures = summed p tariff hs; tariff = tariff; count = n })

    counts : (s : State) (hs : List Hour) (gs : List (List ℕ)) → Accepted s (hour_calls plants profile gs)
        → tally (some (tally_of p tariff hs)) (entries s (hour_calls plants profile gs)) ≡ some (tally_of p tariff (file_hours plants profile hs gs))
    unfolding entries tallied tally summed file_hours
    counts s hs [] a = accepted _ (some (tally_of p tariff hs)) (λ _. some (tally_of p tariff hs)) (head-eq_of_cons-eq a)
    counts s hs (g ∷ gs) a =
        ap (λ (q : Option Tally). tally q (rest s g gs))
        (accepted _ (counted (hour hs g ∷ hs) (length hs + 1)) (λ _. some (tally_of p tariff hs)) (head-eq_of_cons-eq a) ∙ ap (counted (hour hs g ∷ hs)) (add-one (length hs)))
        ∙ counts (next s (settles plants profile g (replicate (4 * length plants) 0))) (hour hs g ∷ hs) gs (tail-eq_of_cons-eq a)

-- ... after the open
module _ (plants : List Plant) (profile : List ℕ) (tariff : ℕ) (metered : List (List ℕ)) (a : Accepted (unopened plants) (file_calls plants profile tariff metered)) where
  abbrev calls : List Call
  calls = file_calls plants profile tariff metered

  abbrev worked : List Hour
  worked = file_hours plants profile [] metered

  abbrev others : List Entry
  others = entries (next (unopened plants) (opens plants profile tariff)) (hour_calls plants profile metered)

  is_tally_lem : tally none (entries (unopened plants) calls) ≡ some (tally_of (length plants) tariff worked)
  unfolding entries tallied tally summed
  is_tally_lem =
      ap (λ (q : Option Tally). tally q others) (accepted _ (some (tally_of (length plants) tariff [])) (λ _. none) (head-eq_of_cons-eq a))
      ∙ counts plants profile (length plants) tariff _ [] metered (tail-eq_of_cons-eq a)

  is_hours : hours [] (entries (unopened plants) calls) ≡ worked
  unfolding entries hours_after hours
  is_hours = ap (λ (q : List Hour). hours q others) (accepted _ [] (λ _. []) (head-eq_of_cons-eq a)) ∙ works plants profile _ [] metered (tail-eq_of_cons-eq a)

  adds : IsTally (after (unopened plants) calls) (tally_of (length plants) tariff worked) worked
  adds =
      subst (λ (hs : List Hour). IsTally (after (unopened plants) calls) (tally_of (length plants) tariff worked) hs) is_hours
      (subst (λ (t : Option Tally). Left (unopened plants) (after (unopened plants) calls) t (hours [] (entries (unopened plants) calls))) is_tally_lem
      (demand3 (unopened plants) refl calls).left)

  pub states : (text : List ℕ) → text ≡ text_of plants profile tariff metered → Stated plants profile tariff metered text
  unfolding statement_of
  states text e =
      record {
        is_statement = e ∙ ap (λ (n : ℕ). statement_text n plants (after (unopened plants) calls).ledger) is_count;
        is_tally = is_tally_lem;
        sums = adds;
      }
    where
      is_count : (after (unopened plants) calls).month.due - 1 ≡ length metered
      is_count = omega (arith, adds.due, hours-length plants profile [] metered)

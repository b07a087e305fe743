-- What settle answers and leaves, from what its functions did: 12 to 18 and then 19 asked, the hour worked, the lists written. Assumes nothing.
use mathlib.Core.Path.{◌≡◌, refl, ap, ap₂, ◌∙◌}
use mathlib.Core.List.{List}
use Prim.Native.Nat.{ℕ}
use lib.IntN.{ℤ}
use lib.ListN.{length}
use Rattle.lists.specs.Lists.{sum}
use Rattle.lists.proofs.Questions.{part-yes, part-last, refuses, accepts}
use Rattle.hour.specs.declared.Worked.{Worked}
use Rattle.hour.specs.Hour.{Hour, hour_of, guarantees, secondary, cover_table, secondary_table, allotment}
use Rattle.hour.specs.Work.{HourWorked}
use Rattle.ledger.specs.Ledger.{Ledger, added}
use Rattle.ledger.specs.Posting.{hour_figures}
use Rattle.plants.specs.declared.Plant.{Plant}
use Rattle.month.specs.declared.Month.{Month}
use Rattle.std.specs.Prelude.{Ok, Err}
use Rattle.refusals.specs.declared.Refusal.{Refusal}
use Rattle.refusals.specs.Numbers.{refusal_number}
use Rattle.refusals.proofs.Asking.{refused_number}
use Rattle.month.specs.Answers.{Settled, settled}
use Rattle.month.specs.Questions.{posted, inputs_number, bounds_number, settle_number}
use Rattle.month.specs.Calls.{onward, SettleEnd, settle_call}

module _ (m : Month) (plants : List Plant) (profile metered lent : List ℕ) (l : Ledger) where
  abbrev hour : Hour
  hour = hour_of plants profile metered m.due

  abbrev pub Ends : Settled → List ℕ → Ledger → Type 0
  Ends r a x = ◌≡◌ {A = SettleEnd} (record { answer = r; allotment = a; ledger = x }) (settle_call m plants profile metered lent l)

  refused : (e : Refusal) → refusal_number e ≡ settle_number m plants profile metered lent l → Ends (settled (Err e) m) lent l
  unfolding settle_call
  refused e p = refuses (refusal_number e) _ _ _ _ p (λ z. refused_number e z) refl

  module _ (asked : inputs_number m plants profile metered (length lent) l ≡ 0) (w : Worked) (figures : List ℕ) (lentNets : List ℤ)
      (done : HourWorked hour w figures lentNets) where
    posted_is : added l (hour_figures figures lentNets m.tariff) ≡ posted l hour m.tariff
    unfolding posted
    posted_is = ap₂ (λ (x : List ℕ) (y : List ℤ). added l (hour_figures x y m.tariff)) done.allotted done.netted

    number_is : (k : ℕ) → k ≡ bounds_number l (added l (hour_figures figures lentNets m.tariff)) → k ≡ settle_number m plants profile metered lent l
    unfolding settle_number
    number_is k e = part-yes _ _ _ k refl asked (part-last _ k (e ∙ ap (bounds_number l) posted_is))

    pub refused_bounds : (e : Refusal) → refusal_number e ≡ bounds_number l (added l (hour_figures figures lentNets m.tariff))
        → Ends (settled (Err e) m) lent l
    refused_bounds e p = refused e (number_is (refusal_number e) p)

    -- the hour's answer, and the next period due
    abbrev answer : ℕ → ℕ → List (List ℕ) → List (List ℕ) → Settled
    answer z a t u =
        record { number = 0; month = onward m; secondary = z; guarantees = a; cover_table = record { rows = t }; secondary_table = record { rows = u } }

    answer_is : answer w.secondary w.guarantees w.cover_table.rows w.secondary_table.rows
        ≡ answer (secondary hour) (sum (guarantees hour)) (cover_table hour) (secondary_table hour)
    answer_is = let s = done.secondary_is in let t = done.guarantees_are in let u = done.cover_table_is in let v = done.secondary_table_is in cc

    pub written : 0 ≡ bounds_number l (added l (hour_figures figures lentNets m.tariff))
        → (a x : List ℕ) (y : List ℤ) → a ≡ figures → x ≡ (added l (hour_figures figures lentNets m.tariff)).allotted
        → y ≡ (added l (hour_figures figures lentNets m.tariff)).accounts
        → Ends (settled (Ok w) (onward m)) a (record { allotted = x; accounts = y })
    unfolding settle_call
    written e a x y f g i =
        let whole : a ≡ allotment hour = f ∙ done.allotted in
        let ledger : ◌≡◌ {A = Ledger} (record { allotted = x; accounts = y }) (posted l hour m.tariff)
        = ap₂ (λ (u : List ℕ) (v : List ℤ). record { allotted = u; accounts = v }) g i ∙ posted_is in
        let answered = answer_is in
        accepts 0 _ _ _ _ (number_is 0 e) refl (cc)

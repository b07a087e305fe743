-- `Month::open` meets its contract: accepted, both lists are zeros of the lengths that question 11 asked. Assumes nothing.
use mathlib.Core.Path.{◌≡◌, refl, sym}
use mathlib.Core.List.{List}
use Prim.Native.Nat.{ℕ}
use lib.IntN.{ℤ, pos}
use lib.ListN.{length, replicate}
use Rattle.lists.proofs.Questions.{accepts}
use Rattle.plants.specs.declared.Plant.{Plant}
use Rattle.ledger.specs.Ledger.{Ledger, zeros}
use Rattle.month.specs.declared.Month.{Month}
use Rattle.month.specs.Questions.{open_number}
use Rattle.month.specs.Calls.{opened_month, OpenEnd, open_call}
use Rattle.month.proofs.Asked.{opened}
use Rattle.month.proofs.Month.open.Goals as goal

zeroed : (m : Month) (plants : List Plant) (profile : List ℕ) (t : ℕ) (l : Ledger) → 0 ≡ open_number m plants profile t l
    → (a : List ℕ) (b : List ℤ) → a ≡ replicate (length l.allotted) 0 → b ≡ replicate (length l.accounts) (pos 0)
    → ◌≡◌ {A = OpenEnd} (record {
      answer = record { number = 0; month = opened_month (length plants) (length profile) t };
      ledger = record { allotted = a; accounts = b };
    })
    (open_call m plants profile t l)
unfolding zeros open_call
zeroed m plants profile t l e a b p q =
    let lengths = (opened m plants profile t l (sym e)).1.lengths in
    accepts 0 _ _ _ _ e refl (cc)

pub returns : goal.returns
returns c = zeroed _ _ _ _ _ c.in_ok-ask_open.ensures _ _ (c.fill.ensures.after (λ y e. e)) (c.fill-2.ensures.after (λ y e. e))

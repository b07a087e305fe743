-- More than 512 rows are refused as their number alone says, whatever the rows are. Assumes nothing.
use mathlib.Core.Path.{◌≡◌, refl, sym, ap, ◌∙◌}
use mathlib.Core.Bool.{Bool, true, false}
use mathlib.Core.List.{List}
use Prim.Native.Nat.{ℕ, ◌<◌}
use native.Mathlib.Omega.{arith}
use lib.ListN.{length}
use Rattle.lists.proofs.Questions.{yes, no, part_no, not-no, not_yes, above, refuses}
use Rattle.plants.specs.declared.Plant.{Plant}
use Rattle.ledger.specs.Ledger.{Ledger}
use Rattle.questions.specs.Questions.{sizes_number}
use Rattle.month.specs.declared.Month.{Month}
use Rattle.month.specs.Answers.{Sized}
use Rattle.month.specs.Questions.{is_open, open_number, own_number, inputs_number, settle_number}
use Rattle.month.specs.Calls.{OpenEnd, open_call, SettleEnd, unsettled, settle_call}
use Rattle.month.specs.Statement.{due_number, sizing_number, statement_number, StatementEnd, statement_call, Sizing}
use Rattle.month.specs.Laws.{Many}
use Rattle.month.proofs.Asked.{own}
use Rattle.month.proofs.StatementAsked.{due}

module _ (m : Month) (profile : List ℕ) (t : ℕ) (l : Ledger) where
  abbrev refused : ℕ → OpenEnd
  refused k = record { answer = record { number = k; month = m }; ledger = l }

  already : (plants : List Plant) → is_open m.stage ≡ true → refused 1 ≡ open_call m plants profile t l
  unfolding open_number open_call
  already plants e = refuses 1 _ _ _ _ (no _ _ _ (not-no _ e)) (λ z. omega arith) refl

  many-rows : (plants : List Plant) → is_open m.stage ≡ false → 512 < length plants → refused 2 ≡ open_call m plants profile t l
  unfolding open_number sizes_number open_call
  many-rows plants e h =
      refuses 2 _ _ _ _
      (yes _ _ _ _ (not_yes _ e) (part_no _ _ 2 (no _ _ _ (above 1 512 (length plants) h)) (λ z. omega arith)))
      (λ z. omega arith)
      refl

  pub open_many : (ps qs : List Plant) → length ps ≡ length qs → 512 < length qs → open_call m ps profile t l ≡ open_call m qs profile t l
  open_many ps qs same h = go (is_open m.stage) refl
    where
      go : (b : Bool) → is_open m.stage ≡ b → open_call m ps profile t l ≡ open_call m qs profile t l
      go true e = sym (already ps e) ∙ already qs e
      go false e = sym (many-rows ps e (omega arith)) ∙ many-rows qs e h

-- settle, with the number that its size alone gives
pub settle_refused : (m : Month) (plants : List Plant) (profile metered lent : List ℕ) (l : Ledger) → 512 < length plants
    → ◌≡◌ {A = SettleEnd} (record { answer = unsettled m (own_number m (length plants) (length profile)); allotment = lent; ledger = l }) (settle_call m plants profile metered lent l)
unfolding inputs_number settle_number settle_call
settle_refused m plants profile metered lent l h =
    let k = own_number m (length plants) (length profile) in
    let some : k ≡ 0 → ⊥ = λ z. (let o = own m (length plants) (length profile) z in omega (arith, o.rows, o.sizes.plants)) in
    refuses k _ _ _ _ (part_no _ _ k (part_no _ _ k refl some) some) some refl

module _ (m : Month) (plants : List Plant) (l : Ledger) (h : 512 < length plants) where
  abbrev number : ℕ
  number = due_number m (length plants)

  many_due : number ≡ 0 → ⊥
  many_due z = let d = due m (length plants) z in omega (arith, d.plants, d.lent)

  asked-many : number ≡ sizing_number m plants l
  unfolding sizing_number
  asked-many = part_no _ _ number refl many_due

  pub statement-many : (lent : List ℕ)
      → ◌≡◌ {A = StatementEnd} (record { answer = record { number = number; month = m; length = 0 }; bytes = lent }) (statement_call m plants l lent)
  unfolding statement_number statement_call
  statement-many lent = refuses number _ _ _ _ (part_no _ _ number asked-many many_due) many_due refl

-- a size of one such table is one of any other of as many rows
pub size-many : (m : Month) (ps qs : List Plant) (l : Ledger) → length ps ≡ length qs → 512 < length qs → {r : Sized} → Sizing m ps l r → Sizing m qs l r
size-many m ps qs l same h {r} s =
    let k = r.number in
    let is : k ≡ due_number m (length qs) = s.number ∙ (sym (asked-many m ps l (omega arith)) ∙ ap (due_number m) same) in
    let some : k ≡ 0 → ⊥ = λ z. many_due m qs l h (sym is ∙ z) in
    record {
      number = is ∙ asked-many m qs l h;
      month = s.month;
      refused = s.refused;
      enough = λ z. absurd (some z);
      most = λ z. absurd (some z);
    }

pub many : Many
many =
    record {
      opened = λ m ps qs profile t l. open_many m profile t l ps qs;
      settled = settle_refused;
      stated = statement-many;
      sized = size-many;
    }

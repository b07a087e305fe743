-- The ledger adds up: from zeros, and hour by hour. Assumes nothing.
use mathlib.Core.Path.{◌≡◌, refl, sym, ap, ap₂, ◌∙◌}
use Prim.Native.Nat.{ℕ, ◌+◌, ◌-◌, ◌*◌}
use native.Mathlib.Omega.{arith}
use mathlib.Core.List.{List, [], ◌∷◌}
use lib.IntN.{ℤ, pos, sub_ℕ, ◌+ℤ◌, ◌*ℤ◌, zero-*ℤ}
use lib.ListN.{get_or, take, drop, replicate}
use Rattle.lists.specs.Columns.{◌⊕◌, ◌⊕ℤ◌, column}
use Rattle.lists.specs.Lists.{sum, sumℤ}
use Rattle.lists.proofs.Columns.{◌!◌, get_or-rowwise, at-⊕, sum-⊕, sum-nil}
use Rattle.lists.proofs.Rows.{column-place, column-same, column-rowwise, row-sum, at-replicate}
use Rattle.signed.specs.Figures.{at_rate, accounts_of}
use Rattle.signed.proofs.Accounts.{at_rate_lem, accounts_net, accounts_money}
use Rattle.signed.proofs.Sums.{plus_sub, sumℤ-⊕, sumℤ_times, sumℤ-nil}
use Rattle.signed.proofs.View.{plus_swap, times_plus}
use Rattle.hour.specs.Hour.{Hour, covered, rights, figure, nets, allotment}
use Rattle.hour.proofs.Hour.{Sound, column-sum}
use Rattle.hour.proofs.Figures.{hour-column, hour-row, nets-sum, at-nets}
use Rattle.ledger.specs.Ledger.{Ledger, zeros, added, net_column, money_column, net_of, money_of}
use Rattle.ledger.proofs.Posting.{added-column}
use Rattle.month.specs.Questions.{posted}
use Rattle.demand.specs.Tally.{row_allotted, AddsUp}

-- the four figures of row i, by columns
row_is : (l : List ℕ) (i : ℕ) → sum (take 4 (drop (4 * i) l)) ≡ column 4 0 l ! i + column 4 1 l ! i + column 4 2 l ! i + column 4 3 l ! i
unfolding sum
row_is l i = row-sum 4 (omega arith) l i ∙ omega arith

-- ---- zeros
pub zeros-add_up : (p : ℕ) → AddsUp (zeros p) []
unfolding zeros sum
zeros-add_up p =
    record {
      columns = λ s l h. sum-nil (column 4 (s - 1) (replicate (4 * p) 0)) (figure (s - 1));
      rows = λ i.
          let e : row_allotted i (zeros p) ≡ 0 =
          row_is (replicate (4 * p) 0) i ∙ (let a = figure 0 i in let b = figure 1 i in let c = figure 2 i in let d = figure 3 i in omega arith) in
          ap₂ (λ x y. pos x +ℤ y) e (at-replicate (2 * p) (2 * i) (pos 0));
      nets_zero = sumℤ-nil (column 2 0 (replicate (2 * p) (pos 0))) (account 0);
      money_zero = sumℤ-nil (column 2 1 (replicate (2 * p) (pos 0))) (account 1);
      covered_met = λ i. omega arith;
    }
  where
    figure : (k i : ℕ) → column 4 k (replicate (4 * p) 0) ! i ≡ 0
    figure k i = column-same 4 k (omega arith) (4 * p) i 0

    account : (k i : ℕ) → get_or (column 2 k (replicate (2 * p) (pos 0))) i (pos 0) ≡ pos 0
    account k i = column-same 2 k (omega arith) (2 * p) i (pos 0)

-- ---- one hour more
module _ (l : Ledger) (h : Hour) (ok : Sound h) (tariff : ℕ) where
  posted-column : (k : ℕ) → column 4 k (posted l h tariff).allotted ≡ column 4 k l.allotted ⊕ column 4 k (allotment h)
  unfolding posted added
  posted-column k = column-rowwise ◌+◌ 0 0 4 k l.allotted (allotment h)

  posted-nets : net_column (posted l h tariff) ≡ net_column l ⊕ℤ nets h
  unfolding posted added
  posted-nets = added-column l.accounts tariff (nets h) 0 (accounts_net tariff (nets h))

  posted_money : money_column (posted l h tariff) ≡ money_column l ⊕ℤ at_rate tariff (nets h)
  unfolding posted added
  posted_money = added-column l.accounts tariff (nets h) 1 (accounts_money tariff (nets h))

  posted-at : (k i : ℕ) → column 4 k (posted l h tariff).allotted ! i ≡ column 4 k l.allotted ! i + column 4 k (allotment h) ! i
  posted-at k i = rw posted-column (at-⊕ (column 4 k l.allotted) (column 4 k (allotment h)) i)

  posted-row : (i : ℕ) → row_allotted i (posted l h tariff) ≡ row_allotted i l + (covered h ! i + rights h ! i)
  posted-row i =
      let a = row_is (posted l h tariff).allotted i in let b = row_is l.allotted i in let c = hour-row h ok i in
      let p = posted-at 0 i in let q = posted-at 1 i in let r = posted-at 2 i in let s = posted-at 3 i in
      omega arith

  -- the account in column j of row i
  posted_account : (j k i : ℕ) → k ≡ 2 * i + j → {zs : List ℤ} → column 2 j (accounts_of tariff (nets h)) ≡ zs
      → get_or (posted l h tariff).accounts k (pos 0) ≡ get_or l.accounts k (pos 0) +ℤ get_or zs i (pos 0)
  unfolding posted added
  posted_account j k i e c =
      get_or-rowwise ◌+ℤ◌ (pos 0) (pos 0) refl l.accounts (accounts_of tariff (nets h)) k
      ∙ ap (λ z. get_or l.accounts k (pos 0) +ℤ z)
      (sym (column-place 2 j (omega arith) (accounts_of tariff (nets h)) i (pos 0) e) ∙ ap (λ zs. get_or zs i (pos 0)) c)

  posted_net : (i : ℕ) → net_of i (posted l h tariff) ≡ net_of i l +ℤ sub_ℕ (h.metered ! i) (covered h ! i + rights h ! i)
  posted_net i = posted_account 0 (2 * i) i (omega arith) (accounts_net tariff (nets h)) ∙ ap (λ z. net_of i l +ℤ z) (at-nets h ok i)

  pub posted-adds_up : (hs : List Hour) → AddsUp l hs → AddsUp (posted l h tariff) (h ∷ hs)
  unfolding sum
  posted-adds_up hs now =
      record {
        columns = λ s m n.
            ap sum (posted-column (s - 1) ∙ ap (λ xs. column 4 (s - 1) l.allotted ⊕ xs) (hour-column h ok s m n))
            ∙ (let a = sum-⊕ (column 4 (s - 1) l.allotted) (figure h s) in let b = now.columns s m n in
            let c = column-sum h ok s m n in omega arith);
        rows = λ i.
            ap₂ (λ x y. pos x +ℤ y) (posted-row i) (posted_net i)
            ∙ plus_swap (pos (row_allotted i l)) (pos (covered h ! i + rights h ! i)) (net_of i l) (sub_ℕ (h.metered ! i) (covered h ! i + rights h ! i))
            ∙ ap₂ (λ x y. x +ℤ y) (now.rows i) (plus_sub (covered h ! i + rights h ! i) (h.metered ! i))
            ∙ ap pos (omega arith);
        nets_zero = ap sumℤ posted-nets ∙ sumℤ-⊕ (net_column l) (nets h) ∙ ap₂ (λ x y. x +ℤ y) now.nets_zero (nets-sum h ok);
        money_zero =
            ap sumℤ posted_money
            ∙ sumℤ-⊕ (money_column l) (at_rate tariff (nets h))
            ∙ ap₂ (λ x y. x +ℤ y) now.money_zero
            (sumℤ_times (nets h) tariff ∙ ap (λ z. z *ℤ pos tariff) (nets-sum h ok) ∙ zero-*ℤ (pos tariff));
        covered_met = λ i. let a = posted-row i in let b = now.covered_met i in omega arith;
      }

-- each row's money is its net × TEO: from zeros, and hour by hour
pub zeros-priced : (p tariff i : ℕ) → money_of i (zeros p) ≡ net_of i (zeros p) *ℤ pos tariff
unfolding zeros
zeros-priced p tariff i =
    at-replicate (2 * p) (2 * i + 1) (pos 0) ∙ sym (ap (λ z. z *ℤ pos tariff) (at-replicate (2 * p) (2 * i) (pos 0)) ∙ zero-*ℤ (pos tariff))

pub posted-priced : (l : Ledger) (h : Hour) → Sound h → (tariff : ℕ) → ((i : ℕ) → money_of i l ≡ net_of i l *ℤ pos tariff)
    → (i : ℕ) → money_of i (posted l h tariff) ≡ net_of i (posted l h tariff) *ℤ pos tariff
posted-priced l h ok tariff so i =
    posted_account l h ok tariff 1 (2 * i + 1) i refl (accounts_money tariff (nets h))
    ∙ ap₂ (λ x y. x +ℤ y) (so i) (at_rate_lem tariff (nets h) i ∙ ap (λ z. z *ℤ pos tariff) (at-nets h ok i))
    ∙ sym (times_plus (net_of i l) (sub_ℕ (h.metered ! i) (covered h ! i + rights h ! i)) tariff)
    ∙ ap (λ z. z *ℤ pos tariff) (sym (posted_net l h ok tariff i))

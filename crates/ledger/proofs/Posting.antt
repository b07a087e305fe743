-- An hour added to the ledger: what its figures are afterwards, and that no sum wraps. Assumes nothing.
use mathlib.Core.Path.{◌≡◌, refl, sym, ap, ap₂, ◌∙◌}
use mathlib.Core.Bool.{◌&&◌}
use mathlib.Core.List.{List, [], ◌∷◌}
use Prim.Native.Nat.{ℕ, ◌+◌, ◌*◌, ◌^◌, ◌≤◌, ◌<◌}
use native.Mathlib.Nat.{mul-le-mul}
use native.Mathlib.Omega.{arith}
use lib.IntN.{ℤ, pos, nat_abs, ◌+ℤ◌, ◌*ℤ◌}
use lib.ListN.{length, get_or, drop, drop_of_length-le, length-map}
use Rattle.lists.specs.Lists.{at_most, every}
use Rattle.lists.specs.Columns.{◌⊕◌, ◌⊕ℤ◌, column}
use Rattle.lists.proofs.Columns.{get_or-rowwise, length-rowwise}
use Rattle.lists.proofs.Loops.{drop_more}
use Rattle.lists.proofs.Rows.{column-place, column-rowwise, length-column}
use Rattle.signed.specs.Figures.{accounts_of, is_within, at_rate}
use Rattle.signed.proofs.Accounts.{at_rate_lem, rate_one, accounts_net, accounts_money}
use Rattle.signed.proofs.View.{abs_times}
use Rattle.ledger.specs.Ledger.{Ledger, in_bounds, added, accounts_width, kwh_bound, money_bound}
use Rattle.ledger.specs.Posting.{Payable, hour_figures}

module _ {accounts nets : List ℤ} {rate : ℕ} (h : Payable accounts nets rate) (i : ℕ) where
  -- a net at its rate
  pub rated_small : nat_abs (get_or nets i (pos 0) *ℤ pos rate) ≤ 4 * 10 ^ 13
  rated_small =
      omega (arith, abs_times (get_or nets i (pos 0)) rate, mul-le-mul {m₂ = 10000} (h.hour.at i) h.low)

-- a column with each row's net added at a rate
abbrev pub after : List ℤ → List ℤ → ℕ → ℕ → List ℤ
after accounts nets rate start = column accounts_width start accounts ⊕ℤ at_rate rate nets

module _ (accounts nets : List ℤ) (rate start : ℕ) (h : Payable accounts nets rate) (k : start < accounts_width) where
  length-after : length (after accounts nets rate start) ≡ length nets
  length-after =
      length-rowwise ◌+ℤ◌ (pos 0) (pos 0) (column accounts_width start accounts) (at_rate rate nets)
      ∙ (let a = length-column (pos 0) accounts_width start k accounts (length nets) h.rows in let b = length-map nets (λ z. z *ℤ pos rate) in omega arith)

  -- a loop over the rows: a turn, and the end
  pub after_more : {i : ℕ} → i < length nets
      → drop i (after accounts nets rate start) ≡ get_or (after accounts nets rate start) i (pos 0) ∷ drop (i + 1) (after accounts nets rate start)
  after_more {i} l = drop_more (after accounts nets rate start) i (pos 0) (omega (arith, length-after))

  pub after_none : {i : ℕ} → length nets ≤ i → drop i (after accounts nets rate start) ≡ []
  after_none {i} l = drop_of_length-le (after accounts nets rate start) {i = i} (omega (arith, length-after))

  pub after-at : (i : ℕ) → get_or (after accounts nets rate start) i (pos 0) ≡ get_or accounts (accounts_width * i + start) (pos 0) +ℤ get_or nets i (pos 0) *ℤ pos rate
  after-at i =
      get_or-rowwise ◌+ℤ◌ (pos 0) (pos 0) refl (column accounts_width start accounts) (at_rate rate nets) i
      ∙ ap₂ (λ x y. x +ℤ y)
      (column-place accounts_width start (omega arith) accounts i (pos 0) refl)
      (at_rate_lem rate nets i)

-- a column of the accounts as they would be
pub added-column : (accounts : List ℤ) (tariff : ℕ) (nets : List ℤ) (j : ℕ) {xs : List ℤ} → column accounts_width j (accounts_of tariff nets) ≡ xs
    → column accounts_width j (accounts ⊕ℤ accounts_of tariff nets) ≡ column accounts_width j accounts ⊕ℤ xs
added-column accounts tariff nets j e =
    column-rowwise ◌+ℤ◌ (pos 0) (pos 0) accounts_width j accounts (accounts_of tariff nets)
    ∙ ap (λ (zs : List ℤ). column accounts_width j accounts ⊕ℤ zs) e

-- 19 of the ledger as it would be, column by column: the nets at the rate 1, the money at the tariff
pub bounds_after : (l : Ledger) (allotment : List ℕ) (nets : List ℤ) (tariff : ℕ)
    → in_bounds (added l (hour_figures allotment nets tariff))
    ≡ (at_most kwh_bound (l.allotted ⊕ allotment)
    && (every (is_within kwh_bound) (column accounts_width 0 l.accounts ⊕ℤ at_rate 1 nets)
    && every (is_within money_bound) (column accounts_width 1 l.accounts ⊕ℤ at_rate tariff nets)))
unfolding in_bounds added
bounds_after l allotment nets tariff =
    ap₂ (λ (xs ys : List ℤ). at_most kwh_bound (l.allotted ⊕ allotment) && (every (is_within kwh_bound) xs && every (is_within money_bound) ys))
    (added-column l.accounts tariff nets 0 (accounts_net tariff nets ∙ sym (rate_one nets)))
    (added-column l.accounts tariff nets 1 (accounts_money tariff nets))

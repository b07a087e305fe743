-- A loop that sums a column of the accounts: `Totalling start l i z`, with z the sum of the figures before place i. The laws are totalling,
-- totalling_more, totalled. Assumes nothing.
use mathlib.Core.Path.{◌≡◌, sym, ap, ◌∙◌}
use mathlib.Core.List.{List}
use Prim.Native.Nat.{ℕ, ◌+◌, ◌*◌, ◌≤◌, ◌<◌}
use native.Mathlib.Omega.{arith}
use lib.IntN.{ℤ, pos, nat_abs, ◌+ℤ◌, +ℤ_assoc, +ℤ_idl, +ℤ_idr}
use lib.ListN.{length, get_or, drop}
use Rattle.lists.specs.Lists.{sumℤ}
use Rattle.lists.specs.Columns.{column}
use Rattle.lists.proofs.Rows.{stride, stride_more, stride_none}
use Rattle.signed.proofs.View.{abs_plus}
use Rattle.ledger.specs.Ledger.{accounts_width, money_bound}
use Rattle.ledger.specs.Posting.{Summable}

-- one figure within the bound for each row passed: at most 512 of them, whose sum is below 2 ^ 63
pub record Totalling (start : ℕ) (l : List ℤ) (i : ℕ) (z : ℤ) : Type 0 where
  pub whole : z +ℤ sumℤ (column accounts_width 0 (drop i l)) ≡ sumℤ (column accounts_width start l)
  pub small : accounts_width * nat_abs z ≤ money_bound * i

split : (l : List ℤ) (i : ℕ) → i < length l → sumℤ (column accounts_width 0 (drop i l)) ≡ get_or l i (pos 0) +ℤ sumℤ (column accounts_width 0 (drop (i + accounts_width) l))
unfolding sumℤ
split l i h = ap sumℤ (stride_more accounts_width (omega arith) l i (pos 0) h)

module _ {start : ℕ} {l : List ℤ} where
  pub totalling : Totalling start l start (pos 0)
  totalling = record { whole = +ℤ_idl _ ∙ sym (ap sumℤ (stride accounts_width start l)); small = omega arith }

  module _ (ok : Summable l) {i : ℕ} {z : ℤ} (k : Totalling start l i z) (h : i < length l) where
    pub totalling_more : Totalling start l (i + accounts_width) (z +ℤ get_or l i (pos 0))
    totalling_more =
        record {
          whole = +ℤ_assoc z _ _ ∙ ap (λ (x : ℤ). z +ℤ x) (sym (split l i h)) ∙ k.whole;
          small = omega (arith, abs_plus z (get_or l i (pos 0)), ok.small.at i);
        }

  pub totalled : {i : ℕ} {z : ℤ} → Totalling start l i z → length l ≤ i → z ≡ sumℤ (column accounts_width start l)
  unfolding sumℤ
  totalled {i} {z} k h = sym (+ℤ_idr z) ∙ ap (λ (x : ℤ). z +ℤ x) (sym (ap sumℤ (stride_none accounts_width l i h))) ∙ k.whole

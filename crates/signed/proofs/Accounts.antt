-- The accounts of a list of nets: the net column is the nets, the money column is net × tariff. Assumes nothing.
use mathlib.Core.Path.{◌≡◌, refl, sym, ap, ◌∙◌}
use Prim.Native.Nat.{ℕ, zero, suc, ◌+◌, ◌*◌}
use native.Mathlib.Omega.{arith}
use mathlib.Core.List.{List, [], ◌∷◌}
use lib.IntN.{ℤ, pos, ◌*ℤ◌, zero-*ℤ, *ℤ-one, one}
use lib.ListN.{length, get_or, length-map}
use lib.Seq.{ext_get_or}
use Rattle.lists.specs.Columns.{column}
use Rattle.lists.proofs.Columns.{get_or-map_to}
use Rattle.lists.proofs.Rows.{Even, column-place, column-by_row, length-by_row}
use Rattle.signed.specs.Figures.{at_rate, accounts_of}

-- each net at a rate: the nets themselves at 1, money at the tariff
pub at_rate_lem : (rate : ℕ) (nets : List ℤ) (i : ℕ) → get_or (at_rate rate nets) i (pos 0) ≡ get_or nets i (pos 0) *ℤ pos rate
at_rate_lem rate = get_or-map_to (λ z. z *ℤ pos rate) (pos 0) (zero-*ℤ (pos rate))

unit : (z : ℤ) → z *ℤ pos 1 ≡ z
unfolding one
unit z = *ℤ-one z

pub rate_one : (nets : List ℤ) → at_rate 1 nets ≡ nets
rate_one nets =
    ext_get_or (pos 0) (at_rate 1 nets) nets (length-map nets (λ z. z *ℤ pos 1)) (λ i _. at_rate_lem 1 nets i ∙ unit (get_or nets i (pos 0)))

module _ (tariff : ℕ) (nets : List ℤ) where
  even : Even (length nets) (nets ∷ at_rate tariff nets ∷ [])
  even zero h = refl
  even (suc zero) h = length-map nets (λ z. z *ℤ pos tariff)
  even (suc (suc j)) h = absurd (omega arith)

  pub length-accounts : length (accounts_of tariff nets) ≡ 2 * length nets
  unfolding accounts_of
  length-accounts = length-by_row (pos 0) (length nets) nets (at_rate tariff nets ∷ []) even

  pub accounts_net : column 2 0 (accounts_of tariff nets) ≡ nets
  unfolding accounts_of
  accounts_net = column-by_row (pos 0) (length nets) nets (at_rate tariff nets ∷ []) even 0 (omega arith)

  pub accounts_money : column 2 1 (accounts_of tariff nets) ≡ at_rate tariff nets
  unfolding accounts_of
  accounts_money = column-by_row (pos 0) (length nets) nets (at_rate tariff nets ∷ []) even 1 (omega arith)

  -- figure by figure, for the code that writes them
  pub net_at : (i : ℕ) → get_or (accounts_of tariff nets) (2 * i) (pos 0) ≡ get_or nets i (pos 0)
  net_at i = sym (column-place 2 0 (omega arith) (accounts_of tariff nets) i (pos 0) (omega arith)) ∙ ap (λ (zs : List ℤ). get_or zs i (pos 0)) accounts_net

  pub money_at : (i : ℕ) → get_or (accounts_of tariff nets) (2 * i + 1) (pos 0) ≡ get_or nets i (pos 0) *ℤ pos tariff
  money_at i =
      sym (column-place 2 1 (omega arith) (accounts_of tariff nets) i (pos 0) (omega arith)) ∙ ap (λ (zs : List ℤ). get_or zs i (pos 0)) accounts_money
      ∙ at_rate_lem tariff nets i

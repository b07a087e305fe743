-- "Plants, profile, ledger": the ledger's lists, their columns and bounds. Assumes nothing.
use Rattle.std.specs.Prelude.{ℕ, ◌+◌, ◌-◌, ◌*◌, ◌^◌, Bool, ◌&&◌, List, ℤ, pos, get_or, replicate}
use Rattle.lists.specs.Lists.{every, at_most}
use Rattle.lists.specs.Columns.{◌⊕◌, ◌⊕ℤ◌, column}
use Rattle.signed.specs.Figures.{is_within}
use Rattle.ledger.specs.declared.LedgerView.{LedgerView}

-- Two lists, row by row: four allotted figures a plant; net kWh and money a plant
pub record Ledger : Type 0 where
  pub allotted : List ℕ
  pub accounts : List ℤ

-- the ledger whose lists are lent to be read
abbrev pub viewed : LedgerView → Ledger
viewed l = record { allotted = l.allotted.now; accounts = l.accounts.now }

-- figures a plant in each list
abbrev pub allotted_width : ℕ
allotted_width = 4

abbrev pub accounts_width : ℕ
accounts_width = 2

-- the columns: the figures in submarket s, the nets, the sums of money
abbrev pub allotted_in : ℕ → Ledger → List ℕ
allotted_in s l = column allotted_width (s - 1) l.allotted

abbrev pub net_column : Ledger → List ℤ
net_column l = column accounts_width 0 l.accounts

abbrev pub money_column : Ledger → List ℤ
money_column l = column accounts_width 1 l.accounts

-- the net and the money of row i
abbrev pub net_of : ℕ → Ledger → ℤ
net_of i l = get_or l.accounts (accounts_width * i) (pos 0)

abbrev pub money_of : ℕ → Ledger → ℤ
money_of i l = get_or l.accounts (accounts_width * i + 1) (pos 0)

-- no figure passes these: allotted and net kWh, and money in thousandths of a centavo
abbrev pub kwh_bound : ℕ
kwh_bound = 1488 * 10 ^ 9

abbrev pub money_bound : ℕ
money_bound = 1488 * 10 ^ 13

-- every figure inside its bound
unfoldable pub in_bounds : Ledger → Bool
in_bounds l =
    at_most kwh_bound l.allotted && (every (is_within kwh_bound) (net_column l) && every (is_within money_bound) (money_column l))

-- 'Open sets the ledger to zeros', for p plants
unfoldable pub zeros : ℕ → Ledger
zeros p = record { allotted = replicate (allotted_width * p) 0; accounts = replicate (accounts_width * p) (pos 0) }

-- 'Settle .. adds to the ledger': figures added, one for one
unfoldable pub added : Ledger → Ledger → Ledger
added l more = record { allotted = l.allotted ⊕ more.allotted; accounts = l.accounts ⊕ℤ more.accounts }

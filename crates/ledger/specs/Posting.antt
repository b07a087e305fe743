-- What an hour adds to the ledger, and what the inner functions ask of figures so that no sum wraps. Assumes nothing.
use Rattle.std.specs.Prelude.{◌≡◌, List, ℕ, ◌*◌, ◌^◌, ◌≤◌, ℤ, pos, nat_abs, length, get_or}
use Rattle.lists.specs.Lists.{most, Within}
use Rattle.signed.specs.Figures.{accounts_of}
use Rattle.ledger.specs.declared.HourView.{HourView}
use Rattle.ledger.specs.Ledger.{Ledger, accounts_width, kwh_bound, money_bound}

-- an hour's figures: each row's allotted kWh, its net, and net × TEO as money
abbrev pub hour_figures : List ℕ → List ℤ → ℕ → Ledger
hour_figures allotment nets tariff = record { allotted = allotment; accounts = accounts_of tariff nets }

-- ... of an hour whose lists are lent to be read
abbrev pub viewed_hour : HourView → Ledger
viewed_hour h = hour_figures h.allotment.now h.nets.now h.tariff

-- each figure within the bound of zero, as a fact
pub record Near (l : List ℤ) (bound : ℕ) : Type 0 where
  pub at : (i : ℕ) → nat_abs (get_or l i (pos 0)) ≤ bound

-- figures of the ledger, and as many of an hour to be added to them
pub record Addable (figures more : List ℕ) : Type 0 where
  pub same : length figures ≡ length more
  pub ledger : Within figures kwh_bound
  pub hour : Within more most

-- accounts of the ledger, and a net for each row, to be added at a rate
pub record Payable (accounts nets : List ℤ) (rate : ℕ) : Type 0 where
  pub rows : length accounts ≡ accounts_width * length nets
  pub ledger : Near accounts money_bound
  pub hour : Near nets (4 * 10 ^ 9)
  pub low : rate ≤ 10000

-- an hour that may be added to a ledger: its figures to the allotted ones, its nets to the accounts at the tariff
abbrev pub Postable : Ledger → List ℕ → List ℤ → ℕ → Type 0
Postable l allotment nets tariff = Addable l.allotted allotment × Payable l.accounts nets tariff

-- accounts whose columns may be added up: at most 512 rows, each figure within the bound of money
pub record Summable (accounts : List ℤ) : Type 0 where
  pub short : length accounts ≤ accounts_width * 512
  pub small : Near accounts money_bound

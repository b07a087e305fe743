-- What a ledger in bounds has, figure by figure. Assumes nothing.
use mathlib.Core.Path.{◌≡◌, ap, subst}
use mathlib.Core.Bool.{true}
use mathlib.Core.List.{List}
use Prim.Native.Nat.{ℕ, zero, suc, ◌+◌, ◌-◌, ◌*◌, ◌≤◌, ◌<◌}
use native.Mathlib.Nat.{le_of_eq}
use native.Mathlib.Omega.{arith}
use lib.IntN.{ℤ, pos, nat_abs}
use lib.ListN.{length, get_or, replicate}
use Rattle.lists.specs.Lists.{Within, at_most, every, sum}
use Rattle.lists.specs.Columns.{column}
use Rattle.lists.proofs.Questions.{both, and_both, every-at, every_all, at-most-at, at-most_all}
use Rattle.lists.proofs.Rows.{column-place, column-same, at-replicate, by-columns, column-within}
use Rattle.signed.specs.Figures.{is_within}
use Rattle.signed.proofs.Laws.{within_abs, abs_within}
use Rattle.ledger.specs.Ledger.{Ledger, in_bounds, allotted_in, net_column, money_column, net_of, money_of, zeros, allotted_width, accounts_width, kwh_bound, money_bound}
use Rattle.ledger.specs.Posting.{Near, Summable}

-- every allotted figure; the net and the money of row i; every account, net or money
pub record Bounded (l : Ledger) : Type 0 where
  pub allotted : Within l.allotted kwh_bound
  pub net : (i : ℕ) → nat_abs (net_of i l) ≤ kwh_bound
  pub money : (i : ℕ) → nat_abs (money_of i l) ≤ money_bound
  pub accounts : Near l.accounts money_bound

-- the figures of a column within a bound, by row and by place
module _ (b : ℕ) (j : ℕ) (l : List ℤ) (e : every (is_within b) (column accounts_width j l) ≡ true) where
  row_near : (i : ℕ) → nat_abs (get_or (column accounts_width j l) i (pos 0)) ≤ b
  row_near i = within_abs b _ (every-at (is_within b) (column accounts_width j l) (pos 0) (abs_within b (pos 0) (omega arith)) e i)

  place_near : (i : ℕ) {k : ℕ} → k ≡ accounts_width * i + j → nat_abs (get_or l k (pos 0)) ≤ b
  place_near i e = subst (λ (z : ℤ). nat_abs z ≤ b) (column-place accounts_width j (omega arith) l i (pos 0) e) (row_near i)

pub bounded : (l : Ledger) → in_bounds l ≡ true → Bounded l
unfolding in_bounds
bounded l e =
    let p = both (at_most kwh_bound l.allotted) _ e in
    let q = both (every (is_within kwh_bound) (net_column l)) _ p.1 in
    record {
      allotted = record { at = at-most-at l.allotted kwh_bound p.0 };
      net = λ i. place_near kwh_bound 0 l.accounts q.0 i (omega arith);
      money = λ i. place_near money_bound 1 l.accounts q.1 i (omega arith);
      accounts = record { at = by-columns (λ z. nat_abs z ≤ money_bound) accounts_width (omega arith) l.accounts (pos 0) (columns q.0 q.1) };
    }
  where
    columns : every (is_within kwh_bound) (net_column l) ≡ true → every (is_within money_bound) (money_column l) ≡ true
        → (j : ℕ) → j < accounts_width → (i : ℕ) → nat_abs (get_or (column accounts_width j l.accounts) i (pos 0)) ≤ money_bound
    columns f g zero h i = let a = row_near kwh_bound 0 l.accounts f i in omega arith
    columns f g (suc zero) h i = row_near money_bound 1 l.accounts g i
    columns f g (suc (suc j)) h i = absurd (omega arith)

-- the accounts of a ledger in bounds, of at most 512 plants
pub summable : (l : Ledger) → in_bounds l ≡ true → length l.accounts ≤ 1024 → Summable l.accounts
summable l e h = record { short = h; small = (bounded l e).accounts }

-- each column sum of a ledger in bounds, of at most 512 plants
pub column-small : (l : Ledger) → in_bounds l ≡ true → length l.allotted ≤ 2048 → (s : ℕ) → sum (allotted_in s l) ≤ 2048 * kwh_bound
column-small l e h s = column-within allotted_width (s - 1) l.allotted kwh_bound 2048 (bounded l e).allotted h

-- zeros are in bounds
pub zeros_in_bounds : (p : ℕ) → in_bounds (zeros p) ≡ true
unfolding in_bounds zeros
zeros_in_bounds p =
    and_both _ _ (at-most_all (replicate (allotted_width * p) 0) kwh_bound nil)
    (and_both _ _ (near kwh_bound 0) (near money_bound 1))
  where
    nil : (i : ℕ) → get_or (replicate (allotted_width * p) 0) i 0 ≤ kwh_bound
    nil i = omega (arith, le_of_eq (at-replicate (allotted_width * p) i 0))

    near : (b j : ℕ) → every (is_within b) (column accounts_width j (replicate (accounts_width * p) (pos 0))) ≡ true
    near b j =
        every_all (is_within b) (column accounts_width j (replicate (accounts_width * p) (pos 0))) (pos 0) (λ i. abs_within b _
        (let z = ap nat_abs (column-same accounts_width j (omega arith) (accounts_width * p) i (pos 0)) in omega arith))

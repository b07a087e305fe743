-- The transfer step's question: what its tests say, and what follows where it is answered yes. Assumes nothing.
use mathlib.Core.Path.{◌≡◌, refl, sym, ap₂}
use mathlib.Core.Bool.{true, ◌&&◌, ◌||◌, or-true}
use mathlib.Core.List.{List, [], ◌∷◌}
use Prim.Native.Nat.{ℕ, zero, suc, min, ◌≤◌}
use native.Mathlib.Omega.{arith}
use lib.Dec.{eqb}
use lib.ListN.{length}
use borrow.Author.Tests.{leb-true, le-leb, ne_eqb}
use Rattle.std.specs.List.{list_all, zip}
use Rattle.lists.specs.Lists.{sum, most, every, at_most}
use Rattle.lists.specs.Columns.{rowwise}
use Rattle.lists.proofs.Questions.{asked, yes, all_yes, both, and_both, sum-hours}
use Rattle.transfer.specs.Calls.{apart, transfer_number}

pub record Transferable (left need : List ℕ) : Type 0 where
  pub left_hourly : at_most most left ≡ true
  pub need_hourly : at_most most need ≡ true
  pub enough : sum need ≤ sum left
  pub no_both : apart left need ≡ true

pub transferable : (left need : List ℕ) → transfer_number left need ≡ 0 → Transferable left need
unfolding transfer_number
transferable left need e =
    let a = both _ _ (asked _ _ [] tt e).0 in
    let b = both _ _ a.1 in
    let c = both _ _ b.1 in
    record { left_hourly = a.0; need_hourly = b.0; enough = leb-true _ _ c.0; no_both = c.1 }

pub is_transferable : (left need : List ℕ) → Transferable left need → 0 ≡ transfer_number left need
unfolding transfer_number
is_transferable left need t =
    yes _ 23 [] 0 (and_both _ _ t.left_hourly (and_both _ _ t.need_hourly (and_both _ _ (le-leb (sum need) (sum left) t.enough) t.no_both))) all_yes

-- the smaller of two is 0 where one of them is
smaller_none : (x y : ℕ) → (eqb x 0 || eqb y 0) ≡ eqb (min x y) 0
smaller_none zero y = let e : min 0 y ≡ 0 = omega arith in rw e
smaller_none (suc x) zero = let e : min (suc x) 0 ≡ 0 = omega arith in rw e (or-true (eqb (suc x) 0))
smaller_none (suc x) (suc y) = let p = ne_eqb (suc x) 0 (λ e. omega arith) in let q = ne_eqb (suc y) 0 (λ e. omega arith) in rw (p, q) (sym (ne_eqb (min (suc x) (suc y)) 0 (λ e. omega arith)))

pub pairs_apart : (left need : List ℕ) → length left ≡ length need → list_all (λ p. eqb p.0 0 || eqb p.1 0) (zip left need) ≡ apart left need
unfolding apart every rowwise
pairs_apart [] [] e = refl
pairs_apart [] (y ∷ ys) e = absurd (omega arith)
pairs_apart (x ∷ xs) [] e = absurd (omega arith)
pairs_apart (x ∷ xs) (y ∷ ys) e = ap₂ (λ a b. a && b) (smaller_none x y) (pairs_apart xs ys (omega arith))

pub ruleset hours = (sum-hours)

-- What a call that asks by `?` leaves: refused, what the refusal's number says; accepted, what 0 says. Assumes nothing.
use mathlib.Core.Path.{◌≡◌, refl, sym}
use mathlib.Core.Bool.{true}
use mathlib.Core.List.{List}
use Prim.Native.Nat.{ℕ, ◌≤◌, ◌^◌, min}
use native.Mathlib.Omega.{arith}
use lib.ListN.{length}
use Rattle.lists.specs.Lists.{sum, most, at_most}
use Rattle.lists.specs.Questions.{outcome}
use Rattle.lists.proofs.Questions.{refuses, accepted, sum-hours}
use Rattle.refusals.specs.declared.Refusal.{Refusal}
use Rattle.refusals.specs.Numbers.{refusal_number}
use Rattle.refusals.proofs.Asking.{refused_number}

module _ {A : Type 0} where
  pub call_refused : (r : Refusal) (n : ℕ) (y : A) (f : ℕ → A) → refusal_number r ≡ n → outcome n y f ≡ f (refusal_number r)
  call_refused r n y f e = sym (refuses (refusal_number r) n y (f (refusal_number r)) f e (λ z. refused_number r z) refl)

  pub call_accepted : (n : ℕ) (y : A) (f : ℕ → A) → 0 ≡ n → outcome n y f ≡ y
  call_accepted n y f e = accepted n y f (sym e)

pub ruleset calls = (call_refused, call_accepted)

-- the sum of figures in limits is below that at which `sum_of` stops
pub sum_whole : (xs : List ℕ) → length xs ≤ 744 → at_most most xs ≡ true → min (2 ^ 62) (sum xs) ≡ sum xs
sum_whole xs few low = let h = sum-hours xs few low in omega arith

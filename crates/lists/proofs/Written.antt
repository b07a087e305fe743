-- Loops that write a whole list, as long as there are rows. Assumes nothing.
use mathlib.Core.Path.{◌≡◌}
use mathlib.Core.List.{List}
use Prim.Native.Nat.{ℕ, ◌≤◌}
use native.Mathlib.Nat.{le_of_eq}
use lib.ListN.{length}
use Rattle.lists.specs.Lists.{table}
use Rattle.lists.proofs.Loops.{Tabling, tabled}
use Rattle.lists.proofs.Parts.{whole-written}

module _ {ℓ} {A : Type ℓ} (f : ℕ → A) where
  pub written_all : {n i : ℕ} {out₀ out : List A} → Tabling f n i out₀ out → n ≤ i → length out₀ ≡ n → out ≡ table n f
  written_all {n} {out₀ = out₀} k h e = whole-written n (table n f) out₀ (tabled f k h) (le_of_eq e)

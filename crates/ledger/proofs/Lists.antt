-- What loops over the ledger's lists leave. Assumes nothing.
use mathlib.Core.Path.{◌≡◌, refl, sym, ap, ◌∙◌, subst, subst₂}
use mathlib.Core.List.{List}
use Prim.Native.Nat.{ℕ, ◌+◌, ◌≤◌, ◌<◌}
use native.Mathlib.Omega.{arith}
use lib.ListN.{length, get_or, set}
use Rattle.lists.specs.Columns.{rowwise}
use Rattle.lists.proofs.Columns.{rowwise-table}
use Rattle.lists.proofs.Loops.{Updating, updating_more}
use Rattle.lists.proofs.Written.{written_all}

-- a loop that joins each figure, by f, with that of another list
module _ {A : Type 0} (f : A → A → A) (d : A) where
  abbrev pub Joining : List A → ℕ → List A → List A → Type 0
  Joining more i out₀ out = Updating (λ j x. f x (get_or more j d)) d (length out₀) i out₀ out

  -- a turn that stores at place p, and goes on to q
  pub joining_more : (more : List A) {k : ℕ} (p q : ℕ) {out₀ out next : List A} {x : A} → Joining more k out₀ out → k < length out₀ → k ≡ p → p + 1 ≡ q → x ≡ get_or more p d
      → next ≡ set out p (f (get_or out p d) x) → Joining more q out₀ next
  joining_more more p q {out₀} {out} j h e g u w =
      let here : Joining more p out₀ out = subst (λ (k : ℕ). Joining more k out₀ out) e j in
      subst₂ (λ (k : ℕ) (l : List A). Joining more k out₀ l) g (sym w) (updating_more here (omega arith) (ap (f (get_or out p d)) u))

  pub joined_all : (more : List A) {i : ℕ} {out₀ out : List A} → Joining more i out₀ out → length out₀ ≤ i → length out₀ ≡ length more → out ≡ rowwise f d d out₀ more
  joined_all more {out₀ = out₀} k h e = written_all _ k.now h refl ∙ sym (rowwise-table f d d (length out₀) out₀ more refl (sym e))

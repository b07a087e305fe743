-- A loop that gives rows their parts: the want of a row falls, and its figure in one column rises. Assumes nothing.
use mathlib.Core.Path.{◌≡◌, refl, sym, ap, ◌∙◌}
use mathlib.Core.Bool.{cond}
use mathlib.Core.Logic.{by_cases}
use mathlib.Core.List.{List}
use Prim.Native.Nat.{ℕ, ◌+◌, ◌-◌, ◌*◌, ◌≤◌, ◌<◌}
use native.Mathlib.Omega.{arith}
use native.Mathlib.Decide.{ℕ_discrete, dec_lt}
use lib.Dec.{eqb}
use lib.ListN.{length, get_or, take, set, length-set}
use lib.Seq.{take_all, get_or-take, get_or-set_same, get_or-set_other, ext_get_or}
use borrow.Author.Tests.{eq-eqb, ne_eqb}
use borrow.Author.Rules.{rules}
use Rattle.lists.specs.Columns.{◌⊖◌}
use Rattle.lists.proofs.Parts.{past_take}
use Rattle.lists.proofs.Columns.{◌!◌, at-⊖, cond_same, length-rowwise}
use Rattle.blocks.specs.Blocks.{Raised, in_column}

module _ {A : Type 0} (d : A) where
  -- one more is taken: what was there
  pub next-there : (l : List A) (i k : ℕ) → (k ≡ i → ⊥) → get_or (take (i + 1) l) k d ≡ get_or (take i l) k d
  next-there l i k ne = by_cases (dec_lt k i) below (λ h. above (omega arith))
    where
      below : k < i → get_or (take (i + 1) l) k d ≡ get_or (take i l) k d
      below h = get_or-take (i + 1) l k d (omega arith) ∙ sym (get_or-take i l k d h)

      above : i ≤ k → get_or (take (i + 1) l) k d ≡ get_or (take i l) k d
      above h = past_take d (i + 1) l k (omega arith) ∙ sym (past_take d i l k h)

-- a row without a part raises no figure
pub no_rise : (column : ℕ) (parts : List ℕ) (i j : ℕ) → parts ! i ≡ 0 → in_column column parts i j ≡ 0
no_rise column parts i j e = rw e (cond_same (eqb j column))

-- nothing rises
pub raise_nothing : {rise : ℕ → ℕ → ℕ} {figures : List ℕ} → ((i j : ℕ) → rise i j ≡ 0) → Raised rise figures figures
raise_nothing z = record { same = refl; by = λ i j h. let a = z i j in omega arith }

-- a store that adds to one figure
pub raised_set : (f h : ℕ → ℕ → ℕ) {before after : List ℕ} {at v : ℕ} (x : ℕ) → Raised f before after → at < length after → v ≡ after ! at + x
    → ((i j : ℕ) → j < 4 → 4 * i + j ≡ at → h i j ≡ f i j + x)
    → ((i j : ℕ) → j < 4 → (4 * i + j ≡ at → ⊥) → h i j ≡ f i j)
    → Raised h before (set after at v)
raised_set f h {before} {after} {at} {v} x r inside is here there =
    record { same = length-set after at v ∙ r.same; by = λ i j k. by_cases (ℕ_discrete (4 * i + j) at) (hit i j k) (miss i j k) }
  where
    hit : (i j : ℕ) → j < 4 → 4 * i + j ≡ at → set after at v ! (4 * i + j) ≡ before ! (4 * i + j) + h i j
    hit i j k e =
        let a : set after at v ! (4 * i + j) ≡ v = rw e (get_or-set_same after at v 0 inside) in
        let b : after ! at ≡ before ! (4 * i + j) + f i j = rw (← e) (r.by i j k) in
        let c = here i j k e in
        omega arith

    miss : (i j : ℕ) → j < 4 → (4 * i + j ≡ at → ⊥) → set after at v ! (4 * i + j) ≡ before ! (4 * i + j) + h i j
    miss i j k e = get_or-set_other after at (4 * i + j) v 0 e ∙ r.by i j k ∙ ap (λ y. before ! (4 * i + j) + y) (sym (there i j k e))

-- after i of the rows
pub record Handing (column : ℕ) (part want₀ figures₀ want figures : List ℕ) (i : ℕ) : Type 0 where
  pub turns : i ≤ length part
  pub same : length want ≡ length want₀
  pub falls : (k : ℕ) → want ! k ≡ want₀ ! k - take i part ! k
  pub rises : Raised (in_column column (take i part)) figures₀ figures

module _ {column : ℕ} {part want₀ figures₀ : List ℕ} where
  pub handing_more : {want figures : List ℕ} {i : ℕ} → Handing column part want₀ figures₀ want figures i → i < length part
      → length part ≤ length want₀ → 4 * length part ≤ length figures₀ → column < 4
      → Handing column part want₀ figures₀ (set want i (want ! i - part ! i))
      (set figures (4 * i + column) (figures ! (4 * i + column) + part ! i)) (i + 1)
  handing_more {want} {figures} {i} k h rows four-each inside =
      record {
        turns = omega arith;
        same = length-set want i (want ! i - part ! i) ∙ k.same;
        falls = λ m. by_cases (ℕ_discrete m i) (hit m) (miss m);
        rises =
            raised_set (in_column column (take i part)) (in_column column (take (i + 1) part)) (part ! i) k.rises
            (let e = k.rises.same in omega arith) refl on off;
      }
    where
      hit : (m : ℕ) → m ≡ i → set want i (want ! i - part ! i) ! m ≡ want₀ ! m - take (i + 1) part ! m
      hit m e =
          rw e (get_or-set_same want i (want ! i - part ! i) 0 (let s = k.same in omega arith)
          ∙ (let a = k.falls i in let b = past_take 0 i part i (omega arith) in let c = get_or-take (i + 1) part i 0 (omega arith) in omega arith))

      miss : (m : ℕ) → (m ≡ i → ⊥) → set want i (want ! i - part ! i) ! m ≡ want₀ ! m - take (i + 1) part ! m
      miss m e = get_or-set_other want i m (want ! i - part ! i) 0 e ∙ k.falls m ∙ ap (λ x. want₀ ! m - x) (sym (next-there 0 part i m e))

      on : (a j : ℕ) → j < 4 → 4 * a + j ≡ 4 * i + column → in_column column (take (i + 1) part) a j ≡ in_column column (take i part) a j + part ! i
      on a j l e =
          let p : a ≡ i = omega arith in
          let q : j ≡ column = omega arith in
          rw (eq-eqb j column q, p) (let x = past_take 0 i part i (omega arith) in let y = get_or-take (i + 1) part i 0 (omega arith) in omega arith)

      off : (a j : ℕ) → j < 4 → (4 * a + j ≡ 4 * i + column → ⊥) → in_column column (take (i + 1) part) a j ≡ in_column column (take i part) a j
      off a j l e = by_cases (ℕ_discrete j column) other same_row
        where
          other : j ≡ column → in_column column (take (i + 1) part) a j ≡ in_column column (take i part) a j
          other q = ap (λ x. cond (eqb j column) x 0) (next-there 0 part i a (λ p. e (omega arith)))

          same_row : (j ≡ column → ⊥) → in_column column (take (i + 1) part) a j ≡ in_column column (take i part) a j
          same_row q = rw (ne_eqb j column q) refl

  -- at the end
  pub handed : {want figures : List ℕ} {i : ℕ} → Handing column part want₀ figures₀ want figures i → length part ≤ i → length part ≤ length want₀
      → want ≡ want₀ ⊖ part
  handed {want} {i = i} k h rows =
      ext_get_or 0 want (want₀ ⊖ part)
      (k.same ∙ (let a = length-rowwise ◌-◌ 0 0 want₀ part in omega arith))
      (λ m _. k.falls m ∙ ap (λ l. want₀ ! m - l ! m) (take_all i part h) ∙ sym (at-⊖ want₀ part m))

pub ruleset handings = (handing_more, handed, rules)

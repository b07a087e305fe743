-- Loops over slices, one turn for each element.
--   A loop that reads. Its invariant says what is left, for any function of the list that is left, as `s + sum (drop i l) ≡ sum l`.
--     drop_more, rest_more    a turn takes one element from what is left; of a column: Rows.stride_more
--     rest-none               at the end nothing is left; of a column: Rows.stride_none
--   A loop that sums, s so far: `Adding l rest s`; the laws are adding, adding_more, adding_le, added.
--   A loop that puts a test to each element and stops at the first that fails: `Passing p l rest`; the laws are passing, passing_more, halted,
--   passed; of figures that must be at most n, `Limiting n l i`, with limiting, limiting_more, exceeded, limited.
--   A loop that fills out[0..n], one store a turn. Its invariant is `Filling n i out₀ all out rest`: with rest, which is still to be written,
--   in the place of out[i..n], out is all.
--     filling         where the loop begins
--     filling_more    a turn that stores the first element of the rest
--     filling_kept    what stands at i and behind has not been written yet
--     filled          at the end
--   A loop that stores f i at i, for any f. Its invariant is `Tabling f n i out₀ out`; the laws are tabling, tabling_more, tabled.
-- Assumes nothing.
use mathlib.Core.Path.{◌≡◌, refl, sym, ap, ◌∙◌}
use mathlib.Core.Bool.{Bool, true, false, ◌&&◌}
use mathlib.Core.List.{List, [], ◌∷◌, ◌++◌, append_assoc}
use Prim.Native.Nat.{ℕ, suc, ◌+◌, ◌-◌, ◌^◌, ◌≤◌, ◌<◌, zero-le}
use native.Mathlib.Nat.{le_antisymm, sub-zero, add-zero, zero-add}
use native.Mathlib.Numerals.{add-one}
use native.Mathlib.Omega.{arith}
use lib.ListN.{length, drop, get_or, set, length-set, drop_of_length-le, take-append-drop}
use lib.Seq.{drop-cons, take-suc-set, drop-set-lt, drop-drop, get_or-drop}
use borrow.Author.Rules.{rules}
use lib.Dec.{leb}
use mir.Syntax.{w64}
use mir.Val.{Fits}
use borrow.Author.Tests.{le-leb, lt-leb}
use Rattle.lists.specs.Lists.{sum, table, table_from, between, every, at_most}

pub drop_more {ℓ} : {A : Type ℓ} (l : List A) (i : ℕ) (d : A) → i < length l → drop i l ≡ get_or l i d ∷ drop (i + 1) l
drop_more l i d h = rw (add-one, drop-cons l i d)

module _ {ℓ κ} {A : Type ℓ} {R : Type κ} (f : List A → R) where
  pub rest_more : (l : List A) (i : ℕ) (d : A) → i < length l → f (drop i l) ≡ f (get_or l i d ∷ drop (i + 1) l)
  rest_more l i d h = ap f (drop_more l i d h)

  pub rest-none : (l : List A) (i : ℕ) → length l ≤ i → f (drop i l) ≡ f []
  rest-none l i h = ap f (drop_of_length-le l h)

pub at_drop {ℓ} : {A : Type ℓ} (l : List A) (i : ℕ) (d : A) → get_or (drop i l) 0 d ≡ get_or l i d
at_drop l i d = get_or-drop i l 0 d ∙ rw add-zero

-- a store at i leaves what stands behind
pub kept-behind {ℓ} : {A : Type ℓ} (out out₀ : List A) (i : ℕ) (v : A) → drop i out ≡ drop i out₀ → drop (i + 1) (set out i v) ≡ drop (i + 1) out₀
kept-behind out out₀ i v e = drop-set-lt (i + 1) out i v (omega arith) ∙ sym (drop-drop 1 i out) ∙ ap (drop 1) e ∙ drop-drop 1 i out₀

pub record Filling {ℓ} {A : Type ℓ} (n i : ℕ) (out₀ all out rest : List A) : Type ℓ where
  pub turns : i ≤ n
  pub room : n ≤ length out₀
  pub same : length out ≡ length out₀
  pub kept : drop i out ≡ drop i out₀
  pub whole : between i n out rest ≡ all

module _ {ℓ} {A : Type ℓ} {n : ℕ} {out₀ : List A} where
  pub filling : {xs : List A} → n ≤ length out₀ → Filling n 0 out₀ (xs ++ drop n out₀) out₀ xs
  filling h = record { turns = zero-le; room = h; same = refl; kept = refl; whole = refl }

  -- the definition has u at i, and the code stores v
  pub filling_more : {i : ℕ} {all out rest more : List A} {u v : A} → Filling n i out₀ all out rest → i < n → rest ≡ u ∷ more → u ≡ v
      → Filling n (i + 1) out₀ all (set out i v) more
  filling_more {i = i} {out = out} {v = v} k h e p =
      let inside : i < length out = omega arith in
      record {
        turns = omega arith;
        room = k.room;
        same = length-set out i v ∙ k.same;
        kept = kept-behind out out₀ i v k.kept;
        whole = rw (add-one, take-suc-set out i v inside, drop-set-lt n out i v h, append_assoc) (rw (e, p) at k.whole);
      }

  pub filling_kept : {i : ℕ} {all out rest : List A} → Filling n i out₀ all out rest → (d : A) → get_or out i d ≡ get_or out₀ i d
  filling_kept {i = i} {out = out} k d = sym (at_drop out i d) ∙ ap (λ (l : List A). get_or l 0 d) k.kept ∙ at_drop out₀ i d

  pub filled : {i : ℕ} {all out rest : List A} → Filling n i out₀ all out rest → n ≤ i → rest ≡ [] → out ≡ all
  filled {i = i} {out = out} k h e =
      let at_end : n ≡ i = le_antisymm h k.turns in
      sym (take-append-drop i out) ∙ (rw (e, at_end) at k.whole)

module _ {ℓ} {A : Type ℓ} (f : ℕ → A) where
  pub table_more : (i n : ℕ) → i < n → table_from f i (n - i) ≡ f i ∷ table_from f (i + 1) (n - (i + 1))
  table_more i n h =
      let one_more : n - i ≡ suc (n - (i + 1)) = omega arith in
      rw one_more

  pub table_none : (i n : ℕ) → n ≤ i → table_from f i (n - i) ≡ []
  table_none i n h =
      let none : n - i ≡ 0 = omega arith in
      rw none

  abbrev pub Tabling : ℕ → ℕ → List A → List A → Type ℓ
  Tabling n i out₀ out = Filling n i out₀ (table n f ++ drop n out₀) out (table_from f i (n - i))

  pub tabling : (n : ℕ) (out₀ : List A) → n ≤ length out₀ → Tabling n 0 out₀ out₀
  tabling n out₀ h = rw sub-zero (filling h)

  pub tabling_more : {n i : ℕ} {out₀ out : List A} {v : A} → Tabling n i out₀ out → i < n → v ≡ f i → Tabling n (i + 1) out₀ (set out i v)
  tabling_more {n} {i} k h e = filling_more k h (table_more i n h) (sym e)

  pub tabled : {n i : ℕ} {out₀ out : List A} → Tabling n i out₀ out → n ≤ i → out ≡ table n f ++ drop n out₀
  tabled {n} {i} k h = filled k h (table_none i n h)

-- A loop that replaces each x at i by g i x, in place.
pub record Updating {ℓ} {A : Type ℓ} (g : ℕ → A → A) (d : A) (n i : ℕ) (out₀ out : List A) : Type ℓ where
  pub now : Tabling (λ (j : ℕ). g j (get_or out₀ j d)) n i out₀ out

module _ {ℓ} {A : Type ℓ} {g : ℕ → A → A} {d : A} {n : ℕ} {out₀ : List A} where
  pub updating : n ≤ length out₀ → Updating g d n 0 out₀ out₀
  updating h = record { now = tabling _ n out₀ h }

  pub updating_more : {i : ℕ} {out : List A} {v : A} → Updating g d n i out₀ out → i < n → v ≡ g i (get_or out i d) → Updating g d n (i + 1) out₀ (set out i v)
  updating_more {i} k h e = record { now = tabling_more _ k.now h (e ∙ ap (g i) (filling_kept k.now d)) }

-- A loop that sums a list, with s the sum so far and rest what is left.
pub record Adding (l rest : List ℕ) (s : ℕ) : Type 0 where
  pub whole : s + sum rest ≡ sum l

pub adding : {l : List ℕ} → Adding l l 0
adding = record { whole = zero-add _ }

module _ {l rest more : List ℕ} {s x : ℕ} (k : Adding l rest s) (e : rest ≡ x ∷ more) where
  turn : sum rest ≡ x + sum more
  unfolding sum
  turn = ap sum e

  pub adding_more : {t : ℕ} → t ≡ s + x → Adding l more t
  adding_more p = record { whole = omega (arith, turn, k.whole) }

  -- the sum with one more stays within the whole
  pub adding_le : s + x ≤ sum l
  adding_le = omega (arith, turn, k.whole)

pub added : {l rest : List ℕ} {s : ℕ} → Adding l rest s → rest ≡ [] → s ≡ sum l
unfolding sum
added k e = omega (arith, ap sum e, k.whole)

-- ... of a list from its front, in the form that `search` finds
module _ {l : List ℕ} {i s : ℕ} (k : Adding l (drop i l) s) (h : i < length l) where
  pub adding_next : {t : ℕ} → t ≡ s + get_or l i 0 → Adding l (drop (i + 1) l) t
  adding_next p = adding_more k (drop_more l i 0 h) p

  pub adding_fits : {B : ℕ} → sum l < B → B ≤ 2 ^ 64 → Fits w64 (s + get_or l i 0)
  adding_fits b w = record { fits = omega (arith, adding_le k (drop_more l i 0 h)) }

-- A loop that puts a test to each element, and leaves at the first that fails it: what is left decides.
pub record Passing {A : Type 0} (p : A → Bool) (l rest : List A) : Type 0 where
  pub whole : every p l ≡ every p rest

module _ {A : Type 0} {p : A → Bool} {l : List A} where
  pub passing : Passing p l l
  passing = record { whole = refl }

  module _ {rest more : List A} {x : A} (k : Passing p l rest) (e : rest ≡ x ∷ more) where
    tried : every p l ≡ (p x && every p more)
    unfolding every
    tried = k.whole ∙ ap (every p) e

    pub passing_more : p x ≡ true → Passing p l more
    passing_more t = record { whole = tried ∙ rw t }

    pub halted : p x ≡ false → false ≡ every p l
    halted t = sym (tried ∙ rw t)

  pub passed : {rest : List A} → Passing p l rest → rest ≡ [] → true ≡ every p l
  unfolding every
  passed k e = sym (k.whole ∙ ap (every p) e)

-- ... of figures that must be at most n
pub record Limiting (n : ℕ) (l : List ℕ) (i : ℕ) : Type 0 where
  pub now : Passing (λ x. leb x n) l (drop i l)

module _ {n : ℕ} {l : List ℕ} where
  pub limiting : Limiting n l 0
  limiting = record { now = passing }

  pub limiting_more : {i : ℕ} → Limiting n l i → i < length l → get_or l i 0 ≤ n → Limiting n l (i + 1)
  limiting_more {i} k h e = record { now = passing_more k.now (drop_more l i 0 h) (le-leb _ n e) }

  pub exceeded : {i : ℕ} → Limiting n l i → i < length l → n < get_or l i 0 → false ≡ at_most n l
  unfolding at_most
  exceeded {i} k h e = halted k.now (drop_more l i 0 h) (lt-leb _ n e)

  pub limited : {i : ℕ} → Limiting n l i → length l ≤ i → true ≡ at_most n l
  unfolding at_most
  limited {i} k h = passed k.now (drop_of_length-le l h)

-- For `search loops` at the needs of a loop.
pub ruleset loops = (filling, tabling, tabling_more, tabled, updating, updating_more, adding, adding_next, adding_fits, added, drop_of_length-le, limiting, limiting_more, exceeded, limited, rules)

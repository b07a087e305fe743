-- Where a field's bytes lie in the line. Assumes nothing.
use mathlib.Core.Path.{◌≡◌, refl, sym, ap, ◌∙◌}
use mathlib.Core.List.{List, [], ◌∷◌, map, map-append}
use Prim.Native.Nat.{ℕ, suc, ◌+◌, ◌≤◌, ◌<◌}
use native.Mathlib.Omega.{arith}
use borrow.Author.Tests.{ltb-true}
use lib.ListN.{length, take, drop, length-drop, take-append-drop}
use denote.Ref.{Bor}
use Rattle.lists.specs.Lists.{sum}
use Rattle.lists.proofs.Questions.{asked, refuses, accepts}
use Rattle.lists.proofs.Sums.{sum-append}
use Rattle.lines.specs.Fields.{to_first, fields, field_number, field_bytes, start_of, field_start, Part}
use Rattle.lines.specs.Inner.{first_field, Starts}
use Rattle.lines.proofs.Commas.{by_commas_lem, fields-some, field_present, field_there}

-- ---- how many bytes the fields have

first-longer : (b : ℕ) (fs : List (List ℕ)) → 0 < length fs → sum (map length (to_first b fs)) + length (to_first b fs) ≡ suc (sum (map length fs) + length fs)
unfolding to_first sum
first-longer b [] h = absurd (omega arith)
first-longer b (f ∷ fs) h = omega arith

-- with a comma before each but the first they make the line
all_bytes : (l : List ℕ) → sum (map length (fields l)) + length (fields l) ≡ suc (length l)
unfolding fields sum
all_bytes = by_commas_lem refl (λ bs ih. omega (arith, ih)) (λ b bs e ih. rw e (first-longer b (fields bs) (fields-some bs) ∙ ap suc ih))

split_bytes : (i : ℕ) (fs : List (List ℕ)) → sum (map length fs) ≡ sum (map length (take i fs)) + sum (map length (drop i fs))
split_bytes i fs =
    ap (λ (r : List (List ℕ)). sum (map length r)) (sym (take-append-drop i fs)) ∙ ap sum (map-append length (take i fs) (drop i fs))
    ∙ sum-append (map length (take i fs)) (map length (drop i fs))

-- ---- where a field starts

starts-there : (l : List ℕ) (index r : ℕ) → r ≤ length l → index < length (fields l) → drop index (fields l) ≡ fields (drop r l) → r ≡ start_of l index
unfolding start_of
starts-there l index r h k e =
    let a = all_bytes l in
    let b = all_bytes (drop r l) in
    let s = split_bytes index (fields l) in
    let p : sum (map length (drop index (fields l))) ≡ sum (map length (fields (drop r l))) = ap (λ (fs : List (List ℕ)). sum (map length fs)) e in
    let q : length (drop index (fields l)) ≡ length (fields (drop r l)) = ap length e in
    omega (arith, length-drop index (fields l), length-drop r l)

-- ---- what the field call hands back

module _ (l : List ℕ) (index : ℕ) {n : ℕ} (e : n ≡ field_number l index) where
  pub start_none : (n ≡ 0 → ⊥) → 0 ≡ field_start l index
  unfolding field_start
  start_none h = refuses n (field_number l index) _ 0 _ e h refl

  pub bytes-none : (n ≡ 0 → ⊥) → [] ≡ field_bytes l index
  unfolding field_bytes
  bytes-none h = refuses n (field_number l index) _ [] _ e h refl

  module _ (z : n ≡ 0) where
    pub present : index < length (fields l)
    unfolding field_number
    present = ltb-true _ _ (asked _ _ [] tt (asked _ _ _ tt (sym e ∙ z)).1).0

    module _ {r : ℕ} (s : Starts l index r) where
      pub start-there : r ≡ field_start l index
      unfolding field_start
      start-there = accepts n (field_number l index) _ _ _ e z (starts-there l index r s.inside (field_present s) s.there)

      pub bytes-there : first_field (drop r l) ≡ field_bytes l index
      unfolding field_bytes
      bytes-there = accepts n (field_number l index) _ _ _ e z (sym (field_there s))

module _ {line part : Bor (List ℕ)} where
  same-part : {a b : ℕ} {xs ys : List ℕ} → a ≡ b → xs ≡ ys → Part line part a xs → Part line part b ys
  same-part p q i = record { place = i.place ∙ ap (λ (k : ℕ). (line.ref_ptr.0, k + line.ref_ptr.1)) p; content = i.content ∙ q }

  module _ (index : ℕ) {n : ℕ} (e : n ≡ field_number line.now index) where
    pub part_none : (n ≡ 0 → ⊥) → Part line part 0 [] → Part line part (field_start line.now index) (field_bytes line.now index)
    part_none h = same-part (start_none line.now index e h) (bytes-none line.now index e h)

    pub part-there : n ≡ 0 → {r : ℕ} → Starts line.now index r → Part line part r (first_field (drop r line.now))
        → Part line part (field_start line.now index) (field_bytes line.now index)
    part-there z s = same-part (start-there line.now index e z s) (bytes-there line.now index e z s)

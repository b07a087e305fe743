-- Laws of commas and fields. Assumes nothing.
use mathlib.Core.Path.{◌≡◌, refl, sym, ap, subst, ◌∙◌}
use mathlib.Core.Logic.{by_cases}
use mathlib.Core.Bool.{Bool, true, false, cond}
use mathlib.Core.List.{List, [], ◌∷◌}
use Prim.Native.Nat.{ℕ, zero, suc, ◌+◌, ◌-◌, ◌≤◌, ◌<◌, zero-le}
use native.Mathlib.Decide.{dec_lt}
use native.Mathlib.Omega.{arith}
use borrow.Author.Tests.{eq-eqb, ne_eqb, eqb-true, eqb-false, lt-ltb, le-ltb}
use lib.Dec.{eqb, ltb}
use Rattle.std.specs.Prelude.{Option, Some, None, MatchOption, IfOk, count_by}
use Rattle.std.specs.Option.{ok_or}
use Rattle.std.specs.List.{onto_first, slice_split}
use Rattle.std.proofs.lemmas.List.Splits.{length-slice_split}
use lib.ListN.{length, take, drop, get_or, length-drop, drop_of_length-le}
use lib.Seq.{get_or-drop, drop-drop, drop-nil, take_all, length-take-le}
use Rattle.lists.proofs.Loops.{at_drop}
use Rattle.refusals.specs.declared.Refusal.TheVariants.{FieldCount}
use Rattle.refusals.specs.Numbers.{number}
use Rattle.lines.specs.Fields.{to_comma, next_comma, fields, to_first}
use Rattle.lines.specs.Inner.{first_field, Starts}

-- past the line's end
pub comma_end : (l : List ℕ) (i : ℕ) → length l ≤ i → to_comma (drop i l) ≡ 0
unfolding to_comma
comma_end l i h = rw (drop_of_length-le l {i = i} h)

-- a law of lines follows from that of no bytes, and from that of the bytes behind a comma and behind another byte
pub by_commas_lem : {P : List ℕ → Type 0} → P [] → ((bs : List ℕ) → P bs → P (44 ∷ bs)) → ((b : ℕ) (bs : List ℕ) → eqb b 44 ≡ false → P bs → P (b ∷ bs)) → (l : List ℕ) → P l
by_commas_lem none comma other [] = none
by_commas_lem {P} none comma other (b ∷ bs) = by (eqb b 44) refl (by_commas_lem none comma other bs)
  where
    by : (t : Bool) → eqb b 44 ≡ t → P bs → P (b ∷ bs)
    by true e ih = subst (λ (c : ℕ). P (c ∷ bs)) (sym (eqb-true b 44 e)) (comma bs ih)
    by false e ih = other b bs e ih

-- ---- the next comma lies inside the line

pub comma-le : (l : List ℕ) → to_comma l ≤ length l
unfolding to_comma
comma-le = by_commas_lem (omega arith) (λ bs ih. omega arith) (λ b bs e ih. rw e (omega (arith, ih)))

module _ (l : List ℕ) (i : ℕ) where
  pub next_low : i ≤ next_comma l i
  unfolding next_comma
  next_low = omega arith

  pub next-high : i ≤ length l → next_comma l i ≤ length l
  unfolding next_comma
  next-high h = omega (arith, comma-le (drop i l), length-drop i l)

-- ---- the first field, and those behind it

fields-both : (l : List ℕ) → (length l ≤ to_comma l → fields l ≡ l ∷ [])
    × (to_comma l < length l → fields l ≡ take (to_comma l) l ∷ fields (drop (suc (to_comma l)) l))
unfolding fields to_comma to_first
fields-both =
    by_commas_lem ((λ h. refl), (λ h. absurd (omega arith))) (λ bs ih. ((λ h. absurd (omega arith)), (λ h. refl)))
    (λ b bs e ih. rw e ((λ h. ap (to_first b) (ih.0 (omega arith))), (λ h. ap (to_first b) (ih.1 (omega arith)))))

-- from a position on: the field there, and those behind the next comma
module _ (l : List ℕ) (i : ℕ) (h : i ≤ length l) where
  pub field_long : i + length (first_field (drop i l)) ≡ next_comma l i
  unfolding first_field next_comma
  field_long = ap (λ (n : ℕ). i + n) (length-take-le (to_comma (drop i l)) (drop i l) (comma-le (drop i l)))

  pub fields-more : next_comma l i < length l → fields (drop i l) ≡ first_field (drop i l) ∷ fields (drop (next_comma l i + 1) l)
  unfolding first_field next_comma
  fields-more k =
      let behind : i + suc (to_comma (drop i l)) ≡ i + to_comma (drop i l) + 1 = omega arith in
      (fields-both (drop i l)).1 (omega (arith, length-drop i l))
      ∙ ap (λ (r : List ℕ). first_field (drop i l) ∷ fields r) (drop-drop (suc (to_comma (drop i l))) i l ∙ ap (λ (n : ℕ). drop n l) behind)

  pub fields-last : length l ≤ next_comma l i → fields (drop i l) ≡ first_field (drop i l) ∷ []
  unfolding first_field next_comma
  fields-last k =
      let all : length (drop i l) ≤ to_comma (drop i l) = omega (arith, length-drop i l) in
      (fields-both (drop i l)).0 all ∙ ap (λ (f : List ℕ). f ∷ []) (sym (take_all (to_comma (drop i l)) (drop i l) all))

  -- the part that is handed back
  pub field_part : (e : ℕ) → e ≡ next_comma l i → take (e - i) (drop i l) ≡ first_field (drop i l)
  unfolding first_field next_comma
  field_part e p =
      let long : e - i ≡ to_comma (drop i l) = omega arith in
      ap (λ (n : ℕ). take n (drop i l)) long

-- ---- a loop that passes over fields

-- with at in the line, the fields from there on but `left` are those of the line but `index`
pub record Skipping (l : List ℕ) (index at left : ℕ) : Type 0 where
  pub inside : at ≤ length l
  pub rest : drop left (fields (drop at l)) ≡ drop index (fields l)

module _ {l : List ℕ} {index : ℕ} where
  pub skipping : Skipping l index 0 index
  skipping = record { inside = zero-le; rest = refl }

  pub skipping_more : {at left e : ℕ} → Skipping l index at left → 0 < left → e ≡ next_comma l at → e < length l → Skipping l index (e + 1) (left - 1)
  skipping_more {at} {left} {e} s h p k =
      let one_more : left ≡ suc (left - 1) = omega arith in
      record { inside = omega arith; rest = rw p (rw (one_more, fields-more l at s.inside (rw p at k)) at s.rest) }

  pub skipped_all : {at left e : ℕ} → Skipping l index at left → 0 < left → e ≡ next_comma l at → length l ≤ e → length (fields l) ≤ index
  skipped_all {at} {left} {e} s h p k =
      let one_more : left ≡ suc (left - 1) = omega arith in
      let none : drop index (fields l) ≡ [] = sym s.rest ∙ rw (one_more, fields-last l at s.inside (rw p at k), drop-nil (left - 1)) in
      omega (arith, length-drop index (fields l), ap length none)

  pub skipped : {at left : ℕ} → Skipping l index at left → left ≤ 0 → Starts l index at
  skipped {at} {left} s h =
      let none : left ≡ 0 = omega arith in
      record { inside = s.inside; there = sym s.rest ∙ rw none }

-- a line has a first field
pub fields-first : (l : List ℕ) → fields l ≡ first_field l ∷ drop 1 (fields l)
unfolding fields first_field to_comma to_first
fields-first = by_commas_lem refl (λ bs ih. refl) (λ b bs e ih. rw (e, ih))

pub fields-some : (l : List ℕ) → 0 < length (fields l)
fields-some l = omega (arith, ap length (fields-first l))

-- ---- std's words for the bytes before the first comma, and for the fields

pub comma_none : to_comma [] ≡ 0
unfolding to_comma
comma_none = refl

pub comma_hit : (b : ℕ) (bs : List ℕ) → b ≡ 44 → to_comma (b ∷ bs) ≡ 0
unfolding to_comma
comma_hit b bs e = rw (eq-eqb b 44 e)

pub comma_miss : (b : ℕ) (bs : List ℕ) → (b ≡ 44 → ⊥) → to_comma (b ∷ bs) ≡ to_comma bs + 1
unfolding to_comma
comma_miss b bs n = rw (ne_eqb b 44 n) (omega arith)

onto_first-is : (b : ℕ) (fs : List (List ℕ)) → 0 < length fs → onto_first b fs ≡ to_first b fs
unfolding to_first
onto_first-is b [] h = absurd (omega arith)
onto_first-is b (f ∷ fs) h = refl

pub split_fields : (l : List ℕ) → slice_split (λ b. eqb b 44) l ≡ fields l
unfolding fields
split_fields =
    by_commas_lem refl (λ bs ih. ap (λ (fs : List (List ℕ)). [] ∷ fs) ih) (λ b bs e ih. rw (e, ih) (onto_first-is b (fields bs) (fields-some bs)))

pub commas_counted : (l : List ℕ) → count_by (λ b. eqb b 44) l + 1 ≡ length (fields l)
commas_counted l = sym (length-slice_split (λ b. eqb b 44) l) ∙ ap length (split_fields l)

-- ---- a field by its index

module _ {l : List ℕ} {index r : ℕ} (s : Starts l index r) where
  whole : drop index (fields l) ≡ first_field (drop r l) ∷ drop 1 (fields (drop r l))
  whole = s.there ∙ fields-first (drop r l)

  pub field_present : index < length (fields l)
  field_present = omega (arith, length-drop index (fields l), ap length whole)

  pub field_there : get_or (fields l) index [] ≡ first_field (drop r l)
  field_there = sym (at_drop (fields l) index []) ∙ ap (λ (fs : List (List ℕ)). get_or fs 0 []) whole

-- ---- a loop that reads fields

pub starts_first : {l : List ℕ} → Starts l 0 0
starts_first = record { inside = zero-le; there = refl }

-- behind the field there starts the next one, if there is one
module _ {l : List ℕ} {i at : ℕ} (s : Starts l i at) {f : List ℕ} (e : f ≡ first_field (drop at l)) where
  ends : at + length f ≡ next_comma l at
  ends = ap (λ (f : List ℕ). at + length f) e ∙ field_long l at s.inside

  pub field_inside : at + length f ≤ length l
  field_inside = omega (arith, ends, next-high l at s.inside)

  pub starts_more : i + 1 < length (fields l) → Starts l (i + 1) (at + (length f + 1))
  starts_more h =
      let last : length l ≤ next_comma l at → ⊥ = λ k. omega (arith, length-drop i (fields l), ap length (s.there ∙ fields-last l at s.inside k)) in
      let comma : next_comma l at < length l = by_cases (dec_lt (next_comma l at) (length l)) (λ k. k) (λ k. absurd (last (omega arith))) in
      let behind : next_comma l at + 1 ≡ at + (length f + 1) = omega (arith, ends) in
      record {
        inside = omega (arith, ends);
        there =
            sym (drop-drop 1 i (fields l)) ∙ ap (drop 1) (s.there ∙ fields-more l at s.inside comma)
            ∙ ap (λ (n : ℕ). fields (drop n l)) behind;
      }

-- question 28 by what stands for the field's start
pub field_asked : (l : List ℕ) (index : ℕ) (o : Option ℕ) → MatchOption o (length (fields l) ≤ index) (Starts l index)
    → number (ok_or o FieldCount) ≡ cond (ltb index (length (fields l))) 0 28
field_asked l index None h = rw (le-ltb index (length (fields l)) h)
field_asked l index (Some r) s = rw (lt-ltb index (length (fields l)) (field_present s))

pub field_found : (l : List ℕ) (index : ℕ) (o : Option ℕ) → MatchOption o (length (fields l) ≤ index) (Starts l index) → IfOk (ok_or o FieldCount) (Starts l index)
field_found l index None h = tt
field_found l index (Some r) s = s

-- ---- the next comma is the first

before_comma : (l : List ℕ) (k : ℕ) → k < to_comma l → get_or l k 0 ≡ 44 → ⊥
unfolding to_comma
before_comma = by_commas_lem (λ k h e. omega arith) (λ bs ih k h e. omega arith) (λ b bs q ih. rw q (other b bs q ih))
  where
    other : (b : ℕ) (bs : List ℕ) → eqb b 44 ≡ false → ((k : ℕ) → k < to_comma bs → get_or bs k 0 ≡ 44 → ⊥) → (k : ℕ) → k < suc (to_comma bs) → get_or (b ∷ bs) k 0 ≡ 44 → ⊥
    other b bs q ih zero h e = eqb-false b 44 q e
    other b bs q ih (suc k) h e = ih k (omega arith) e

at-comma : (l : List ℕ) → to_comma l < length l → get_or l (to_comma l) 0 ≡ 44
unfolding to_comma
at-comma = by_commas_lem (λ h. absurd (omega arith)) (λ bs ih h. refl) (λ b bs e ih. rw e (λ h. ih (omega arith)))

module _ (l : List ℕ) (i : ℕ) where
  pub none_before : (k : ℕ) → i ≤ k → k < next_comma l i → get_or l k 0 ≡ 44 → ⊥
  unfolding next_comma
  none_before k h q e =
      let there : i + (k - i) ≡ k = omega arith in
      before_comma (drop i l) (k - i) (omega arith) (get_or-drop i l (k - i) 0 ∙ ap (λ (n : ℕ). get_or l n 0) there ∙ e)

  pub comma-there : next_comma l i < length l → get_or l (next_comma l i) 0 ≡ 44
  unfolding next_comma
  comma-there h = sym (get_or-drop i l (to_comma (drop i l)) 0) ∙ at-comma (drop i l) (omega (arith, length-drop i l))

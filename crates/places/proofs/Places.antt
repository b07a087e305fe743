-- A field by its start and its length. Assumes nothing.
use mathlib.Core.Path.{◌≡◌, refl, sym, ap, subst, ◌∙◌}
use mathlib.Core.Logic.{by_cases}
use mathlib.Core.List.{List}
use Prim.Native.Nat.{ℕ, zero, suc, ◌+◌, ◌-◌, ◌≤◌, ◌<◌}
use native.Mathlib.Decide.{dec_lt}
use native.Mathlib.Omega.{arith}
use lib.ListN.{length, take, drop}
use Rattle.lines.specs.Fields.{next_comma, fields, field_number, field_bytes}
use Rattle.lines.specs.Inner.{first_field, Starts}
use Rattle.lines.proofs.Commas.{Skipping, skipping, skipping_more, skipped, skipped_all, next-high, field_long, field_part}
use Rattle.lines.proofs.Parts.{start_none, bytes-none, present, start-there, bytes-there}
use Rattle.places.specs.declared.FieldPlace.{FieldPlace}
use Rattle.places.specs.Parts.{field_place}
use Rattle.places.specs.Laws.{Parts}

-- ---- what the call answers

module _ (l : List ℕ) (index : ℕ) where
  pub no_place : (n : ℕ) → n ≡ field_number l index → (n ≡ 0 → ⊥) → ◌≡◌ {A = FieldPlace} (record { number = n; start = 0; length = 0 }) (field_place l index)
  unfolding field_place
  no_place n e h = rw (← e, ← start_none l index e h, ← bytes-none l index e h)

  pub placed : {n r : ℕ} → Starts l index r → n ≡ field_number l index → n ≡ 0 → {part : List ℕ} → part ≡ first_field (drop r l)
      → ◌≡◌ {A = FieldPlace} (record { number = 0; start = r; length = length part }) (field_place l index)
  unfolding field_place
  placed s e z p =
      let number : 0 ≡ field_number l index = sym z ∙ e in
      rw (p, ← number, ← start-there l index e z s, ← bytes-there l index e z s)

-- ---- the promises

-- a field that the line has starts inside it
there : (l : List ℕ) (index left at : ℕ) → index < length (fields l) → Skipping l index at left → (r : ℕ) × (r ≤ length l) × Starts l index r
there l index zero at k s = (at, s.inside, skipped s (omega arith))
there l index (suc left) at k s =
    let less : suc left - 1 ≡ left = omega arith in
    by_cases (dec_lt (next_comma l at) (length l))
    (λ h. there l index left (next_comma l at + 1) k (subst (Skipping l index (next_comma l at + 1)) less (skipping_more s (omega arith) refl h)))
    (λ h. absurd (omega (arith, k, skipped_all s (omega arith) refl (omega arith))))

both : (l : List ℕ) (index n : ℕ) → n ≡ field_number l index → ((field_place l index).start + (field_place l index).length ≤ length l)
    × (take (field_place l index).length (drop (field_place l index).start l) ≡ field_bytes l index)
both l index zero e =
    let t = there l index index 0 (present l index e refl) skipping in
    let long : next_comma l t.0 - t.0 ≡ length (first_field (drop t.0 l)) = omega (arith, field_long l t.0 t.1) in
    rw (← placed l index t.2 e refl refl)
    (omega (arith, field_long l t.0 t.1, next-high l t.0 t.1), ap (λ (n : ℕ). take n (drop t.0 l)) (sym long) ∙ field_part l t.0 t.1 _ refl ∙ bytes-there l index e refl t.2)
both l index (suc n) e = rw (← no_place l index (suc n) e (λ z. omega (arith, z))) (omega arith, bytes-none l index e (λ z. omega (arith, z)))

pub parts : Parts
parts = record { inside = λ l index. (both l index (field_number l index) refl).0; bytes = λ l index. (both l index (field_number l index) refl).1 }

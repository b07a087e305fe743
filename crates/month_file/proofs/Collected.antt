-- Laws of bytes that are collected to a line. Assumes nothing.
use mathlib.Core.Path.{◌≡◌, refl, sym, ap, ◌∙◌}
use mathlib.Core.Logic.{by_cases}
use mathlib.Core.Bool.{Bool, true, false, not}
use mathlib.Core.List.{List, [], ◌∷◌, ◌++◌, append_assoc, append-nil}
use Prim.Native.Nat.{ℕ, suc, ◌+◌, ◌-◌, ◌≤◌, ◌<◌, min}
use native.Mathlib.Omega.{arith}
use native.Mathlib.Decide.{dec_lt}
use borrow.Author.Tests.{ne_eqb, lt-ltb, ltb-false, eqb-true, eqb-false}
use lib.ListN.{length, take, drop, get_or, length-drop, length-append, take-append-drop}
use lib.Seq.{length-take-le, get_or-take, get_or-drop, drop-drop, take_at}
use Rattle.std.specs.Prelude.{◌==◌, nat_lt, position, unwrap_or}
use Rattle.std.specs.List.{position_or_len}
use Rattle.std.proofs.lemmas.List.Sums.{fails_before_first, passes_at_first, prefix_len-le-length}
use Rattle.lists.proofs.Loops.{rest_more}
use Rattle.file_lines.specs.File.{Progress}
use Rattle.file_lines.specs.State.{is_refused}
use Rattle.month_file.specs.Bytes.{Reading, longer, byte, fed}
use Rattle.month_file.specs.Machine.{Collected}

abbrev reading : List ℕ → ℕ → Progress → Reading
reading line count p = record { line = line; count = count; progress = p }

-- the byte at a place, and those behind it
pub fed-at : (part : List ℕ) (at : ℕ) (r : Reading) {q : Reading} → at < length part → byte r (get_or part at 0) ≡ q → fed r (drop at part) ≡ fed q (drop (at + 1) part)
unfolding fed
fed-at part at r h e = rest_more (fed r) part at 0 h ∙ ap (λ (q : Reading). fed q (drop (at + 1) part)) e

-- a byte that goes to the line
byte_more : (line : List ℕ) (count : ℕ) (p : Progress) (b : ℕ) → is_refused p ≡ false → (b ≡ 10 → ⊥) → length line < 8192
    → byte (reading line count p) b ≡ reading (line ++ (b ∷ [])) count p
unfolding byte longer
byte_more line count p b e h l = rw (e, ne_eqb b 10 h, lt-ltb (length line) 8192 l)

-- bytes that go to the line
bytes_more : (xs ys line : List ℕ) (count : ℕ) (p : Progress) → is_refused p ≡ false → ((i : ℕ) → i < length xs → get_or xs i 0 ≡ 10 → ⊥) → length line + length xs ≤ 8192
    → fed (reading line count p) (xs ++ ys) ≡ fed (reading (line ++ xs) count p) ys
unfolding fed
bytes_more [] ys line count p e h l = ap (λ (z : List ℕ). fed (reading z count p) ys) (sym (append-nil line))
bytes_more (x ∷ xs) ys line count p e h l =
    ap (λ (r : Reading). fed r (xs ++ ys)) (byte_more line count p x e (h 0 (omega arith)) (omega arith))
    ∙ bytes_more xs ys (line ++ (x ∷ [])) count p e (λ i k. h (suc i) (omega (arith, k))) (omega (arith, length-append line (x ∷ [])))
    ∙ ap (λ (z : List ℕ). fed (reading z count p) ys) (append_assoc line (x ∷ []) xs)

-- where the first of the items that pass stands, or their end
abbrev first_or_end : (ℕ → Bool) → List ℕ → ℕ
first_or_end p xs = unwrap_or (position p xs) (length xs)

first_is : (p : ℕ → Bool) (xs : List ℕ) → first_or_end p xs ≡ position_or_len p xs
first_is p xs = go (nat_lt (position_or_len p xs) (length xs)) refl
  where
    go : (t : Bool) → nat_lt (position_or_len p xs) (length xs) ≡ t → first_or_end p xs ≡ position_or_len p xs
    go true e = rw e refl
    go false e = rw e (omega (arith, ltb-false _ _ e, prefix_len-le-length (λ (x : ℕ). not (p x)) xs))

-- the bytes of a part before the first byte 10, of as many as the line has room for
module _ (part : List ℕ) (from : ℕ) (old : List ℕ) (at : ℕ) (h : from ≤ length part) (few : at ≤ 8192) (long : 8192 ≤ length old)
    {rest : List ℕ} (behind : rest ≡ drop from part) {room n : ℕ} (fits : room ≡ min (length rest) (8192 - at))
    (e : n ≡ unwrap_or (position (λ (b : ℕ). b == 10) (take room rest)) room) where
  h_rest : length rest ≡ length part - from
  h_rest = ap length behind ∙ length-drop from part

  h_room : length (take room rest) ≡ room
  h_room = length-take-le room rest (omega (arith, fits))

  first : n ≡ position_or_len (λ (b : ℕ). b == 10) (take room rest)
  first = e ∙ ap (unwrap_or (position (λ (b : ℕ). b == 10) (take room rest))) (sym h_room) ∙ first_is (λ (b : ℕ). b == 10) (take room rest)

  within : n ≤ room
  within = omega (arith, first, h_room, prefix_len-le-length (λ (b : ℕ). not (b == 10)) (take room rest))

  other : (i : ℕ) → i < length (take n rest) → get_or (take n rest) i 0 ≡ 10 → ⊥
  other i l q =
      let k : i < n = omega (arith, l, length-take-le n rest (omega (arith, h_rest, within, fits))) in
      let same : get_or (take room rest) i 0 ≡ get_or (take n rest) i 0 = get_or-take room rest i 0 (omega (arith, k, within)) ∙ sym (get_or-take n rest i 0 k) in
      eqb-false _ 10 (fails_before_first (λ (b : ℕ). b == 10) (take room rest) i 0 (omega (arith, k, first))) (same ∙ q)

  stopped : n < room → get_or part (from + n) 0 ≡ 10
  stopped l =
      sym (get_or-drop from part n 0) ∙ ap (λ (l : List ℕ). get_or l n 0) (sym behind) ∙ sym (get_or-take room rest n 0 l)
      ∙ ap (λ (i : ℕ). get_or (take room rest) i 0) first
      ∙ eqb-true _ 10 (passes_at_first (λ (b : ℕ). b == 10) (take room rest) 0 (omega (arith, l, first, h_room)))

  pub collected : {new : List ℕ} → new ≡ take at old ++ (take n rest ++ drop n (drop at old)) → Collected part from old at (from + n) new
  collected {new} w =
      let h_n : length (take n rest) ≡ n = length-take-le n rest (omega (arith, h_rest, within, fits)) in
      let front : take (at + (from + n - from)) new ≡ take at old ++ take n rest =
      ap (take (at + (from + n - from))) (w ∙ sym (append_assoc (take at old) (take n rest) (drop n (drop at old))))
      ∙ take_at (take at old ++ take n rest) _ _ (omega (arith, length-append (take at old) (take n rest), h_n, length-take-le at old (omega (arith, few, long)))) in
      let parted : drop from part ≡ take n rest ++ drop (from + n) part = sym behind ∙ sym (take-append-drop n rest) ∙ ap (λ (l : List ℕ). take n rest ++ l) (ap (drop n) behind ∙ drop-drop n from part) in
      record {
        low = omega arith;
        high = omega (arith, h, h_rest, within, fits);
        short = omega (arith, within, fits, few);
        full = λ l b. by_cases (dec_lt n room) (λ k. absurd (b (stopped k))) (λ k. omega (arith, l, k, h_rest, within, fits, few));
        same = λ count p q. ap (fed (reading (take at old) count p)) parted
            ∙ bytes_more (take n rest) (drop (from + n) part) (take at old) count p q other (omega (arith, h_n, within, fits, few, length-take-le at old (omega (arith, few, long))))
            ∙ ap (λ (l : List ℕ). fed (reading l count p) (drop (from + n) part)) (sym front);
      }

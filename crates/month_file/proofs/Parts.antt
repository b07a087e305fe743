-- The bytes of a part, taken line by line. Assumes nothing.
use mathlib.Core.Path.{◌≡◌, refl, sym, ap, ◌∙◌}
use mathlib.Core.Logic.{◌≢◌}
use mathlib.Core.Bool.{true, false}
use mathlib.Core.List.{List, [], ◌∷◌}
use Prim.Native.Nat.{ℕ, ◌+◌, ◌-◌, ◌≤◌, ◌<◌}
use native.Mathlib.Omega.{arith}
use borrow.Author.Tests.{eq-eqb, ne_eqb, le-ltb}
use lib.ListN.{length, take, drop, get_or, drop_of_length-le}
use lib.Seq.{length-take-le}
use Rattle.file_lines.specs.declared.FileStage.{FileStage}
use Rattle.file_lines.specs.declared.FileStage.TheVariants.{First, Gathering, Metering, Refused}
use Rattle.file_lines.specs.declared.MonthFile.{MonthFile}
use Rattle.file_lines.specs.File as file
use Rattle.file_lines.specs.File.{whole, Progress, read}
use Rattle.file_lines.specs.State.{is_refused, Kept, progress_at, progress_of, Valid, Moved, file_with, at_stage, at_refusal}
use Rattle.month_file.specs.Bytes.{Reading, ended, longer, byte, fed}
use Rattle.month_file.specs.Machine.{reading_of, Collected, Stepped, Fed}
use Rattle.file_lines.proofs.Following.{reads}
use Rattle.file_lines.proofs.Moves.{refused_moved}
use Rattle.file_lines.proofs.Taken.{unrefused}
use Rattle.month_file.proofs.Collected.{fed-at}

-- after a refusal no byte matters
fed-refused : (bs : List ℕ) (r : Reading) → is_refused r.progress ≡ true → fed r bs ≡ r
unfolding fed byte
fed-refused [] r e = refl
fed-refused (b ∷ bs) r e = rw e (fed-refused bs r e)

-- a byte 10; a byte for which the line has no room
byte-ends : (r : Reading) (b : ℕ) → is_refused r.progress ≡ false → b ≡ 10 → byte r b ≡ ended r
unfolding byte
byte-ends r b e h = rw (e, eq-eqb b 10 h)

byte_full : (r : Reading) (b : ℕ) → is_refused r.progress ≡ false → (b ≡ 10 → ⊥) → 8192 ≤ length r.line
    → byte r b ≡ record { line = []; count = r.count + 1; progress = file.refuses (r.count + 1) 26 }
unfolding byte longer
byte_full r b e h l = rw (e, ne_eqb b 10 h, le-ltb (length r.line) 8192 l)

-- ---- the bytes of a line

-- a state with another length
abbrev pub lengthened : MonthFile → ℕ → MonthFile
lengthened f n = file_with f f.stage n f.count f.month f.number

progress_same : (s : FileStage) (f : MonthFile) (k : Kept) (n : ℕ) → progress_at s f k ≡ progress_at s (lengthened f n) k
unfolding progress_at
progress_same First f k n = refl
progress_same Gathering f k n = refl
progress_same Metering f k n = refl
progress_same Refused f k n = refl

valid-longer : (f : MonthFile) (k : Kept) (n : ℕ) → Valid f k → n ≤ 8192 → Valid (lengthened f n) k
valid-longer f k n v h =
    record {
      lent = v.lent;
      short = h;
      begun = v.begun;
      gathering = λ e. let g = v.gathering e in record { plants = g.plants; periods = g.periods; rows = g.rows; figures = g.figures; counted = g.counted };
      settling = λ e. let g = v.settling e in record { counted = g.counted; rows = g.rows; bounded = g.bounded };
    }

pub refused-progress : (f : MonthFile) (k : Kept) → f.stage ≡ Refused → progress_of f k ≡ file.refuses f.count f.number
unfolding progress_at progress_of
refused-progress f k s = rw s

module _ {f : MonthFile} {k : Kept} (v : Valid f k) (line part : List ℕ) (from : ℕ) where
  is_refused_lem : f.stage ≡ Refused → is_refused (reading_of f k line).progress ≡ true
  unfolding reading_of is_refused
  is_refused_lem s = ap is_refused (refused-progress f k s)

  -- after a refusal
  pub skipped : f.stage ≡ Refused → Fed f k line (drop from part) f k line
  skipped s = record { valid = v; stands = sym (fed-refused (drop from part) _ (is_refused_lem s)) }

  module _ (due : f.stage ≢ Refused) {new : List ℕ} {end : ℕ} (c : Collected part from line f.length end new) where
    abbrev more : MonthFile
    more = lengthened f (f.length + (end - from))

    valid-more : Valid more k
    valid-more = valid-longer f k _ v c.short

    going : is_refused (reading_of more k new).progress ≡ false
    unfolding reading_of
    going = unrefused valid-more due

    collected_same : fed (reading_of f k line) (drop from part) ≡ fed (reading_of more k new) (drop end part)
    unfolding reading_of progress_of
    collected_same =
        c.same f.count (progress_of f k) (unrefused v due)
        ∙ ap (λ (p : Progress). fed (record { line = take more.length new; count = f.count; progress = p }) (drop end part)) (progress_same f.stage f k more.length)

    pub to_the_end : end ≡ length part → Fed f k line (drop from part) more k new
    unfolding fed
    to_the_end e =
        record {
          valid = valid-more;
          stands = sym (collected_same ∙ ap (fed (reading_of more k new)) (drop_of_length-le part (omega (arith, e))));
        }

    module _ (left : end ≡ length part → ⊥) where
      inside : end < length part
      inside = omega (arith, left, c.high)

      -- ... and a byte more
      one_more_lem : (q : Reading) → byte (reading_of more k new) (get_or part end 0) ≡ q → fed (reading_of f k line) (drop from part) ≡ fed q (drop (end + 1) part)
      one_more_lem q e = collected_same ∙ fed-at part end _ inside e

      full : 8192 ≤ length new → (get_or part end 0 ≡ 10 → ⊥) → 8192 ≤ length (reading_of more k new).line
      unfolding reading_of
      full l b = omega (arith, c.full inside b, length-take-le more.length new (omega (arith, c.full inside b)))

      pub no_room : 8192 ≤ length new → (get_or part end 0 ≡ 10 → ⊥) → (r : MonthFile) → r ≡ at_refusal more 26 → Fed f k line (drop from part) r k new
      unfolding reading_of at_refusal at_stage progress_at progress_of is_refused
      no_room l b r e =
          record {
            valid = rw e (refused_moved more k v.lent 26).valid;
            stands = rw e (sym (one_more_lem _ (byte_full _ (get_or part end 0) going b (full l b)) ∙ fed-refused (drop (end + 1) part) _ refl));
          }

      pub line-ends : get_or part end 0 ≡ 10 → Stepped f k line part from more new (end + 1)
      line-ends b =
          record {
            low = omega (arith, c.low);
            high = omega (arith, inside);
            valid = valid-more;
            due = due;
            ends = one_more_lem _ (byte-ends _ (get_or part end 0) going b);
          }

-- ---- the part

-- a line that has ended, taken
line_taken : (f : MonthFile) (k : Kept) → Valid f k → f.stage ≢ Refused → (line : List ℕ) {r : MonthFile} {q : Kept}
    → Moved f (read (f.count + 1) (progress_of f k) (whole (take f.length line))) r q → ended (reading_of f k line) ≡ reading_of r q line
unfolding reading_of ended
line_taken f k v due line m =
    rw (m.stands, m.empty, m.counted, reads (f.count + 1) (progress_of f k) (whole (take f.length line)) (unrefused v due))

-- a loop that has taken a part up to a byte
pub record Feeding (part line₀ : List ℕ) (k₀ : Kept) (f₀ : MonthFile) (line : List ℕ) (k : Kept) (f : MonthFile) (at : ℕ) : Type 0 where
  pub high : at ≤ length part
  pub same : fed (reading_of f₀ k₀ line₀) part ≡ fed (reading_of f k line) (drop at part)

module _ {part line₀ : List ℕ} {k₀ : Kept} {f₀ : MonthFile} where
  module _ {line : List ℕ} {k : Kept} {f : MonthFile} {at : ℕ} (c : Feeding part line₀ k₀ f₀ line k f at) where
    -- a line that has ended is taken
    pub feeding_line : {f₁ : MonthFile} {line₁ : List ℕ} {to : ℕ} → Stepped f k line part at f₁ line₁ to → {k₁ : Kept} {f₂ : MonthFile}
        → Moved f₁ (read (f₁.count + 1) (progress_of f₁ k) (whole (take f₁.length line₁))) f₂ k₁ → Feeding part line₀ k₀ f₀ line₁ k₁ f₂ to
    feeding_line {f₁} {line₁} {to} s m =
        record { high = s.high; same = c.same ∙ s.ends ∙ ap (λ (r : Reading). fed r (drop to part)) (line_taken f₁ k s.valid s.due line₁ m) }

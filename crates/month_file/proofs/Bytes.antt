-- The bytes one by one give the file's text, however they are cut. Assumes nothing.
use mathlib.Core.Path.{◌≡◌, refl, sym, ap, ◌∙◌}
use mathlib.Core.Bool.{Bool, true, false, cond}
use mathlib.Core.List.{List, [], ◌∷◌, ◌++◌, flatten}
use Prim.Native.Nat.{ℕ, ◌+◌, ◌<◌}
use native.Mathlib.Omega.{arith}
use borrow.Author.Tests.{ltb-false, lt-leb}
use lib.Dec.{eqb, ltb}
use lib.ListN.{length, length-append}
use Rattle.lists.specs.Questions.{first_no, outcome}
use Rattle.lines.specs.Reading.{read_number}
use Rattle.file_lines.specs.File.{FileLine, whole, unfinished, lines_after, lines, Progress, refuses, read, next, refusal, following, settled_file}
use Rattle.file_lines.specs.State.{is_refused}
use Rattle.month_file.specs.Bytes.{Reading, ended, longer, byte, fed, fed_parts, start, finished, Promised}
use Rattle.file_lines.proofs.Following.{stays, refused_is, reads}

-- a line of more than 8,192 bytes is refused by 26
pub too_long : (k : ℕ) (p : Progress) (l : FileLine) → is_refused p ≡ false → 8192 < length l.bytes → next k p l ≡ refuses k 26
unfolding read read_number first_no outcome
too_long k p l e h = reads k p l e ∙ rw (lt-leb (length l.bytes) 8192 h)

pub unfinished-some : (line : List ℕ) → 0 < length line → unfinished line ≡ record { bytes = line; ended = false } ∷ []
unfolding unfinished
unfinished-some [] h = absurd (omega arith)
unfinished-some (b ∷ bs) h = refl

-- ... and nothing behind it matters
module _ (k : ℕ) (p : Progress) (e : is_refused p ≡ false) where
  long_end : (l : FileLine) (ls : List FileLine) → 8192 < length l.bytes → following k p (l ∷ ls) ≡ refusal (k + 1) 26
  unfolding following
  long_end l ls h = rw (too_long (k + 1) p l e h) (stays (k + 1) (k + 1) 26 ls)

  long-line : (bs line : List ℕ) → 8192 < length line → following k p (lines_after line bs) ≡ refusal (k + 1) 26
  unfolding lines_after
  long-line [] line h = rw (unfinished-some line (omega arith)) (long_end (record { bytes = line; ended = false }) [] h)
  long-line (b ∷ bs) line h = by (eqb b 10) (long-line bs (line ++ (b ∷ [])) (omega (arith, length-append line (b ∷ []))))
    where
      by : (t : Bool) → following k p (lines_after (line ++ (b ∷ [])) bs) ≡ refusal (k + 1) 26
          → following k p (cond t (whole line ∷ lines_after [] bs) (lines_after (line ++ (b ∷ [])) bs)) ≡ refusal (k + 1) 26
      by true more = long_end (whole line) (lines_after [] bs) h
      by false more = more

-- one byte, with what holds of those behind it
module _ (b : ℕ) (bs : List ℕ) (r : Reading) (rest : (q : Reading) → finished (fed q bs) ≡ following q.count q.progress (lines_after q.line bs)) where
  all_refused : (p : Progress) → r.progress ≡ p → is_refused p ≡ true → (ls ms : List FileLine)
      → following r.count r.progress ls ≡ following r.count r.progress ms
  all_refused p e t ls ms =
      let q = refused_is p t in
      rw (e ∙ q.2) (stays r.count q.0 q.1 ls ∙ sym (stays r.count q.0 q.1 ms))

  in_line : (t : Bool) → ltb (length r.line) 8192 ≡ t → is_refused r.progress ≡ false
      → finished (fed (longer r b) bs) ≡ following r.count r.progress (lines_after (r.line ++ (b ∷ [])) bs)
  unfolding longer
  in_line true t e = rw t (rest _)
  in_line false t e =
      let full = ltb-false (length r.line) 8192 t in
      rw t
      (rest _ ∙ stays (r.count + 1) (r.count + 1) 26 (lines_after [] bs)
      ∙ sym (long-line r.count r.progress e bs (r.line ++ (b ∷ [])) (omega (arith, length-append r.line (b ∷ [])))))

  unrefused : (t : Bool) → is_refused r.progress ≡ false
      → finished (fed (cond t (ended r) (longer r b)) bs)
      ≡ following r.count r.progress (cond t (whole r.line ∷ lines_after [] bs) (lines_after (r.line ++ (b ∷ [])) bs))
  unfolding ended following
  unrefused true e = rest _
  unrefused false e = in_line (ltb (length r.line) 8192) refl e

  one_byte : (t : Bool) → is_refused r.progress ≡ t
      → finished (fed (byte r b) bs) ≡ following r.count r.progress (lines_after r.line (b ∷ bs))
  unfolding byte lines_after
  one_byte true e = rw e (rest r ∙ all_refused r.progress refl e _ _)
  one_byte false e = rw e (unrefused (eqb b 10) e)

-- the bytes that are left, after a line that has begun
after_these : (bs : List ℕ) (r : Reading) → finished (fed r bs) ≡ following r.count r.progress (lines_after r.line bs)
unfolding fed finished lines_after
after_these [] r = refl
after_these (b ∷ bs) r = one_byte b bs r (after_these bs) (is_refused r.progress) refl

pub fed-append : (xs ys : List ℕ) (r : Reading) → fed r (xs ++ ys) ≡ fed (fed r xs) ys
unfolding fed
fed-append [] ys r = refl
fed-append (x ∷ xs) ys r = fed-append xs ys (byte r x)

cut_anywhere : (parts : List (List ℕ)) (r : Reading) → fed_parts r parts ≡ fed r (flatten parts)
unfolding fed_parts fed flatten
cut_anywhere [] r = refl
cut_anywhere (part ∷ parts) r = cut_anywhere parts (fed r part) ∙ sym (fed-append part (flatten parts) r)

all_bytes : (bytes : List ℕ) → finished (fed start bytes) ≡ settled_file bytes
unfolding settled_file lines
all_bytes bytes = after_these bytes start

pub promised : Promised
promised = record { same = all_bytes; cut = λ parts. ap finished (cut_anywhere parts start) ∙ all_bytes (flatten parts) }

-- One line of the file and what follows it: a line that is read and in turn is taken, and any other is refused. Assumes nothing.
use mathlib.Core.Path.{◌≡◌, refl, sym, ap, ap₂, subst, ◌∙◌}
use mathlib.Core.Bool.{Bool, true, false, cond, ◌&&◌}
use mathlib.Core.List.{List, [], ◌∷◌, map, cons≢nil, head-eq_of_cons-eq, tail-eq_of_cons-eq}
use Prim.Native.Nat.{ℕ, zero, suc, ◌+◌, ◌≤◌, ◌<◌}
use native.Mathlib.Omega.{arith}
use lib.ListN.{length, get_or, replicate, length-map, length-replicate}
use Rattle.lists.specs.Questions.{outcome}
use Rattle.lists.proofs.Questions.{accepted}
use Rattle.lines.specs.Reading.{line_start, read_number}
use Rattle.file_lines.specs.File.{FileLine, whole, Progress, refuses, figures_of, in_turn, taken, read, refusal, following}
use Rattle.file_lines.specs.State.{is_refused}
use Rattle.file_demand.specs.Sums.{Rising, Readable}
use Rattle.file_lines.proofs.Following.{stays, reads}

-- what follows the k-th line: a claim holds, or a line from the k-th to the one after the last is refused
pub data Followed (claim : Type 0) (k : ℕ) (ls : List FileLine) (text : List ℕ) : Type 0 where
  holds : claim → Followed claim k ls text
  refused : (line number : ℕ) → k ≤ line → line ≤ k + length ls + 1 → 0 < number → text ≡ refusal line number → Followed claim k ls text

-- a claim follows from another
pub on : {claim other : Type 0} {k : ℕ} {ls : List FileLine} {text : List ℕ} → (claim → other) → Followed claim k ls text → Followed other k ls text
on f (holds c) = holds (f c)
on f (refused j n low high some e) = refused j n low high some e

-- what follows the next line follows this one
pub later : {claim : Type 0} {k : ℕ} {l : FileLine} {ls : List FileLine} {text : List ℕ} → Followed claim (k + 1) ls text → Followed claim k (l ∷ ls) text
later (holds c) = holds c
later (refused j n low high some e) = refused j n (omega (arith, low)) (omega (arith, high)) some e

-- the k-th line is refused
pub stopped : {claim : Type 0} (k n : ℕ) (ls : List FileLine) → Followed claim k ls (following k (refuses k (suc n)) ls)
stopped k n ls = refused k (suc n) (omega arith) (omega arith) (omega arith) (stays k k (suc n) ls)

-- an early end
pub ended-early : {claim : Type 0} (k : ℕ) → Followed claim k [] (refusal (k + 1) 31)
ended-early k = refused (k + 1) 31 (omega arith) (omega arith) (omega arith) refl

-- a call with a number, at the k-th line
pub by_number : {claim : Type 0} (n k : ℕ) (p : Progress) (ls : List FileLine) → (n ≡ 0 → Followed claim k ls (following k p ls))
    → Followed claim k ls (following k (outcome n p (refuses k)) ls)
unfolding outcome
by_number zero k p ls f = f refl
by_number (suc n) k p ls f = stopped k n ls

-- a line with its byte 10, of which 26 to 30 are answered yes
abbrev pub IsRead : FileLine → Type 0
IsRead l = (l ≡ whole l.bytes) × (read_number l.bytes 513 ≡ 0)

-- a line that is read and in turn is taken; any other is refused
module _ {claim : Type 0} (k : ℕ) (p : Progress) (l : FileLine) (ls : List FileLine)
    (more : IsRead l → in_turn p (line_start l.bytes) (figures_of l.bytes) ≡ true
    → Followed claim (k + 1) ls (following (k + 1) (taken (k + 1) p (figures_of l.bytes)) ls)) where
  by_turn : read_number l.bytes 513 ≡ 0 → (e t : Bool) → l.ended ≡ e → in_turn p (line_start l.bytes) (figures_of l.bytes) ≡ t
      → Followed claim (k + 1) ls (following (k + 1) (cond (e && t) (taken (k + 1) p (figures_of l.bytes)) (refuses (k + 1) 31)) ls)
  by_turn z true true e t = more (ap (λ (b : Bool). record { bytes = l.bytes; ended = b }) e, z) t
  by_turn z true false e t = stopped (k + 1) 30 ls
  by_turn z false t e s = stopped (k + 1) 30 ls

  pub by-line : is_refused p ≡ false → Followed claim (k + 1) ls (following k p (l ∷ ls))
  unfolding following read
  by-line e =
      subst (λ (q : Progress). Followed claim (k + 1) ls (following (k + 1) q ls)) (sym (reads (k + 1) p l e))
      (by_number (read_number l.bytes 513) (k + 1) _ ls (λ z. by_turn z l.ended _ refl refl))

pub line_taken : (k : ℕ) (p : Progress) (l : List ℕ) (ls : List FileLine) {q : Progress} → is_refused p ≡ false → read_number l 513 ≡ 0
    → in_turn p (line_start l) (figures_of l) ≡ true → taken (k + 1) p (figures_of l) ≡ q → following k p (whole l ∷ ls) ≡ following (k + 1) q ls
unfolding following read
line_taken k p l ls e z t d =
    ap (λ (q : Progress). following (k + 1) q ls)
    (reads (k + 1) p (whole l) e ∙ accepted _ _ _ z ∙ ap (λ (b : Bool). cond b (taken (k + 1) p (figures_of l)) (refuses (k + 1) 31)) t ∙ d)

-- ---- lines of a whole file

pub record AreLines (ls : List FileLine) (given : List (List ℕ)) : Type 0 where
  pub is_lines : ls ≡ map whole given
  pub readable : Readable ls

pub next-line : {x : FileLine} {ls : List FileLine} {given : List (List ℕ)} → IsRead x → AreLines ls given → AreLines (x ∷ ls) (x.bytes ∷ given)
next-line x r =
    record {
      is_lines = ap₂ (λ a b. a ∷ b) x.0 r.is_lines;
      readable = ap₂ (λ a b. a ∷ b) x.1 r.readable;
    }

-- as many lines as starts
pub count : (ls : List (List ℕ)) (n start : ℕ) → map line_start ls ≡ replicate n start → length ls ≡ n
count ls n start e = sym (length-map ls line_start) ∙ ap length e ∙ length-replicate n start

-- the first of n equal figures
pub copied : (n y x : ℕ) (xs : List ℕ) → x ∷ xs ≡ replicate n y → (m : ℕ) × (n ≡ suc m) × (x ≡ y) × (xs ≡ replicate m y)
copied zero y x xs e = absurd (cons≢nil e)
copied (suc n) y x xs e = (n, refl, head-eq_of_cons-eq e, tail-eq_of_cons-eq e)

-- ---- lines with their periods

pub no_lines : (start from : ℕ) → Rising start from 0 []
no_lines start from = record { starts = refl; periods = refl }

pub one_line : {start from n : ℕ} {l : List ℕ} {ls : List (List ℕ)} → line_start l ≡ start → get_or (figures_of l) 0 0 ≡ from → Rising start (from + 1) n ls
    → Rising start from (suc n) (l ∷ ls)
one_line s f r =
    record {
      starts = ap₂ (λ a b. a ∷ b) s r.starts;
      periods = ap₂ (λ a b. a ∷ b) f r.periods;
    }

pub after_one : {start from n : ℕ} {l : List ℕ} {ls : List (List ℕ)} → Rising start from n (l ∷ ls)
    → (m : ℕ) × (n ≡ suc m) × (line_start l ≡ start) × (get_or (figures_of l) 0 0 ≡ from) × Rising start (from + 1) m ls
after_one {n = zero} r = absurd (cons≢nil r.starts)
after_one {n = suc n} r = (
  n,
  refl,
  head-eq_of_cons-eq r.starts,
  head-eq_of_cons-eq r.periods,
  record { starts = tail-eq_of_cons-eq r.starts; periods = tail-eq_of_cons-eq r.periods },
)

pub rising_as : {start from other n m : ℕ} {ls : List (List ℕ)} → from ≡ other → n ≡ m → Rising start from n ls → Rising start other m ls
rising_as {start} {from} {other} {n} {m} {ls} e p r = subst (λ (a : ℕ). Rising start a m ls) e (subst (λ (b : ℕ). Rising start from b ls) p r)

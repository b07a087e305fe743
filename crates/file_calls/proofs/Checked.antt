-- What feed and finish need, decided at run time, and the promises of `specs/Checking`. Assumes nothing.
use mathlib.Core.Path.{◌≡◌, refl, sym, subst}
use mathlib.Core.Logic.{by_cases}
use mathlib.Core.Bool.{Bool, true, false, cond}
use mathlib.Core.List.{List}
use Prim.Native.Nat.{ℕ, ◌≤◌}
use native.Mathlib.Omega.{arith}
use native.Mathlib.Decide.{ℕ_discrete}
use borrow.Author.Tests.{leb-true, leb-false}
use lib.Dec.{leb}
use lib.ListN.{length}
use Rattle.refusals.specs.declared.Refusal.{Refusal}
use Rattle.refusals.specs.Numbers.{refusal_number}
use Rattle.refusals.proofs.Asking.{refused_number}
use Rattle.lines.specs.Fields.{longest}
use Rattle.statement.specs.Statement.{room_for}
use Rattle.file_lines.specs.State.{Lent, Valid}
use Rattle.month_file.specs.Run.{Place, Feeds}
use Rattle.month_file.specs.Run as run
use Rattle.file_calls.specs.Checking.{Decides, FileRoom, FileNumber, FedAny, FinishNumber, Answered, AnyPromised}
use Rattle.file_calls.specs.Checking as def
use Rattle.month_file.proofs.Run.{promised}

-- ---- what is answered

pub room : {a : Place} {n : ℕ} → FileNumber a n → (n ≡ 30 → ⊥) → FileRoom a
room (def.FileNumber.short h) e = absurd (e refl)
room (def.FileNumber.unknown r h) e = r
room (def.FileNumber.good r v) e = r

pub feed_good : {a : Place} {n : ℕ} → FileNumber a n → n ≡ 0 → (longest ≤ length a.line) × Valid a.file a.lists
feed_good (def.FileNumber.short h) e = absurd (omega arith)
feed_good (def.FileNumber.unknown r h) e = absurd (omega arith)
feed_good (def.FileNumber.good r v) e = (r.bytes, v)

pub finish_good : {a : Place} {text : List ℕ} {n : ℕ} → FinishNumber a text n → n ≡ 0
    → ((longest ≤ length a.line) × (room_for 512 ≤ length text)) × Valid a.file a.lists
finish_good (def.FinishNumber.narrow r h) e = absurd (omega arith)
finish_good (def.FinishNumber.wide w k) e = let g = feed_good k e in ((g.0, w (room k (λ t. omega (arith, e, t)))), g.1)

-- a question of room that is answered
pub room_refused : {a : Place} (b : Bool) → Decides (FileRoom a) b → (r : Refusal) → refusal_number r ≡ cond b 0 30 → FileNumber a (refusal_number r)
room_refused true d r e = absurd (refused_number r e)
room_refused false d r e = rw e (def.FileNumber.short (d.no refl))

pub room_asked : {a : Place} (b : Bool) → Decides (FileRoom a) b → cond {A = ℕ} b 0 30 ≡ 0 → FileRoom a
room_asked true d e = d.yes refl
room_asked false d e = absurd (omega arith)

pub finish_refused : {a : Place} {text : List ℕ} (b : Bool) → Decides (FileRoom a) b → (r : Refusal) → refusal_number r ≡ cond b 0 30
    → FinishNumber a text (refusal_number r)
finish_refused true d r e = absurd (refused_number r e)
finish_refused false d r e = def.FinishNumber.wide (λ p. absurd (d.no refl p)) (room_refused false d r e)

-- ... of the text
pub text_refused : {a : Place} {text : List ℕ} → FileRoom a → (m : ℕ) → m ≡ room_for 512 → (r : Refusal) → refusal_number r ≡ cond (leb m (length text)) 0 22
    → FinishNumber a text (refusal_number r)
text_refused {a} {text} p m q r e = by (leb m (length text)) refl e
  where
    by : (b : Bool) → leb m (length text) ≡ b → refusal_number r ≡ cond b 0 22 → FinishNumber a text (refusal_number r)
    by true t e = absurd (refused_number r e)
    by false t e = rw e (def.FinishNumber.narrow {text = text} p (omega (arith, leb-false m (length text) t, q)))

pub text_asked : (text : List ℕ) (m : ℕ) → m ≡ room_for 512 → cond {A = ℕ} (leb m (length text)) 0 22 ≡ 0 → room_for 512 ≤ length text
text_asked text m q e = by (leb m (length text)) refl e
  where
    by : (b : Bool) → leb m (length text) ≡ b → cond {A = ℕ} b 0 22 ≡ 0 → room_for 512 ≤ length text
    by true t e = omega (arith, leb-true m (length text) t, q)
    by false t e = absurd (omega arith)

-- ... of the state
pub valid_asked : {a : Place} → FileRoom a → (b : Bool) → Decides (Valid a.file a.lists) b → (n : ℕ) → n ≡ cond b 0 31 → FileNumber a n
valid_asked r true d n e = rw e (def.FileNumber.good r (d.yes refl))
valid_asked r false d n e = rw e (def.FileNumber.unknown r (d.no refl))

-- ---- a file from its first part on

-- state and lists fit together where the lists are long enough, so 31 is not answered
abbrev Known : Place → Type 0
Known a = Lent a.lists → Valid a.file a.lists

step : {a b : Place} {part : List ℕ} {n : ℕ} → FedAny a part n b → Known a → Known b
step {n = n} s h = by_cases (ℕ_discrete n 0) (λ z _. (s.taken z).valid) (λ ne. subst Known (sym (s.refused ne)) h)

places : {holds : ℕ → Type 0} {a b : Place} {parts : List (List ℕ)} → Known a → Answered holds a parts b → Known b
places h def.Answered.none = h
places h (def.Answered.more s z rest) = places (step s h) rest

known : {a : Place} {n : ℕ} → Known a → FileNumber a n → n ≡ 31 → ⊥
known v (def.FileNumber.short h) e = omega arith
known v (def.FileNumber.unknown r h) e = h (v r.lent)
known v (def.FileNumber.good r h) e = omega arith

known_end : {a : Place} {text : List ℕ} {n : ℕ} → Known a → FinishNumber a text n → n ≡ 31 → ⊥
known_end v (def.FinishNumber.narrow r h) e = omega arith
known_end v (def.FinishNumber.wide w k) e = known v k e

all_taken : {a b : Place} {parts : List (List ℕ)} → Answered (λ n. n ≡ 0) a parts b → Feeds a parts b
all_taken def.Answered.none = run.Feeds.none
all_taken (def.Answered.more s z rest) = run.Feeds.more (s.taken z) (all_taken rest)

pub any_promised : AnyPromised
any_promised =
    record {
      known = λ fresh feeds k e. known (places (λ lent. (fresh lent).valid) feeds) k e;
      known_end = λ fresh feeds k e. known_end (places (λ lent. (fresh lent).valid) feeds) k e;
      written = λ fresh feeds f z. promised.written fresh (all_taken feeds) (f.written z);
    }

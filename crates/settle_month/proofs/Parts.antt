-- Parts that are read and fed, one after another. Assumes nothing.
use mathlib.Core.Path.{◌≡◌, refl, sym, ap, ◌∙◌, subst}
use mathlib.Core.List.{List, [], ◌∷◌, ◌++◌, flatten}
use Prim.Native.Nat.{ℕ}
use mathlib.Core.Bool.{Bool, true, false, true≢false}
use Rattle.std.proofs.Common.{append_assoc, append-nil}
use Rattle.std.proofs.KnownBytes.{Consumes-nil, Consumes-trans, Consumes-whole}
use Rattle.std.specs.Io.KnownBytes.{Consumes}
use Rattle.std.specs.Prelude.{Some}
use Rattle.std.specs.declared.option.Option.{Option}
use Rattle.statement.specs.Writing.{Fills}
use Rattle.file_lines.specs.declared.MonthFile.{MonthFile}
use Rattle.month_file.specs.Bytes.{finished}
use Rattle.file_lines.specs.State.{Kept}
use Rattle.month_file.specs.Machine.{reading_of, Fresh, Fed}
use Rattle.month_file.specs.Run.{Place, place, Feeds, none, more}
use Rattle.month_file.proofs.Run as run
use Rattle.settle_month.specs.Input.{Taken, Settled, written}

-- one part more
feeds_more : {a b c : Place} {parts : List (List ℕ)} {part : List ℕ} → Feeds a parts b → Fed b.file b.lists b.line part c.file c.lists c.line
    → Feeds a (parts ++ (part ∷ [])) c
feeds_more none f = more f none
feeds_more (more g r) f = more g (feeds_more r f)

flatten_more : (parts : List (List ℕ)) (part : List ℕ) → flatten (parts ++ (part ∷ [])) ≡ flatten parts ++ part
unfolding flatten
flatten_more [] part = append-nil part
flatten_more (p ∷ parts) part = ap (λ (l : List ℕ). p ++ l) (flatten_more parts part) ∙ sym (append_assoc p (flatten parts) part)

-- what a read gave, fed
module _ {a b : Option (List ℕ)} {room : ℕ} {p q : Place} (t : Taken a b room false p q) where
  pub taken_more : {c : Option (List ℕ)} {bytes : List ℕ} {r : Place} → Consumes b c bytes → Fed q.file q.lists q.line bytes r.file r.lists r.line
      → Taken a c room false p r
  taken_more {c} {bytes} d f =
      record {
        parts = t.parts ++ (bytes ∷ []);
        fed = feeds_more t.fed f;
        given = subst (Consumes a c) (sym (flatten_more t.parts bytes)) (Consumes-trans a b c (flatten t.parts) bytes t.given d);
        ended = λ e. absurd (true≢false (sym e));
      }

-- before the first part
pub none_taken : {old : Option (List ℕ)} {room : ℕ} {p : Place} → Taken old old room false p p
unfolding flatten
none_taken {old} = record { parts = []; fed = none; given = Consumes-nil old; ended = λ e. absurd (true≢false (sym e)) }

-- parts taken from a fresh state to the end of the input: what `finish` writes is the text of their bytes
module _ {had left : Option (List ℕ)} {room : ℕ} {whole : Bool} {f₀ : MonthFile} {k₀ : Kept} {line₀ : List ℕ} {f : MonthFile} {k : Kept} {line : List ℕ} (s : Fresh f₀ k₀ line₀) (t : Taken had left room whole (place f₀ k₀ line₀) (place f k line)) where
  pub taken-written : whole ≡ true → {before : List ℕ} {n : ℕ} {after : List ℕ} → Fills (finished (reading_of f k line)) before n after
      → Settled had room before (Some n) after
  taken-written w {n = n} h =
      written n refl t.parts (λ r. Consumes-whole had left (flatten t.parts) (λ xs. flatten t.parts ≡ xs) t.given (t.ended w r) refl)
      ((run.promised).written s t.fed h)

-- `finishing::write_refusal` meets its contract. Assumes nothing.
use mathlib.Core.Path.{refl}
use mathlib.Core.List.{List, [], ◌∷◌, ◌++◌}
use Prim.Native.Nat.{ℕ}
use native.Mathlib.Omega.{arith}
use Rattle.statement.specs.Writing.{leading}
use Rattle.statement.proofs.Parts.{Left, left-room, left-more, left-fits, left-last, fills}
use Rattle.file_lines.specs.File.{refusal}
use Rattle.month_file.proofs.Ends.{refusal-left}
use Rattle.month_file.proofs.finishing.write_refusal.Goals as goal
use Rattle.month_file.proofs.finishing.write_refusal.Goals.{Start}

abbrev Rest : Start → ℕ → List ℕ → List ℕ → Type 0
Rest s at text rest = let a = s.args in Left (refusal a.line a.number) 0 a.text.now at text rest

at-start : (s : Start) → Rest s 0 s.args.text.now (leading 82 s.args.line s.args.number [] ++ (10 ∷ []))
at-start s = refusal-left s.args.line s.args.number _ (omega (arith, s.ranges.line)) (omega (arith, s.ranges.number)) s.requires

pub write_leading-end-requires : goal.write_leading-end-requires
write_leading-end-requires c = left-room (at-start (goal.at.write_leading-end-requires c).Start) _ _ refl

pub write_byte-requires : goal.write_byte-requires
write_byte-requires c = omega (arith, (left-fits (left-more (at-start (goal.at.write_byte-requires c).Start) _ _ refl c.write_leading-end.ensures) refl).fits)

pub returns : goal.returns
returns c = fills (left-last (left-more (at-start (goal.at.returns c).Start) _ _ refl c.write_leading-end.ensures) refl c.write_byte.ensures)

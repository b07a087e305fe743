-- `collecting::collect` meets its contract. Assumes nothing.
use native.Mathlib.Omega.{arith}
use Prim.Native.Nat.{ℕ, ◌+◌, ◌-◌, ◌≤◌}
use mathlib.Core.Path.{◌≡◌, ap, ap₂, ◌∙◌}
use mathlib.Core.List.{List, ◌++◌}
use lib.ListN.{length, take, drop, length-drop}
use lib.Seq.{take_all, length-take-le}
use Rattle.std.specs.Prelude.{unwrap_or}
use Rattle.std.proofs.lemmas.Grind.{common_steps}
use Rattle.std.proofs.lemmas.List.{length-take}
use Rattle.lists.proofs.Parts.{whole-written}
use Rattle.month_file.proofs.Collected.{collected}
use Rattle.month_file.proofs.collecting.collect.Goals as goal

-- a list written over one that is no longer
copied : (u : ℕ) (r old : List ℕ) {p : List ℕ} → p ≡ take u r ++ drop (length (take u r)) old → length old ≤ u → u ≤ length r → p ≡ take u r
copied u r old e h l = whole-written (length (take u r)) (take u r) old e (omega (arith, length-take-le u r l))

pub returns : goal.returns
returns c = let a = c.args in
    collected a.part.now a.from a.line.now a.at c.requires.0 c.requires.1 c.requires.2 (take_all _ _ (omega (arith, length-drop a.from a.part.now))) c.min-room.ensures
    (c.unwrap_or-taken.ensures ∙ ap (λ o. unwrap_or o c.min-room.result) c.line_end.ensures)
    (ap₂ (λ (xs : List ℕ) (n : ℕ). take a.at a.line.now ++ (xs ++ drop n (drop a.at a.line.now))) (copied _ _ _ c.copy_into.ensures (omega (arith, length-take (a.at + c.unwrap_or-taken.result - a.at) (drop a.at a.line.now))) (grind (arith, common_steps))) (omega arith))

use mathlib.Core.Path.{◌≡◌}
use mathlib.Core.List.{◌++◌}
use Prim.Native.Nat.{◌-◌, ◌*◌, ◌/◌}
use lib.ListN.{length, drop}
use Rattle.lists.proofs.Loops.{Adding, Filling}
use Rattle.sharing.specs.Sharing.{parts}
use Rattle.sharing.proofs.share_into.Given as goal

abbrev pub invariant-loop-i : goal.invariant-loop-i
invariant-loop-i l = (l.before ≡ l.t * l.c / l.weights.total) × Adding l.weights.figures.now (drop l.i l.weights.figures.now) l.c
    × Filling (length l.weights.figures.now) l.i l.initial.parts (parts l.t l.weights.total 0 l.weights.figures.now ++ drop (length l.weights.figures.now) l.initial.parts) l.parts (parts l.t l.weights.total l.c (drop l.i l.weights.figures.now))

abbrev pub decreases-loop-i : goal.decreases-loop-i
decreases-loop-i l = length l.weights.figures.now - l.i

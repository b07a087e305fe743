-- `rows::nets_into` meets its contract. Assumes nothing.
use mathlib.Core.Path.{refl, sym, ap, ◌∙◌}
use Prim.Native.Nat.{◌+◌}
use native.Mathlib.Omega.{arith}
use lib.ListN.{get_or}
use lib.IntN.{pos, sub_ℕ}
use Rattle.lists.specs.Columns.{◌⊕◌}
use Rattle.lists.proofs.Columns.{length-rowwise, at-⊕}
use Rattle.rows.proofs.Fours.{rowwise_written}
use Rattle.rows.proofs.nets_into.Goals as goal

pub returns : goal.returns
returns c =
    let b = c.args.covered.now in let r = c.args.rights.now in
    rowwise_written sub_ℕ (pos 0) refl c.args.metered.now (b ⊕ r) c.loop-i.nets (let e = length-rowwise ◌+◌ 0 0 b r in omega arith) (omega arith)
    (λ k h. c.loop-i.invariant k (omega arith) ∙ ap (sub_ℕ (get_or c.args.metered.now k 0)) (sym (at-⊕ b r k)))

-- `cover::own_of` meets its contract. Assumes nothing.
use mathlib.Core.Path.{sym, ◌∙◌}
use Prim.Native.Nat.{min}
use native.Mathlib.Omega.{arith}
use borrow.Author.Rules.{rules}
use lib.Seq.{ext_get_or}
use Rattle.lists.specs.Columns.{◌⊓◌}
use Rattle.lists.proofs.Columns.{length-rowwise, at-⊓}
use Rattle.cover.proofs.own_of.Goals as goal

pub returns : goal.returns
returns c =
    let e = c.from_fn.ensures.items in
    ext_get_or 0 c.from_fn.result (c.args.have ⊓ c.args.need)
    (e.long ∙ (let a = length-rowwise min 0 0 c.args.have c.args.need in omega (arith, c.well_formed.0.1.0.1, c.well_formed.1.0.1.0.1)))
    (λ i h. let k = e.at i 0 (omega (arith, e.long)) in search rules ∙ sym (at-⊓ c.args.have c.args.need i))

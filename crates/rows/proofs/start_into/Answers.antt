-- `rows::start_into` meets its contract. Assumes nothing.
use mathlib.Core.Path.{◌≡◌, sym, ◌∙◌}
use mathlib.Core.Bool.{false≢true}
use Prim.Native.Nat.{min}
use native.Mathlib.Omega.{arith}
use lib.ListN.{length}
use Rattle.lists.specs.Columns.{◌⊓◌}
use Rattle.lists.proofs.Columns.{at-⊓, length-rowwise}
use Rattle.lists.proofs.Questions.{limits, in_range_lem}
use Rattle.plants.specs.Plants.{submarkets_of}
use Rattle.plants.proofs.Submarkets.{length-submarkets, at-submarkets}
use Rattle.rows.proofs.Fours.{starting_more, starting_none, started}
use Rattle.rows.proofs.start_into.Goals as goal
use Rattle.rows.proofs.start_into.Goals.{Start, then-in_range, else-in_range}

rows : (c : Start) → length (c.args.metered.now ⊓ c.args.covered.now) ≡ length (submarkets_of c.args.plants.now)
rows c = length-rowwise min 0 0 c.args.metered.now c.args.covered.now ∙ (let e = length-submarkets c.args.plants.now in omega arith)

pub loop-i-preserved : goal.loop-i-preserved
loop-i-preserved c =
    let plants = c.args.plants.now in let i = c.loop-i.i in
    let n = length-submarkets plants in
    let t = sym (at-submarkets plants i) in
    let turn = rows (goal.at.loop-i-preserved c).Start in
    elim c.if-in_range.branch [
      | then-in_range w ↦
          let p = limits _ _ _ (sym c.in_range.ensures ∙ w.if-in_range.true) in
          rw w.allotment-is
          (starting_more (submarkets_of plants) (c.args.metered.now ⊓ c.args.covered.now) turn c.loop-i.invariant (omega arith) (omega arith)
          p.0 p.1 t (w.min.ensures ∙ sym (at-⊓ c.args.metered.now c.args.covered.now i)))
      | else-in_range w ↦
          rw w.allotment-is
          (starting_none (submarkets_of plants) (c.args.metered.now ⊓ c.args.covered.now) turn c.loop-i.invariant (omega arith) (omega arith)
          (λ q. false≢true (sym w.if-in_range.false ∙ c.in_range.ensures ∙ in_range_lem _ _ _ (omega arith) (omega arith))))
    ]

pub returns : goal.returns
returns c =
    let n = length-submarkets c.args.plants.now in
    started (submarkets_of c.args.plants.now) (c.args.metered.now ⊓ c.args.covered.now) (rows (goal.at.returns c).Start) c.loop-i.invariant (omega arith) (omega arith)

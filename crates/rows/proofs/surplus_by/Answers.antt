-- `rows::surplus_by` meets its contract. Assumes nothing.
use mathlib.Core.Path.{◌≡◌, sym, ap, ◌∙◌}
use Prim.Native.Nat.{ℕ, ◌-◌, ◌+◌}
use native.Mathlib.Omega.{arith}
use lib.ListN.{length, get_or}
use Rattle.lists.specs.Columns.{◌⊖◌}
use Rattle.lists.proofs.Columns.{at-⊖, length-rowwise}
use Rattle.plants.specs.Plants.{none, submarkets_of}
use Rattle.plants.proofs.Submarkets.{length-submarkets, at-submarkets}
use Rattle.rows.proofs.Submarkets.{totalling_more, totalled, totalling_le, over_le, placed}
use Rattle.rows.proofs.surplus_by.Goals as goal
use Rattle.rows.proofs.surplus_by.Goals.{Start}

rows : (c : Start) → length (c.args.metered.now ⊖ c.args.covered.now) ≡ length (submarkets_of c.args.plants.now)
rows c = length-rowwise ◌-◌ 0 0 c.args.metered.now c.args.covered.now ∙ (let e = length-submarkets c.args.plants.now in omega arith)

pub overflow_add-surplus : goal.overflow_add-surplus
overflow_add-surplus c =
    let plants = c.args.plants.now in let i = c.loop-i.i in let g = c.args.metered.now in let b = c.args.covered.now in
    let p = placed plants c.requires.standing i c.loop-i-test.true in
    let n = length-submarkets plants in
    let a = totalling_le c.loop-i.invariant (omega arith) (rows (goal.at.overflow_add-surplus c).Start) (sym (at-submarkets plants i)) p.0 p.1 in
    let d = over_le (get_or plants i none).submarket (submarkets_of plants) g b in
    let e = at-⊖ g b i in
    omega arith

pub loop-i-preserved : goal.loop-i-preserved
loop-i-preserved c =
    let plants = c.args.plants.now in let i = c.loop-i.i in
    let p = placed plants c.requires.standing i c.loop-i-test.true in
    let n = length-submarkets plants in
    totalling_more c.loop-i.invariant (omega arith) (rows (goal.at.loop-i-preserved c).Start) (sym (at-submarkets plants i)) p.0 p.1
    (ap (λ (x : ℕ). get_or c.loop-i.surplus ((get_or plants i none).submarket - 1) 0 + x) (c.saturating_sub.ensures ∙ sym (at-⊖ c.args.metered.now c.args.covered.now i)))

pub returns : goal.returns
returns c = totalled c.loop-i.invariant (let n = length-submarkets c.args.plants.now in omega arith) (rows (goal.at.returns c).Start)

-- `blocks::Blocks::new` meets its contract: each block's rows are counted behind those of the one before. Assumes nothing.
use mathlib.Core.Path.{sym, ◌∙◌}
use mathlib.Core.List.{[], ◌∷◌}
use native.Mathlib.Omega.{arith}
use Rattle.blocks.specs.Blocks.{block_starts}
use Rattle.blocks.proofs.Starts.{leading-taken, leading-behind}
use Rattle.blocks.proofs.Blocks.new.Goals as goal

pub returns : goal.returns
unfolding block_starts
returns c =
    let plants = c.args.plants.now in
    let one = c.leading-b.ensures ∙ sym (leading-taken 1 plants) in
    let two = leading-behind plants 1 2 (omega arith) one c.leading.ensures in
    let three = leading-behind plants 2 3 (omega arith) two c.leading-2.ensures in
    let all = leading-behind plants 3 4 (omega arith) three c.leading-3.ensures in
    λ i. 0 ∷ one i ∷ two i ∷ three i ∷ all i ∷ []

-- `blocks::share_block` meets its contract: nothing is shared, or the parts are handed over. Assumes nothing.
use mathlib.Core.Path.{◌≡◌, sym}
use mathlib.Core.List.{List}
use Prim.Native.Nat.{ℕ, ◌-◌}
use native.Mathlib.Nat.{sub-zero}
use native.Mathlib.Omega.{arith}
use lib.ListN.{length, take}
use Rattle.lists.proofs.Columns.{rowwise-nothing}
use Rattle.sharing.specs.Sharing.{share}
use Rattle.blocks.proofs.Handed.{no_rise, raise_nothing}
use Rattle.blocks.proofs.Shares.{zero_parts, parts-length, parts_below, front_parts}
use Rattle.blocks.proofs.share_block.Goals as goal
use Rattle.blocks.proofs.share_block.Goals.{Start}

abbrev parts : Start → List ℕ
parts c = share c.args.amount (take c.args.n c.args.want.now)

sized : (c : Start) → length (parts c) ≡ c.args.n
sized c = parts-length c.args.n c.args.want.now c.requires.n_in_bounds.0 c.args.amount

pub returns-then-amount-eq0 : goal.returns-then-amount-eq0
returns-then-amount-eq0 c =
    let d = (goal.at.returns-then-amount-eq0 c).Start in
    let z = zero_parts c.args.n c.args.want.now c.requires.n_in_bounds.0 c.args.amount c.if-amount-eq0.true in
    record {
      want_after = sym (rowwise-nothing ◌-◌ sub-zero c.args.want.now (parts d) (let a = sized d in omega arith) z);
      raised = raise_nothing (λ i j. no_rise c.args.column (parts d) i j (z i));
    }

pub hand_over-requires-clause-below : goal.hand_over-requires-clause-below
hand_over-requires-clause-below c =
    let d = (goal.at.hand_over-requires-clause-below c).Start in
    rw (front_parts c.args.n c.args.want.now c.requires.n_in_bounds.0 c.args.amount _ (omega arith) c.share_up_to.ensures)
    (parts_below c.args.n c.args.want.now c.requires.n_in_bounds.0 c.args.amount (omega arith), c.requires.total_value.3)

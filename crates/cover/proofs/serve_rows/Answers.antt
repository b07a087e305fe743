-- `cover::serve_rows` meets its contract: a turn serves the rows from one giver. Assumes nothing.
use mathlib.Core.Path.{◌≡◌, sym, ap, ◌∙◌}
use mathlib.Core.List.{List, []}
use Prim.Native.Nat.{ℕ, ◌-◌, ◌≤◌}
use native.Mathlib.Omega.{arith}
use lib.ListN.{length, get_or}
use Rattle.lists.proofs.Columns.{length-rowwise}
use Rattle.sharing.specs.Sharing.{share}
use Rattle.sharing.proofs.Sharing.{share-lawful}
use Rattle.blocks.specs.Portion.{portion}
use Rattle.blocks.specs.Blocks.{standing_at}
use Rattle.blocks.proofs.Slices.{rising, portion-length, standing-le}
use Rattle.cover.proofs.Serving.{giving_more, row_fits}
use Rattle.cover.proofs.serve_rows.Goals as goal
use Rattle.cover.proofs.serve_rows.Goals.{Start}

-- four rows
rows : (c : Start) → length c.args.table ≡ 4
rows c = c.well_formed.1.0.1.0.1

pub share-requires-clause-sums_value : goal.share-requires-clause-sums_value
share-requires-clause-sums_value c =
    let k = c.loop-g.invariant.1 in let less = k.less in
    (k.still, omega arith, row_fits k c.loop-g-test.true (rows (goal.at.share-requires-clause-sums_value c).Start))

pub less-fallen-requires : goal.less-fallen-requires
less-fallen-requires c = row_fits c.loop-g.invariant.1 c.loop-g-test.true (rows (goal.at.less-fallen-requires c).Start)

pub loop-g-preserved : goal.loop-g-preserved
loop-g-preserved c = let l = c.loop-g in
    let k = l.invariant.1 in
    let row : List ℕ = get_or c.args.table l.g [] in
    let short : length row ≤ 4 =
    let a = length-rowwise ◌-◌ 0 0 l.still row in let d = ap length c.less-fallen.ensures in let e = c.less-fallen.type_inv.1.0.1 in omega arith in
    let sized : length (portion share (standing_at c.args.blocks.starts) row l.want) ≡ length l.want =
    portion-length c.args.blocks.starts _ (rising c.args.blocks _ c.requires.want_len.0) share-lawful row l.want k.same ∙ sym k.same in (
      c.share.auto.part ∙ l.invariant.0,
      giving_more k c.loop-g-test.true (rows (goal.at.loop-g-preserved c).Start) short (standing-le c.args.blocks.starts (length c.args.want.now) (rising c.args.blocks _ c.requires.want_len.0)) sized
          c.share.ensures.want_after c.share.ensures.raised c.less-fallen.ensures,
    )

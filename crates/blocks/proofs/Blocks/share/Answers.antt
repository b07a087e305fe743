-- `blocks::Blocks::share` meets its contract: a turn shares one block. Assumes nothing.
use mathlib.Core.Path.{◌≡◌, refl, sym, ap, ◌∙◌, subst}
use mathlib.Core.List.{List}
use Prim.Native.Nat.{ℕ, ◌+◌, ◌-◌, ◌*◌}
use native.Mathlib.Omega.{arith}
use lib.ListN.{length, take, drop, get_or}
use Rattle.lists.specs.Lists.{sum}
use Rattle.lists.specs.Columns.{◌⊖◌, Below}
use Rattle.lists.proofs.Sums.{part-le-sum}
use Rattle.sharing.specs.Sharing.{share}
use Rattle.sharing.proofs.Sharing.{share-lawful}
use Rattle.blocks.specs.Portion.{portion}
use Rattle.blocks.specs.Blocks.{standing_at, Raised, in_column}
use Rattle.blocks.proofs.Slices.{Rising, rising, block, end_below, portion-length, total_block, portion_block}
use Rattle.blocks.proofs.Shares.{blocked, blocked_more, blocked_done, blocked_raised, lent_block, lent-room, tail_length}
use Rattle.blocks.proofs.Blocks.share.Goals as goal
use Rattle.blocks.proofs.Blocks.share.Goals.{Start}

up : (c : Start) → Rising c.args.self.starts (length c.args.want.now)
up c = rising c.args.self _ c.requires.want_len.0

-- the parts have the rows' number
sized : (c : Start) → let w = c.args.want.now in length (portion share (standing_at c.args.self.starts) c.args.amounts w) ≡ length w
sized c = portion-length c.args.self.starts _ (up c) share-lawful c.args.amounts c.args.want.now refl

pub loop-s-init : goal.loop-s-init
loop-s-init c = let d = (goal.at.loop-s-init c).Start in (refl, blocked (up d) (sized d) c.requires.want_len.2)

pub share_block-requires-clause-total_value : goal.share_block-requires-clause-total_value
share_block-requires-clause-total_value c =
    let d = (goal.at.share_block-requires-clause-total_value c).Start in
    let l = c.loop-s in
    let b = part-le-sum c.args.want.now (get_or c.args.self.starts l.s 0) (get_or c.args.self.starts (l.s + 1) 0 - get_or c.args.self.starts l.s 0) in
    let at : get_or c.args.sums l.s 0 ≡ sum (block c.args.self.starts c.args.want.now l.s) =
    ap (λ (x : List ℕ). get_or x l.s 0) c.requires.sums_value.0
    ∙ total_block c.args.self.starts (length c.args.want.now) (up d) c.args.want.now refl l.s c.loop-s-test.true in (
      at ∙ ap sum (sym (lent_block (up d) (sized d) c.requires.want_len.2 l.invariant.1 c.loop-s-test.true)),
      omega arith,
      c.requires.sums_value.2 l.s,
      lent-room (up d) (sized d) c.requires.want_len.2 l.invariant.1 c.requires.within.1,
    )

pub loop-s-preserved : goal.loop-s-preserved
loop-s-preserved c =
    let l = c.loop-s in
    let starts = c.args.self.starts in
    let want = c.args.want.now in
    let d = (goal.at.loop-s-preserved c).Start in
    let a = get_or starts l.s 0 in
    let m = get_or starts (l.s + 1) 0 - a in
    let w = take (length l.want - a) (drop a l.want) in
    let inside = end_below starts (length want) (up d) l.s c.loop-s-test.true in
    let rise = (up d).next l.s c.loop-s-test.true in
    let parts : share (get_or c.args.amounts l.s 0) (take m w) ≡ block starts (portion share (standing_at starts) c.args.amounts want) l.s =
    ap (share (get_or c.args.amounts l.s 0)) (lent_block (up d) (sized d) c.requires.want_len.2 l.invariant.1 c.loop-s-test.true)
    ∙ sym (portion_block starts (length want) (up d) want refl share-lawful c.args.amounts
    (subst (Below c.args.amounts) c.requires.sums_value.0 c.requires.sums_value.2) l.s c.loop-s-test.true) in (
      tail_length l.part c.share_block.new.part a (omega arith) c.share_block.auto.part ∙ l.invariant.0,
      blocked_more (up d) (sized d) c.requires.want_len.2 l.invariant.1 c.loop-s-test.true c.share_block.new.want c.share_block.new.figures
          (c.share_block.ensures.want_after ∙ ap (λ (x : List ℕ). w ⊖ x) parts)
          (subst (λ (x : List ℕ). Raised (in_column (get_or c.args.columns l.s 0) x) (take (length l.figures - 4 * a) (drop (4 * a) l.figures)) c.share_block.new.figures) parts
          c.share_block.ensures.raised),
    )

pub returns : goal.returns
returns c =
    let d = (goal.at.returns c).Start in
    record {
      want_after = blocked_done (up d) (sized d) c.requires.want_len.2 c.loop-s.invariant.1 c.loop-s-test.false;
      raised = blocked_raised (up d) (sized d) c.requires.want_len.2 c.loop-s.invariant.1 c.loop-s-test.false;
    }

-- `cover::meet` meets its contract: each call is what the definitions say. Assumes nothing.
use mathlib.Core.Path.{◌≡◌, sym, ap, ap₂, ◌∙◌, subst, subst₂}
use mathlib.Core.List.{List, [], ◌∷◌}
use Prim.Native.Nat.{ℕ, ◌-◌, ◌≤◌}
use native.Mathlib.Omega.{arith}
use lib.ListN.{length}
use Rattle.lists.specs.Lists.{sum, most}
use Rattle.lists.specs.Columns.{◌⊖◌, ◌⊓◌, Below, four, totals}
use Rattle.lists.proofs.Columns.{min-left, min_right, fewer}
use Rattle.sharing.specs.Sharing.{share}
use Rattle.transfer.specs.Transfer.{serve, transfer}
use Rattle.transfer.specs.Laws.{row_sum}
use Rattle.sharing.proofs.Sharing.{share-lawful}
use Rattle.blocks.specs.Portion.{portion}
use Rattle.cover.specs.Cover.{own, own_parts, table, got}
use Rattle.blocks.specs.Blocks.{standing_at, Raised, in_columns, Room}
use Rattle.blocks.proofs.Slices.{Rising, rising}
use Rattle.cover.specs.Givers.{got_by, SentWithin}
use Rattle.cover.proofs.Cover.{transfer-asked}
use Rattle.cover.proofs.Serving.{four-within}
use Rattle.cover.proofs.Meeting.{room-first, sited, still_is, still_room, sent-within, rows-below, rest_is, meets}
use Rattle.cover.proofs.meet.Goals as goal
use Rattle.cover.proofs.meet.Goals.{Start}

-- what the definitions speak of
module _ (c : Start) where
  abbrev subs : List ℕ
  subs = standing_at c.args.blocks.starts

  abbrev have : List ℕ
  have = c.args.have

  abbrev want : List ℕ
  want = c.args.want.now

  abbrev own' : List ℕ
  own' = own share subs have want

  abbrev up : Rising c.args.blocks.starts (length want)
  up = rising c.args.blocks (length want) c.requires.want_len.0

  four-have : length have ≡ 4
  four-have = c.well_formed.1.0.1.0.1

  small : sum want ≤ most
  small = omega arith

  room : Room want c.args.figures.now
  room = room-first want c.args.figures.now c.requires.have_bound.2 small

-- own cover, as the calls answer it
module _ (c : Start) (sums o : List ℕ) (sums_e : sums ≡ totals (subs c) (want c)) (o_e : o ≡ have c ⊓ sums) where
  own_is : o ≡ own' c
  unfolding own
  own_is = o_e ∙ ap (λ l. have c ⊓ l) sums_e

  parts_are : portion share (subs c) o (want c) ≡ own_parts share (subs c) (have c) (want c)
  unfolding own_parts
  parts_are = ap (λ a. portion share (subs c) a (want c)) own_is

  -- what is left, what is still open, and the table
  left_is : (left : List ℕ) → left ≡ have c ⊖ o → left ≡ have c ⊖ own' c
  left_is left e = e ∙ ap (λ l. have c ⊖ l) own_is

  open_is : (still : List ℕ) → still ≡ sums ⊖ o → still ≡ totals (subs c) (want c) ⊖ own' c
  open_is still e = e ∙ ap₂ (λ l m. l ⊖ m) sums_e own_is

  left_small : (left : List ℕ) → left ≡ have c ⊖ o → sum left ≤ sum (have c)
  left_small left e = let a = ap sum (left_is left e) in let b = fewer (have c) (own' c) in omega arith

  table_is : (left still : List ℕ) (rows : List (List ℕ)) → left ≡ have c ⊖ o → still ≡ sums ⊖ o → rows ≡ transfer share left still
      → rows ≡ table share (subs c) (have c) (want c)
  unfolding table
  table_is left still rows l s r = r ∙ ap₂ (transfer share) (left_is left l) (open_is still s)

  -- the own cover has been shared over the rows
  module _ (want' figures' : List ℕ) (w : want' ≡ want c ⊖ portion share (subs c) o (want c))
      (r : Raised (in_columns (0 ∷ 1 ∷ 2 ∷ 3 ∷ []) (subs c) (portion share (subs c) o (want c))) c.args.figures.now figures') where
    still_want : want' ≡ want c ⊖ own_parts share (subs c) (have c) (want c)
    still_want = w ∙ ap (λ p. want c ⊖ p) parts_are

    own_raised : Raised (in_columns (0 ∷ 1 ∷ 2 ∷ 3 ∷ []) (subs c) (own_parts share (subs c) (have c) (want c))) c.args.figures.now figures'
    own_raised = subst (λ p. Raised (in_columns (0 ∷ 1 ∷ 2 ∷ 3 ∷ []) (subs c) p) c.args.figures.now figures') parts_are r

pub share-requires-clause-sums_value : goal.share-requires-clause-sums_value
share-requires-clause-sums_value c =
    let o = c.own_of-own.ensures in (
      c.sums-need.ensures,
      (let a = small (goal.at.share-requires-clause-sums_value c).Start in omega arith),
      subst (λ l. Below l c.sums-need.result) (sym o) (min_right _ c.sums-need.result),
    )

pub share-requires-clause-within : goal.share-requires-clause-within
share-requires-clause-within c = (four-within (omega arith) (omega arith) (omega arith) (omega arith), room (goal.at.share-requires-clause-within c).Start)

pub less-left-requires : goal.less-left-requires
less-left-requires c = subst (λ l. Below l c.args.have) (sym c.own_of-own.ensures) (min-left c.args.have c.sums-need.result)

pub less-still-requires : goal.less-still-requires
less-still-requires c = subst (λ l. Below l c.sums-need.result) (sym c.own_of-own.ensures) (min_right _ c.sums-need.result)

pub transfer_step-rows-requires : goal.transfer_step-rows-requires
transfer_step-rows-requires c =
    let d = (goal.at.transfer_step-rows-requires c).Start in
    let s = c.sums-need.ensures in let o = c.own_of-own.ensures in
    let small = c.requires.have_bound.0 in
    let t = transfer-asked share-lawful (subs d) (have d) (want d) (four-have d) (sited d.args.blocks.starts (have d) (want d) (up d)) c.requires.have_bound.1 small in (
      (let a = left_small d _ _ s o _ c.less-left.ensures in omega arith),
      (let a = ap sum (left_is d _ _ s o _ c.less-left.ensures) in let b = ap sum (open_is d _ _ s o _ c.less-still.ensures) in let e = t.enough in omega arith),
    )

pub serve_rows-requires-clause-need_value : goal.serve_rows-requires-clause-need_value
serve_rows-requires-clause-need_value c =
    let d = (goal.at.serve_rows-requires-clause-need_value c).Start in
    let s = c.sums-need.ensures in let o = c.own_of-own.ensures in
    let w = still_want d _ _ s o _ _ c.share.ensures.want_after c.share.ensures.raised in
    let own_up = own_raised d _ _ s o _ _ c.share.ensures.want_after c.share.ensures.raised in
    let open_e = open_is d _ _ s o _ c.less-still.ensures in
    let table_e = table_is d _ _ s o _ _ _ c.less-left.ensures c.less-still.ensures c.transfer_step-rows.ensures in
    let short : length (own' d) ≤ 4 = let a = ap length (own_is d _ _ s o) in omega arith in (
      open_e ∙ still_is d.args.blocks.starts (have d) (want d) (up d) short ∙ ap (totals (subs d)) (sym w),
      (let a = ap sum w in let e = fewer (want d) (own_parts share (subs d) (have d) (want d)) in let g = small d in omega arith),
      subst₂ SentWithin (sym table_e) (sym open_e) (sent-within d.args.blocks.starts (have d) (want d) (up d) (four-have d) c.requires.have_bound.1),
      subst (λ x. Room x c.share.new.figures) (sym w) (still_room d.args.blocks.starts (have d) (want d) (up d) (room d) own_up),
    )

pub rest_of-rest-requires : goal.rest_of-rest-requires
rest_of-rest-requires c =
    let d = (goal.at.rest_of-rest-requires c).Start in
    let s = c.sums-need.ensures in let o = c.own_of-own.ensures in (
      subst₂ (λ x y. Below (four (λ s. row_sum x (s - 1))) y)
          (sym (table_is d _ _ s o _ _ _ c.less-left.ensures c.less-still.ensures c.transfer_step-rows.ensures)) (sym (left_is d _ _ s o _ c.less-left.ensures))
          (rows-below d.args.blocks.starts (have d) (want d) (up d) (four-have d) c.requires.have_bound.1),
      (let a = left_small d _ _ s o _ c.less-left.ensures in omega arith),
    )

pub returns : goal.returns
unfolding got
returns c =
    let d = (goal.at.returns c).Start in
    let s = c.sums-need.ensures in let o = c.own_of-own.ensures in
    let table_e = table_is d _ _ s o _ _ _ c.less-left.ensures c.less-still.ensures c.transfer_step-rows.ensures in
    let w = still_want d _ _ s o _ _ c.share.ensures.want_after c.share.ensures.raised in
    let own_up = own_raised d _ _ s o _ _ c.share.ensures.want_after c.share.ensures.raised in
    record {
      rows_value = table_e;
      rest_value = c.rest_of-rest.ensures ∙ ap₂ (λ x y. x ⊖ four (λ s. row_sum y (s - 1))) (left_is d _ _ s o _ c.less-left.ensures) table_e
          ∙ rest_is d.args.blocks.starts (have d) (want d) (up d) (four-have d) c.requires.have_bound.1;
      figures_after = meets d.args.blocks.starts (have d) (want d) (up d) c.requires.want_len.2 own_up
          (subst₂ (λ x y. Raised (got_by (serve (portion share (subs d)) x y)) c.share.new.figures c.serve_rows.new.figures) w table_e c.serve_rows.ensures);
    }

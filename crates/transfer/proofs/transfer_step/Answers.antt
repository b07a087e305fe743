-- `transfer::transfer_step` meets its contract: each need is shared over what those before it left. Assumes nothing.
use mathlib.Core.Path.{◌≡◌, sym, ap, ap₂, ◌∙◌, subst, subst₂}
use mathlib.Core.List.{List, [], ◌∷◌}
use Prim.Native.Nat.{ℕ}
use native.Mathlib.Omega.{arith}
use Rattle.lists.specs.Columns.{◌⊖◌, transpose, Below}
use Rattle.lists.proofs.Columns.{◌!◌}
use Rattle.sharing.specs.Sharing.{share}
use Rattle.sharing.proofs.Sharing.{share-lawful}
use Rattle.transfer.proofs.Served.{Enough, enough, after1, after2, after3, four_needs, turned}
use Rattle.transfer.proofs.transfer_step.Goals as goal
use Rattle.transfer.proofs.transfer_step.Goals.{After-less-left, After-less-left-2, After-less-left-3, After-share_four-b, After-share_four-c, After-share_four-d, Start}

-- what is left, and what each need took, as the definition has them
module _ (c : Start) where
  abbrev left : List ℕ
  left = c.args.left

  abbrev need : List ℕ
  need = c.args.need

  known : Enough share-lawful left need
  known = enough share-lawful left need c.well_formed.1.0.1.0.1 c.requires.1

left1 : (c : After-less-left) → c.less-left.result ≡ after1 share-lawful (left c.before.before) (need c.before.before)
left1 c = c.less-left.ensures ∙ ap (λ x. left c.before.before ⊖ x) c.share_four-a.ensures

part2 : (c : After-share_four-b) → c.share_four-b.result ≡ share (need c.before.before.before ! 1) (after1 share-lawful (left c.before.before.before) (need c.before.before.before))
part2 c = c.share_four-b.ensures ∙ ap (share _) (left1 c.before)

left2 : (c : After-less-left-2) → c.less-left-2.result ≡ after2 share-lawful (left c.before.before.before.before) (need c.before.before.before.before)
left2 c = c.less-left-2.ensures ∙ ap₂ (λ x y. x ⊖ y) (left1 c.before.before) (part2 c.before)

part3 : (c : After-share_four-c) → c.share_four-c.result ≡ share (need c.before.before.before.before.before ! 2) (after2 share-lawful (left c.before.before.before.before.before) (need c.before.before.before.before.before))
part3 c = c.share_four-c.ensures ∙ ap (share _) (left2 c.before)

left3 : (c : After-less-left-3) → c.less-left-3.result ≡ after3 share-lawful (left c.before.before.before.before.before.before) (need c.before.before.before.before.before.before)
left3 c = c.less-left-3.ensures ∙ ap₂ (λ x y. x ⊖ y) (left2 c.before.before) (part3 c.before)

part4 : (c : After-share_four-d) → c.share_four-d.result ≡ share (need c.before.before.before.before.before.before.before ! 3) (after3 share-lawful (left c.before.before.before.before.before.before.before) (need c.before.before.before.before.before.before.before))
part4 c = c.share_four-d.ensures ∙ ap (share _) (left3 c.before)

pub less-left-requires : goal.less-left-requires
less-left-requires c = subst (λ x. Below x (left (goal.at.less-left-requires c).Start)) (sym c.share_four-a.ensures) (share-lawful.bounded (need (goal.at.less-left-requires c).Start ! 0) (left (goal.at.less-left-requires c).Start) (known (goal.at.less-left-requires c).Start).first)

pub share_four-b-requires : goal.share_four-b-requires
share_four-b-requires c = rw (left1 c) (omega (arith, known (goal.at.share_four-b-requires c).Start, c.requires))

pub less-left-requires-2 : goal.less-left-requires-2
less-left-requires-2 c = subst₂ Below (sym (part2 c)) (sym (left1 (goal.at.less-left-requires-2 c).After-less-left)) (share-lawful.bounded (need (goal.at.less-left-requires-2 c).Start ! 1) (after1 share-lawful (left (goal.at.less-left-requires-2 c).Start) (need (goal.at.less-left-requires-2 c).Start)) (known (goal.at.less-left-requires-2 c).Start).second)

pub share_four-c-requires : goal.share_four-c-requires
share_four-c-requires c = rw (left2 c) (omega (arith, known (goal.at.share_four-c-requires c).Start, c.requires))

pub less-left-requires-3 : goal.less-left-requires-3
less-left-requires-3 c = subst₂ Below (sym (part3 c)) (sym (left2 (goal.at.less-left-requires-3 c).After-less-left-2)) (share-lawful.bounded (need (goal.at.less-left-requires-3 c).Start ! 2) (after2 share-lawful (left (goal.at.less-left-requires-3 c).Start) (need (goal.at.less-left-requires-3 c).Start)) (known (goal.at.less-left-requires-3 c).Start).third)

pub share_four-d-requires : goal.share_four-d-requires
share_four-d-requires c = rw (left3 c) (omega (arith, known (goal.at.share_four-d-requires c).Start, c.requires))

pub returns : goal.returns
returns c = let k = c.share_four-d.type_inv in turned c.share_four-a.result c.share_four-b.result c.share_four-c.result c.share_four-d.result c.share_four-a.type_inv.1.0.1 c.share_four-b.type_inv.1.0.1 c.share_four-c.type_inv.1.0.1 k.1.0.1 ∙ (λ i. transpose 0 (c.share_four-a.ensures i ∷ part2 (goal.at.returns c).After-share_four-b i ∷ part3 (goal.at.returns c).After-share_four-c i ∷ part4 c i ∷ [])) ∙ four_needs share-lawful (left (goal.at.returns c).Start) (need (goal.at.returns c).Start) c.well_formed.1.0.1.0.1

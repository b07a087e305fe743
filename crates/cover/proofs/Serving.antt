-- Step 6: givers in order, each sharing what it sent over the needs that are still open. Assumes nothing.
use mathlib.Core.Path.{◌≡◌, refl, sym, ap, ◌∙◌, subst}
use mathlib.Core.Logic.{by_cases}
use mathlib.Core.List.{List, [], ◌∷◌}
use Prim.Native.Nat.{ℕ, ◌+◌, ◌-◌, ◌≤◌, ◌<◌}
use native.Mathlib.Omega.{arith}
use native.Mathlib.Decide.{ℕ_discrete}
use lib.Dec.{eqb}
use lib.ListN.{length, get_or, take, drop}
use lib.Seq.{drop-drop, get_or-take}
use borrow.Author.Tests.{eq-eqb, ne_eqb}
use Rattle.lists.specs.Lists.{sum, Within}
use Rattle.lists.specs.Columns.{◌⊖◌, Below, totals}
use Rattle.lists.proofs.Loops.{drop_more, at_drop}
use Rattle.lists.proofs.Columns.{◌!◌, at-⊖, sum-⊖, four-le, cond-le, length-rowwise}
use Rattle.lists.proofs.Sums.{get_or-table}
use Rattle.lists.proofs.Parts.{past_take}
use Rattle.sharing.specs.Sharing.{Rule, share}
use Rattle.transfer.specs.Transfer.{serve}
use Rattle.sharing.specs.Laws.{Lawful}
use Rattle.sharing.proofs.Sharing.{share-lawful}
use Rattle.blocks.specs.Portion.{portion}
use Rattle.blocks.specs.Blocks.{Raised, in_column, in_columns, Room}
use Rattle.cover.specs.Givers.{got_by, SentWithin}
use Rattle.blocks.proofs.Portion.{portion_under, totals_fall}
use Rattle.cover.proofs.Cover.{sent-first, sent_then}
use Rattle.blocks.proofs.Handed.{next-there}

-- what a giver sent is shared over the needs that are still open: there is room for the next
pub room-kept : {rule : Rule} (L : Lawful rule) (subs amounts want : List ℕ) → Below amounts (totals subs want) → (columns : List ℕ) {figures after : List ℕ}
    → Room want figures → Raised (in_columns columns subs (portion rule subs amounts want)) figures after → Room (want ⊖ portion rule subs amounts want) after
room-kept {rule} L subs amounts want fits columns room r = record {
  at = λ i j h.
      let p = portion rule subs amounts want in
      let a = r.by i j h in let b = room.at i j h in let c = at-⊖ want p i in let d = portion_under L subs amounts want fits i in
      let f = cond-le (eqb j (columns ! (subs ! i - 1))) (p ! i) in omega arith;
}

-- ---- one giver after the other
pub record Giving (subs : List ℕ) (table got : List (List ℕ)) (want₀ figures₀ want figures sums : List ℕ) (g : ℕ) : Type 0 where
  pub turns : g ≤ 4
  pub same : length want ≡ length want₀
  pub less : sum want ≤ sum want₀
  pub left : serve (portion share subs) want (drop g table) ≡ drop g got
  pub rises : Raised (got_by (take g got)) figures₀ figures
  pub still : sums ≡ totals subs want
  pub sent : SentWithin (drop g table) sums
  pub room : Room want figures

serve-cons : (subs want row : List ℕ) (rows : List (List ℕ))
    → serve (portion share subs) want (row ∷ rows) ≡ portion share subs row want ∷ serve (portion share subs) (want ⊖ portion share subs row want) rows
unfolding serve
serve-cons subs want row rows = refl

pub four-within : {a b c d : ℕ} → a < 4 → b < 4 → c < 4 → d < 4 → Within (a ∷ b ∷ c ∷ d ∷ []) 3
four-within p q r s = record { at = four-le (λ _. 3) (omega arith) (omega arith) (omega arith) (omega arith) }

module _ {subs : List ℕ} {table got : List (List ℕ)} {want₀ figures₀ want figures sums : List ℕ} {g : ℕ}
    (k : Giving subs table got want₀ figures₀ want figures sums g) (h : g < 4) (rows : length table ≡ 4) where
  abbrev row : List ℕ
  row = get_or table g []

  abbrev parts : List ℕ
  parts = portion share subs row want

  turn : drop g table ≡ row ∷ drop (g + 1) table
  turn = drop_more table g [] (omega arith)

  sent : SentWithin (row ∷ drop (g + 1) table) sums
  sent = subst (λ l. SentWithin l sums) turn k.sent

  pub row_fits : Below row sums
  row_fits = sent-first row (drop (g + 1) table) sums sent

  fits : Below row (totals subs want)
  fits = subst (Below row) k.still row_fits

  -- what the rows get from this giver, and what is left to the others
  next : parts ∷ serve (portion share subs) (want ⊖ parts) (drop (g + 1) table) ≡ drop g got
  next = sym (serve-cons subs want row (drop (g + 1) table)) ∙ ap (serve (portion share subs) want) (sym turn) ∙ k.left

  got_g : get_or got g [] ≡ parts
  got_g = sym (at_drop got g []) ∙ sym (ap (λ l. get_or l 0 []) next)

  then_left : serve (portion share subs) (want ⊖ parts) (drop (g + 1) table) ≡ drop (g + 1) got
  then_left = ap (drop 1) next ∙ drop-drop 1 g got

  module _ (short : length row ≤ 4) (inside : (i : ℕ) → subs ! i ≤ 4) (sized : length parts ≡ length want)
      {want' figures' sums' : List ℕ} (falls : want' ≡ want ⊖ parts) (raised : Raised (in_columns (g ∷ g ∷ g ∷ g ∷ []) subs parts) figures figures')
      (lower : sums' ≡ sums ⊖ row) where
    new_rise : (i j : ℕ) → got_by (take g got) i j + in_columns (g ∷ g ∷ g ∷ g ∷ []) subs parts i j ≡ got_by (take (g + 1) got) i j
    new_rise i j = by_cases (ℕ_discrete j g) here there
      where
        from : in_columns (g ∷ g ∷ g ∷ g ∷ []) subs parts i j ≡ in_column g parts i j
        from = ap (λ (c : ℕ). in_column c parts i j) (get_or-table (λ _. g) 4 (subs ! i - 1) 0 (let l = inside i in omega arith))

        here : j ≡ g → got_by (take g got) i j + in_columns (g ∷ g ∷ g ∷ g ∷ []) subs parts i j ≡ got_by (take (g + 1) got) i j
        here e =
            let a : got_by (take g got) i j ≡ 0 = ap (λ l. l ! i) (past_take [] g got j (omega arith)) in
            let b : in_column g parts i j ≡ parts ! i = rw (eq-eqb j g e) refl in
            let c : got_by (take (g + 1) got) i j ≡ parts ! i = rw e (ap (λ l. l ! i) (get_or-take (g + 1) got g [] (omega arith) ∙ got_g)) in
            let d = from in omega arith

        there : (j ≡ g → ⊥) → got_by (take g got) i j + in_columns (g ∷ g ∷ g ∷ g ∷ []) subs parts i j ≡ got_by (take (g + 1) got) i j
        there e =
            let b : in_column g parts i j ≡ 0 = rw (ne_eqb j g e) refl in
            let c : got_by (take (g + 1) got) i j ≡ got_by (take g got) i j = ap (λ l. l ! i) (next-there [] got g j e) in
            let d = from in omega arith

    pub giving_more : Giving subs table got want₀ figures₀ want' figures' sums' (g + 1)
    giving_more =
        record {
          turns = omega arith;
          same = ap length falls ∙ (let a = length-rowwise ◌-◌ 0 0 want parts in let b = k.same in omega arith);
          less = let a = ap sum falls in let b = sum-⊖ want parts (portion_under share-lawful subs row want fits) in let c = k.less in omega arith;
          left = ap (λ w. serve (portion share subs) w (drop (g + 1) table)) falls ∙ then_left;
          rises = record {
            same = raised.same ∙ k.rises.same;
            by = λ i j l. let a = raised.by i j l in let b = k.rises.by i j l in let c = new_rise i j in omega arith;
          };
          still = lower ∙ ap (λ l. l ⊖ row) k.still ∙ sym (totals_fall share-lawful subs row want fits short) ∙ ap (totals subs) (sym falls);
          sent = subst (SentWithin (drop (g + 1) table)) (sym lower) (sent_then row (drop (g + 1) table) sums sent);
          room = subst (λ w. Room w figures') (sym falls) (room-kept share-lawful subs row want fits (g ∷ g ∷ g ∷ g ∷ []) k.room raised);
        }

-- Steps 4 to 7 for any lawful rule of sharing: what four submarkets have meets what the plants want. Assumes nothing.
use mathlib.Core.Path.{◌≡◌, refl, sym, ap, ◌∙◌}
use Prim.Native.Nat.{ℕ, zero, suc, ◌+◌, ◌-◌, min, ◌≤◌}
use native.Mathlib.Omega.{arith}
use native.Mathlib.Nat.{le_of_eq}
use mathlib.Core.List.{List, [], ◌∷◌, map}
use lib.ListN
use lib.ListN.{length, get_or, length-map}
use Rattle.lists.specs.Columns.{◌⊖◌, ◌⊓◌, Below, joined, inside, within, at, totals}
use Rattle.lists.specs.Lists.{sum, most}
use Rattle.lists.proofs.Columns.{◌!◌, length-rowwise, at-⊕, at-⊖, at-⊓, sum-⊖, below-⊖, min-left, min_right, below-⊕, sum_ext, sum_tight, sum-joined, at-map-sum, joined-four, joined_at, at-within, transpose-sum, within-nil, within-joined, Sited, sited_le, totals-sum, totals_ext, totals_is, at_totals, at_joined, get_or-map_to, get_or-transpose}
use Rattle.lists.proofs.Sums.{at-le-sum}
use Rattle.lists.proofs.Bounds.{within-sum}
use Rattle.lists.proofs.Questions.{every_all, at-most_all}
use Rattle.sharing.specs.Laws.{Lawful}
use Rattle.transfer.specs.Laws.{row_sum, column_sum, Served}
use Rattle.sharing.specs.Sharing.{Rule}
use Rattle.transfer.specs.Transfer.{serve, transfer}
use Rattle.transfer.specs.Calls.{apart}
use Rattle.transfer.proofs.Served.{length-serve, served, transfer-rows}
use Rattle.transfer.proofs.Asked.{Transferable}
use Rattle.blocks.specs.Portion.{portion}
use Rattle.blocks.proofs.Portion.{portion_under, portion-adds, portion-sized, at_fall}
use Rattle.cover.specs.Givers.{SentWithin}
use Rattle.cover.specs.Cover.{own, own_parts, table, got, rest, supplied}
use borrow.Author.Tests.{eq-eqb}
use lib.Dec.{eqb}

pub at-supplied : (rule : Rule) (subs have want : List ℕ) (s i : ℕ)
    → supplied rule subs have want s ! i ≡ inside s (subs ! i) (own_parts rule subs have want ! i) + at s (got rule subs have want) [] ! i
unfolding supplied
at-supplied rule subs have want s i =
    at-⊕ (within s subs (own_parts rule subs have want)) (at s (got rule subs have want) []) i
    ∙ ap (λ (x : ℕ). x + at s (got rule subs have want) [] ! i) (at-within s subs (own_parts rule subs have want) i)

-- of what the givers sent: the first row, and the others once it is served
module _ (row : List ℕ) (rows : List (List ℕ)) (need : List ℕ) (sent : SentWithin (row ∷ rows) need) where
  pub sent-first : Below row need
  unfolding joined
  sent-first s = let a = sent s in let b = at-⊕ row (joined rows) s in omega arith

  pub sent_then : SentWithin rows (need ⊖ row)
  unfolding joined
  sent_then s = let a = sent s in let b = at-⊕ row (joined rows) s in let c = at-⊖ need row s in omega arith

module _ {rule : Rule} (L : Lawful rule) where
  module _ (subs : List ℕ) where
    spread_sized : (rows : List (List ℕ)) (ws : List ℕ) (g : ℕ) → length ws ≤ length subs
        → length (get_or (serve (portion rule subs) ws rows) g []) ≤ length subs
    unfolding serve
    spread_sized [] ws g h = omega arith
    spread_sized (row ∷ rows) ws zero h = let a = portion-sized L subs row ws in omega arith
    spread_sized (row ∷ rows) ws (suc g) h =
        spread_sized rows (ws ⊖ portion rule subs row ws) g
        (let a = portion-sized L subs row ws in let b = length-rowwise ◌-◌ 0 0 ws (portion rule subs row ws) in omega arith)

    pub own-sized : (have want : List ℕ) → length want ≤ length subs → length (own_parts rule subs have want) ≤ length subs
    unfolding own_parts
    own-sized have want h = let a = portion-sized L subs (own rule subs have want) want in omega arith

    pub own-fits : (have want : List ℕ) → Below (own rule subs have want) (totals subs want)
    unfolding own
    own-fits have want = min_right have (totals subs want)

    pub own_under : (have want : List ℕ) → Below (own_parts rule subs have want) want
    unfolding own_parts
    own_under have want = portion_under L subs (own rule subs have want) want (own-fits have want)

    pub got-sized : (have want : List ℕ) (g : ℕ) → length want ≤ length subs → length (get_or (got rule subs have want) g []) ≤ length subs
    unfolding got
    got-sized have want g h =
        spread_sized (table rule subs have want) (want ⊖ own_parts rule subs have want) g
        (let a = own-sized have want h in let b = length-rowwise ◌-◌ 0 0 want (own_parts rule subs have want) in omega arith)

    pub supplied-sized : (have want : List ℕ) → length want ≤ length subs → (s : ℕ) → length (supplied rule subs have want s) ≡ length subs
    unfolding supplied
    supplied-sized have want h s =
        length-rowwise ◌+◌ 0 0 (within s subs (own_parts rule subs have want)) (at s (got rule subs have want) [])
        ∙ (let a = length-rowwise (inside s) 0 0 subs (own_parts rule subs have want) in let b = own-sized have want h in let c = got-sized have want (s - 1) h in omega arith)

    -- the rows of a table, giver by giver, spread over the plants
    still_sent : (row : List ℕ) (rows : List (List ℕ)) (ws : List ℕ) → SentWithin (row ∷ rows) (totals subs ws) → SentWithin rows (totals subs (ws ⊖ portion rule subs row ws))
    still_sent row rows ws sent s =
        let a = sent_then row rows (totals subs ws) sent s in let b = at-⊖ (totals subs ws) row s in let c = at_fall L subs row ws (sent-first row rows (totals subs ws) sent) s in omega arith

    spread_under : (rows : List (List ℕ)) (ws : List ℕ) → SentWithin rows (totals subs ws) → Below (joined (serve (portion rule subs) ws rows)) ws
    unfolding serve joined
    spread_under [] ws sent = λ i. omega arith
    spread_under (row ∷ rows) ws sent =
        let p = portion rule subs row ws in below-⊕ p _ ws (portion_under L subs row ws (sent-first row rows (totals subs ws) sent)) (spread_under rows (ws ⊖ p) (still_sent row rows ws sent))

    spread_adds : (rows : List (List ℕ)) (ws : List ℕ) → SentWithin rows (totals subs ws) → (g s : ℕ) → 1 ≤ s → s ≤ 4
        → sum (within s subs (get_or (serve (portion rule subs) ws rows) g [])) ≡ at s (get_or rows g []) 0
    unfolding serve
    spread_adds [] ws sent g s l h = within-nil s subs
    spread_adds (row ∷ rows) ws sent zero s l h = portion-adds L subs row ws (sent-first row rows (totals subs ws) sent) s l h
    spread_adds (row ∷ rows) ws sent (suc g) s l h = spread_adds rows (ws ⊖ portion rule subs row ws) (still_sent row rows ws sent) g s l h

-- What steps 4 to 6 come to
pub record Met (rule : Rule) (subs have want : List ℕ) : Type 0 where
  -- every plant has what it wants, from its own submarket and the four givers
  pub fills : (i : ℕ) → own_parts rule subs have want ! i + joined (got rule subs have want) ! i ≡ want ! i
  -- what a submarket's own plants got, and what all plants got from it by the table
  pub from_own : (s : ℕ) → 1 ≤ s → s ≤ 4 → sum (within s subs (own_parts rule subs have want)) ≡ at s (own rule subs have want) 0
  pub from_table : (s : ℕ) → 1 ≤ s → s ≤ 4 → sum (at s (got rule subs have want) []) ≡ sum (at s (table rule subs have want) [])
  -- nothing goes from a submarket to its own plants by the table
  pub no_loop : (s : ℕ) → 1 ≤ s → s ≤ 4 → (i : ℕ) → within s subs (at s (got rule subs have want) []) ! i ≡ 0
  -- a submarket's own cover, what it sent and what is left are what it had
  pub spent : (s : ℕ) → 1 ≤ s → s ≤ 4
      → at s (own rule subs have want) 0 + sum (at s (table rule subs have want) []) + at s (rest rule subs have want) 0 ≡ at s have 0
  pub leaves : sum (rest rule subs have want) + sum want ≡ sum have
  pub four_givers : length (got rule subs have want) ≡ 4
  pub four_left : length (rest rule subs have want) ≡ 4

module _ {rule : Rule} (L : Lawful rule) (subs have want : List ℕ) (four-have : length have ≡ 4) (sited : Sited subs want) (enough : sum want ≤ sum have) where
  need : List ℕ
  need = totals subs want

  left : List ℕ
  left = have ⊖ own rule subs have want

  open' : List ℕ
  open' = need ⊖ own rule subs have want

  at_own : (j : ℕ) → own rule subs have want ! j ≡ min (have ! j) (need ! j)
  unfolding own need
  at_own j = at-⊓ have (totals subs want) j

  at_left : (j : ℕ) → left ! j ≡ have ! j - own rule subs have want ! j
  unfolding left
  at_left j = at-⊖ have (own rule subs have want) j

  at_open : (j : ℕ) → open' ! j ≡ need ! j - own rule subs have want ! j
  unfolding open'
  at_open j = at-⊖ need (own rule subs have want) j

  sum_left : sum left + sum (own rule subs have want) ≡ sum have
  unfolding left own
  sum_left = sum-⊖ have (own rule subs have want) (min-left have (totals subs want))

  sum_open : sum open' + sum (own rule subs have want) ≡ sum want
  unfolding open' need
  sum_open = sum-⊖ need (own rule subs have want) (own-fits L subs have want) ∙ totals-sum subs want sited

  fit_cols : sum open' ≤ sum left
  fit_cols = let a = sum_left in let b = sum_open in omega arith

  -- what step 5 promises of the table: each receiver is sent its open need, no giver more than it has left
  promised : Served rule left open'
  promised = served L left open' fit_cols

  pub sent_is : (r : ℕ) → column_sum (table rule subs have want) r ≡ (totals subs want ⊖ own rule subs have want) ! r
  unfolding table left open' need
  sent_is = promised.received

  given : (g : ℕ) → sum (get_or (table rule subs have want) g []) ≤ left ! g
  unfolding table left open' need
  given = promised.given

  own-adds : (s : ℕ) → 1 ≤ s → s ≤ 4 → sum (within s subs (own_parts rule subs have want)) ≡ at s (own rule subs have want) 0
  unfolding own_parts
  own-adds = portion-adds L subs (own rule subs have want) want (own-fits L subs have want)

  -- the needs of the plants that are still open, by submarket
  still : List ℕ
  still = want ⊖ own_parts rule subs have want

  still_open : (j : ℕ) → totals subs still ! j ≡ open' ! j
  unfolding still own_parts need
  still_open j = at_fall L subs (own rule subs have want) want (own-fits L subs have want) j ∙ sym (at_open j)

  sent_still : SentWithin (table rule subs have want) (totals subs still)
  unfolding open' need
  sent_still r = le_of_eq (sent_is r ∙ sym (still_open r))

  got_under : Below (joined (got rule subs have want)) still
  unfolding got still
  got_under = spread_under L subs (table rule subs have want) still sent_still

  got-adds : (g s : ℕ) → 1 ≤ s → s ≤ 4 → sum (within s subs (get_or (got rule subs have want) g [])) ≡ at s (get_or (table rule subs have want) g []) 0
  unfolding got still
  got-adds = spread_adds L subs (table rule subs have want) still sent_still

  -- lengths: four submarkets throughout
  four-own : length (own rule subs have want) ≡ 4
  unfolding own totals
  four-own = length-rowwise min 0 0 have (totals subs want) ∙ rw four-have refl

  four-left : length left ≡ 4
  unfolding left
  four-left = length-rowwise ◌-◌ 0 0 have (own rule subs have want) ∙ rw (four-have, four-own) refl

  four_open : length open' ≡ 4
  unfolding open' need totals
  four_open = length-rowwise ◌-◌ 0 0 (totals subs want) (own rule subs have want) ∙ rw four-own refl

  pub four-rows : length (table rule subs have want) ≡ 4
  unfolding table left open' need
  four-rows = go (totals subs want ⊖ own rule subs have want) four_open
    where
      go : (ts : List ℕ) → length ts ≡ 4 → length (transfer rule (have ⊖ own rule subs have want) ts) ≡ 4
      go [] e = absurd (omega arith)
      go (t ∷ ts) e = transfer-rows L left t ts ∙ four-left

  four-got : length (got rule subs have want) ≡ 4
  unfolding got
  four-got = length-serve (portion rule subs) (want ⊖ own_parts rule subs have want) (table rule subs have want) ∙ four-rows

  four-rest : length (rest rule subs have want) ≡ 4
  unfolding rest left
  four-rest =
      length-rowwise ◌-◌ 0 0 (have ⊖ own rule subs have want) (map sum (table rule subs have want))
      ∙ rw (four-left, length-map, four-rows) refl

  -- the plants' wants are filled
  still_le : Below still want
  unfolding still
  still_le = below-⊖ want (own_parts rule subs have want)

  got-within : (s : ℕ) → 1 ≤ s → s ≤ 4 → sum (within s subs (joined (got rule subs have want))) ≡ sum (within s subs still)
  unfolding open' need
  got-within s l h =
      within-joined s subs (got rule subs have want)
      ∙ sum_ext (map (λ c. sum (within s subs c)) (got rule subs have want)) (map (λ r. at s r 0) (table rule subs have want))
      (λ g.
      get_or-map_to (λ c. sum (within s subs c)) [] (within-nil s subs) (got rule subs have want) g
      ∙ got-adds g s l h ∙ sym (ListN.get_or-map (λ r. at s r 0) (table rule subs have want) g []))
      ∙ joined_at (table rule subs have want) (s - 1) ∙ sent_is (s - 1) ∙ sym (still_open (s - 1)) ∙ at_totals subs still s l h

  got-sum : sum (joined (got rule subs have want)) ≡ sum still
  got-sum =
      sym (totals-sum subs (joined (got rule subs have want)) (sited_le subs (joined (got rule subs have want)) still got_under still_sited))
      ∙ totals_ext subs (joined (got rule subs have want)) still got-within
      ∙ totals-sum subs still still_sited
    where
      still_sited : Sited subs still
      still_sited = sited_le subs still want still_le sited

  fills' : (i : ℕ) → own_parts rule subs have want ! i + joined (got rule subs have want) ! i ≡ want ! i
  fills' i =
      let a = sum_tight (joined (got rule subs have want)) still got_under (let e = got-sum in omega arith) i in
      let b : still ! i ≡ want ! i - own_parts rule subs have want ! i = unfold still in at-⊖ want (own_parts rule subs have want) i in
      let c = own_under L subs have want i in
      omega arith

  -- what went out of a submarket by the table: a row adds up to its four places
  pub row_is : (g : ℕ) → row_sum (table rule subs have want) g ≡ sum (get_or (table rule subs have want) g [])
  unfolding table transfer left open' need
  row_is g =
      sym (transpose-sum cols g ∙ joined-four cols (length-serve rule left open' ∙ four_open) g
      ∙ (let a = get_or-transpose 0 cols g 0 in let b = get_or-transpose 0 cols g 1 in let c = get_or-transpose 0 cols g 2 in let d = get_or-transpose 0 cols g 3 in omega arith))
    where
      cols : List (List ℕ)
      cols = serve rule left open'

  from_table_lem : (s : ℕ) → 1 ≤ s → s ≤ 4 → sum (at s (got rule subs have want) []) ≡ sum (at s (table rule subs have want) [])
  from_table_lem s l h =
      sym (totals-sum subs (at s (got rule subs have want) []) (sited_le subs (at s (got rule subs have want) []) want under sited))
      ∙ (let a = got-adds (s - 1) 1 (omega arith) (omega arith) in let b = got-adds (s - 1) 2 (omega arith) (omega arith) in
      let c = got-adds (s - 1) 3 (omega arith) (omega arith) in let d = got-adds (s - 1) 4 (omega arith) (omega arith) in
      let e = row_is (s - 1) in let f = totals_is subs (at s (got rule subs have want) []) in
      omega arith)
    where
      under : Below (at s (got rule subs have want) []) want
      under i = let a = at_joined (got rule subs have want) (s - 1) i in let b = got_under i in let c = still_le i in omega arith

  no_loop_lem : (s : ℕ) → 1 ≤ s → s ≤ 4 → (i : ℕ) → within s subs (at s (got rule subs have want) []) ! i ≡ 0
  unfolding table left open' need
  no_loop_lem s l h i =
      let a = at-le-sum (within s subs (at s (got rule subs have want) [])) i in
      let b = got-adds (s - 1) s l h in
      let c = promised.apart (s - 1) (let j = at_own (s - 1) in let k = at_left (s - 1) in let m = at_open (s - 1) in omega arith) in
      omega arith

  at_rest : (j : ℕ) → rest rule subs have want ! j ≡ left ! j - sum (get_or (table rule subs have want) j [])
  unfolding rest left
  at_rest j = at-⊖ left (map sum (table rule subs have want)) j ∙ rw at-map-sum

  spent' : (j : ℕ) → own rule subs have want ! j + sum (get_or (table rule subs have want) j []) + rest rule subs have want ! j ≡ have ! j
  spent' j = let a = at_rest j in let b = at_left j in let c = at_own j in let d = given j in omega arith

  leaves' : sum (rest rule subs have want) + sum want ≡ sum have
  unfolding rest table left open' need
  leaves' =
      let T = table rule subs have want in
      let a = sum-⊖ left (map sum T) (λ j. let p = at-map-sum T j in let q = given j in omega arith) in
      let b = sum-joined T in
      let c = sum_ext (joined T) open' promised.received in
      let d = sum_left in let e = sum_open in
      omega arith

  pub met : Met rule subs have want
  met =
      record {
        fills = fills';
        from_own = own-adds;
        from_table = from_table_lem;
        no_loop = no_loop_lem;
        spent = λ s l h. spent' (s - 1);
        leaves = leaves';
        four_givers = four-got;
        four_left = four-rest;
      }

  pub row_under : (g : ℕ) → row_sum (table rule subs have want) g ≤ (have ⊖ own rule subs have want) ! g
  unfolding left
  row_under g = let a = row_is g in let b = given g in omega arith

  -- the transfer step's question is answered yes, where no more than 2 × 10^9 is at hand
  pub transfer-asked : sum have ≤ most → Transferable (have ⊖ own rule subs have want) (totals subs want ⊖ own rule subs have want)
  unfolding left open' need apart
  transfer-asked limit =
      let a = sum_left in let b = sum_open in
      record {
        left_hourly = at-most_all left most (within-sum left most (omega arith)).at;
        need_hourly = at-most_all open' most (within-sum open' most (omega arith)).at;
        enough = fit_cols;
        no_both =
            every_all (λ x. eqb x 0) (left ⊓ open') 0 (λ j. eq-eqb ((left ⊓ open') ! j) 0 (
            let c = at-⊓ left open' j in let d = at_left j in let e = at_open j in let f = at_own j in omega arith));
      }

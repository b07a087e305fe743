-- "One hour": steps 1 to 8. Assumes nothing.
use Rattle.std.specs.Prelude.{ℕ, ◌-◌, List, [], map, ℤ}
use Rattle.std.proofs.Math.IntN.{sub_ℕ}
use Rattle.lists.specs.Columns.{rowwise, ◌⊕◌, ◌⊖◌, ◌⊓◌, within, outside, four, at, totals, by_row}
use Rattle.lists.specs.Lists.{sum}
use Rattle.sharing.specs.Sharing.{Rule, share}
use Rattle.cover.specs.Cover.{own_parts, table, got, rest}
use Rattle.modulation.specs.Guarantee.{modulated_in, reduced_by}
use Rattle.rows.specs.Steps.{covered_by, rights_by}
use Rattle.plants.specs.declared.Plant.{Plant}

-- What an hour is worked from. Steps 3 to 7 share by its rule, step 1 by running totals
pub record Hour : Type 0 where
  pub rule : Rule
  pub plants : List Plant
  pub profile : List ℕ
  pub period : ℕ
  pub metered : List ℕ

-- The hour of period k (periods count from 1), by the rule in force
unfoldable pub hour_of : List Plant → List ℕ → List ℕ → ℕ → Hour
hour_of plants profile metered k = record { rule = share; plants = plants; profile = profile; period = k; metered = metered }

-- the submarket that the hour's own table gives each plant
unfoldable pub submarkets : Hour → List ℕ
submarkets h = map (λ (p : Plant). p.submarket) h.plants

-- Step 1: the guarantee Q shared over the whole profile; this period's part
unfoldable pub modulated : Hour → Plant → ℕ
modulated h p = modulated_in h.profile h.period p.guarantee

-- Step 2: times loss, rounded down, times availability, rounded down; a of each plant
unfoldable pub guaranteed : Hour → Plant → ℕ
guaranteed h p = reduced_by p.loss p.availability (modulated h p)

unfoldable pub guarantees : Hour → List ℕ
guarantees h = map (guaranteed h) h.plants

-- Step 3: secondary energy Z = Gt − A, zero where Gt is below A; covered guarantees b
unfoldable pub secondary : Hour → ℕ
secondary h = sum h.metered - sum (guarantees h)

unfoldable pub covered : Hour → List ℕ
covered h = covered_by h.rule (sum h.metered) (guarantees h)

module _ (h : Hour) where
  -- Step 4: the surpluses summed by submarket (U), the deficits d of the plants, own cover
  unfoldable pub surplus : List ℕ
  surplus = totals (submarkets h) (h.metered ⊖ covered h)

  unfoldable pub deficit : List ℕ
  deficit = covered h ⊖ h.metered

  unfoldable pub own_cover : List ℕ
  own_cover = own_parts h.rule (submarkets h) surplus deficit

  -- Steps 5 and 6: the first table, and what each plant got by it
  unfoldable pub cover_table : List (List ℕ)
  cover_table = table h.rule (submarkets h) surplus deficit

  unfoldable pub cover_got : List (List ℕ)
  cover_got = got h.rule (submarkets h) surplus deficit

  -- Step 7: rights to secondary r
  unfoldable pub rights : List ℕ
  rights = rights_by h.rule (secondary h) (guarantees h) h.metered

  -- Step 7's V: what is left to each submarket after step 5
  unfoldable pub left_over : List ℕ
  left_over = rest h.rule (submarkets h) surplus deficit

  -- Step 7: own part min(V, R), shared over the submarket's r
  unfoldable pub own_secondary : List ℕ
  own_secondary = own_parts h.rule (submarkets h) left_over rights

  -- Step 7, as step 5: the second table
  unfoldable pub secondary_table : List (List ℕ)
  secondary_table = table h.rule (submarkets h) left_over rights

  -- Step 7, as step 6: what each plant got by the second table
  unfoldable pub secondary_got : List (List ℕ)
  secondary_got = got h.rule (submarkets h) left_over rights

  -- Step 8: the figures in submarket s, of its own plants and of the others
  unfoldable pub figure : ℕ → List ℕ
  figure s =
      within s (submarkets h) (h.metered ⊓ covered h ⊕ own_cover ⊕ own_secondary)
      ⊕ outside s (submarkets h) (at s cover_got [] ⊕ at s secondary_got [])

  -- Step 8: net = G − b − r
  unfoldable pub nets : List ℤ
  nets = rowwise sub_ℕ 0 0 h.metered (covered h ⊕ rights)

  -- The allotment list, four figures a plant
  unfoldable pub allotment : List ℕ
  allotment = by_row 0 (four figure)

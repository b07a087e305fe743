-- `hour::work` meets its contract: what each call leaves is what the hour's definitions say. Assumes nothing.
use mathlib.Core.Path.{◌≡◌, sym, ap, ◌∙◌}
use Prim.Native.Nat.{ℕ, ◌-◌, ◌*◌, ◌^◌, ◌≤◌}
use native.Mathlib.Omega.{arith}
use lib.ListN.{length, get_or, take, replicate}
use lib.Seq.{length-take-le}
use Rattle.lists.specs.Lists.{sum}
use mathlib.Core.List.{List, map}
use Rattle.modulation.specs.Guarantee.{guarantee_in}
use Rattle.lists.proofs.Bounds.{hours-small}
use Rattle.sharing.specs.Sharing.{share}
use Rattle.rows.specs.Steps.{covered_by, rights_by}
use Rattle.lists.specs.Columns.{◌⊖◌, totals, ◌⊕◌, four, by_row}
use Rattle.cover.specs.Cover.{supplied}
use Rattle.blocks.specs.Blocks.{block_starts, standing_at}
use Rattle.blocks.proofs.Starts.{standing-at, starts_rising}
use Rattle.hour.proofs.Allotment.{allotment_built}
use Rattle.hour.specs.Hour.{Hour, hour_of, submarkets, covered, deficit, surplus, guarantees, left_over, rights}
use Rattle.plants.specs.Plants.{submarkets_of}
use Rattle.plants.proofs.Submarkets.{length-submarkets}
use Rattle.hour.proofs.Limits.{subs_are, guarantees_are, guarantees-small, sound}
use Rattle.hour.proofs.Whole.{secondary_is_lem, covered_is, rights_are, deficit_is, surplus_is, nets_are, begun_is, cover_is, left_is, supplied_is, deficit_met, surplus-small, again_is, rights_met, left-small, covered-small, rights-small, begun-low, first-low}
use Rattle.hour.proofs.work.Goals as goal
use Rattle.hour.proofs.work.Goals.{Start}

abbrev hour : Start → Hour
hour c = hour_of c.args.plants.now c.args.profile.now c.args.metered.now c.args.period

-- steps 3 and 4, from what the calls up to `prepare` left
record Prepared (h : Hour) (a b r d u : List ℕ) : Type 0 where
  a_is : a ≡ guarantees h
  b_is : b ≡ covered h
  r_is : r ≡ rights h
  d_is : d ≡ deficit h
  u_is : u ≡ surplus h

module _ (c : Start) where
  abbrev metered : List ℕ
  metered = c.args.metered.now

  prepared : {a b r d u : List ℕ}
      → a ≡ map (guarantee_in c.args.profile.now c.args.period) c.args.plants.now
      → b ≡ covered_by share (sum metered) a → r ≡ rights_by share (sum metered - sum a) a metered
      → d ≡ b ⊖ metered → u ≡ totals (submarkets_of c.args.plants.now) (metered ⊖ b) → Prepared (hour c) a b r d u
  prepared {a} ae be re de ue =
      let w = c.requires in
      let a_e = ae ∙ sym (guarantees_are w) in let b_e = be ∙ covered_is w a_e in
      record { a_is = a_e; b_is = b_e; r_is = re ∙ rights_are w a_e; d_is = de ∙ deficit_is w b_e; u_is = ue ∙ surplus_is w b_e }

-- the front of a local list has a place for each plant
abbrev zeros : List ℕ
zeros = replicate 512 0

front : (c : Start) → length (take (length c.args.plants.now) zeros) ≡ length c.args.plants.now
front c = length-take-le (length c.args.plants.now) zeros c.requires.rows

-- the rows' submarkets
module _ (c : Start) (starts : List ℕ) (e : starts ≡ block_starts (submarkets_of c.args.plants.now)) where
  t_of : standing_at starts ≡ submarkets (hour c)
  t_of = let w = c.requires in ap standing_at e ∙ standing-at _ w.standing ∙ sym (subs_are w)

  rows-all : length c.args.plants.now ≡ get_or starts 4 0
  rows-all = sym (rw (← e, length-submarkets c.args.plants.now) at (starts_rising _ c.requires.standing).last)

pub guarantees_of-guarantees-requires-clause-le_period : goal.guarantees_of-guarantees-requires-clause-le_period
guarantees_of-guarantees-requires-clause-le_period c = let w = c.requires in (w.begun, w.due, w.whole, hours-small _ w.periods w.hourly)

pub share_out-secondary-requires-clause-metered_bound : goal.share_out-secondary-requires-clause-metered_bound
share_out-secondary-requires-clause-metered_bound c = let w = c.requires in let g = w.generation in omega arith

pub invariant_of-a : goal.invariant_of-a
invariant_of-a c =
    let w = c.requires in
    let e : sum c.guarantees_of-guarantees.new.a ≤ 512 * 10 ^ 12 = rw (c.guarantees_of-guarantees.ensures.a_after ∙ sym (guarantees_are w)) (guarantees-small w) in
    record { adds = c.guarantees_of-guarantees.ensures.value; small = omega arith }

pub prepare-surplus-requires-clause-metered_bound : goal.prepare-surplus-requires-clause-metered_bound
prepare-surplus-requires-clause-metered_bound c =
    let w = c.requires in
    let a = c.guarantees_of-guarantees.ensures.a_after ∙ sym (guarantees_are w) in
    let b = c.share_out-secondary.ensures.b_after ∙ covered_is w a in
    let r = c.share_out-secondary.ensures.r_after ∙ rights_are w a in
    (w.generation, rw b (covered-small w), rw r (rights-small w))

pub meet-first-requires : goal.meet-first-requires
meet-first-requires c =
    let d = (goal.at.meet-first-requires c).Start in
    let w = c.requires in
    let p = prepared d c.guarantees_of-guarantees.ensures.a_after c.share_out-secondary.ensures.b_after c.share_out-secondary.ensures.r_after
    c.prepare-surplus.ensures.d_after c.prepare-surplus.ensures.value in
    let t = t_of d _ c.new-blocks.ensures in
    let all = rows-all d _ c.new-blocks.ensures in
    let long = front d in let g = w.figures in let n = c.prepare-surplus.auto in
    record {
      want_len = (omega arith, omega arith, omega arith);
      have_bound = (
        surplus-small w t p.u_is p.d_is,
        deficit_met w t p.u_is p.d_is,
        rw c.prepare-surplus.ensures.allotment_after (begun-low w p.b_is),
      );
    }

pub meet-second-requires : goal.meet-second-requires
meet-second-requires c =
    let d = (goal.at.meet-second-requires c).Start in
    let w = c.requires in
    let p = prepared d c.guarantees_of-guarantees.ensures.a_after c.share_out-secondary.ensures.b_after c.share_out-secondary.ensures.r_after
    c.prepare-surplus.ensures.d_after c.prepare-surplus.ensures.value in
    let t = t_of d _ c.new-blocks.ensures in
    let v = c.meet-first.ensures.rest_value ∙ left_is w t p.u_is p.d_is in
    let all = rows-all d _ c.new-blocks.ensures in
    let long = front d in let g = w.figures in let n = c.prepare-surplus.auto in let m = c.meet-first.auto in let r = c.share_out-secondary.auto in
    record {
      want_len = (omega arith, omega arith, omega arith);
      have_bound = (
        left-small w t v p.r_is,
        rights_met w t v p.r_is,
        rw (c.meet-first.ensures.figures_after, c.prepare-surplus.ensures.allotment_after) (first-low w t p.b_is p.u_is p.d_is),
      );
    }

pub returns : goal.returns
returns c =
    let d = (goal.at.returns c).Start in
    let w = c.requires in
    let p = prepared d c.guarantees_of-guarantees.ensures.a_after c.share_out-secondary.ensures.b_after c.share_out-secondary.ensures.r_after
    c.prepare-surplus.ensures.d_after c.prepare-surplus.ensures.value in
    let t = t_of d _ c.new-blocks.ensures in
    let v = c.meet-first.ensures.rest_value ∙ left_is w t p.u_is p.d_is in
    record {
      allotted =
          c.meet-second.ensures.figures_after
          ∙ (λ i. (c.meet-first.ensures.figures_after i) ⊕ supplied_is w t v p.r_is i)
          ∙ (λ i. (c.prepare-surplus.ensures.allotment_after ∙ begun_is w p.b_is) i ⊕ supplied_is w t p.u_is p.d_is i
          ⊕ by_row 0 (four (supplied (hour d).rule (submarkets (hour d)) (left_over (hour d)) (rights (hour d)))))
          ∙ sym (allotment_built (hour d) (sound w));
      netted = c.prepare-surplus.ensures.nets_after ∙ nets_are w p.b_is p.r_is;
      secondary_is = c.share_out-secondary.ensures.value ∙ secondary_is_lem w p.a_is;
      guarantees_are = c.guarantees_of-guarantees.ensures.value ∙ ap sum p.a_is;
      cover_table_is = c.meet-first.ensures.rows_value ∙ cover_is w t p.u_is p.d_is;
      secondary_table_is = c.meet-second.ensures.rows_value ∙ again_is w t v p.r_is;
    }

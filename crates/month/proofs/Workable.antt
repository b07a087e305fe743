-- Settle's questions 12 to 18 answered yes: the hour can be worked, and its figures can be added to a ledger in bounds. Assumes nothing.
use mathlib.Core.Path.{◌≡◌, refl, sym, ap, ◌∙◌, subst}
use mathlib.Core.Bool.{true}
use mathlib.Core.List.{List}
use Prim.Native.Nat.{ℕ, ◌-◌, ◌*◌, ◌^◌, ◌≤◌}
use native.Mathlib.Omega.{arith}
use lib.IntN.{ℤ, nat_abs, sub_ℕ}
use lib.ListN.{length}
use Rattle.lists.specs.Lists.{sum, most, Within}
use Rattle.lists.specs.Columns.{◌⊕◌}
use Rattle.lists.proofs.Columns.{◌!◌, length-rowwise}
use Rattle.lists.proofs.Questions.{at-most-at}
use Rattle.lists.proofs.Sums.{at-le-sum}
use Rattle.signed.proofs.View.{net_abs}
use Rattle.lists.proofs.Rows.{by_fours}
use Rattle.hour.specs.Hour.{Hour, hour_of, covered, rights, allotment, nets}
use Rattle.plants.specs.Plants.{submarkets_of}
use Rattle.hour.specs.Work.{Workable, HourWorked}
use Rattle.hour.specs.declared.Worked.{Worked}
use Rattle.hour.proofs.Hour.{Sound, figure-le, share-le, whole-sized}
use Rattle.hour.proofs.Figures.{allotment-at, allotment-sized, at-nets}
use Rattle.plants.specs.declared.Plant.{Plant}
use Rattle.ledger.specs.Ledger.{Ledger, in_bounds}
use Rattle.ledger.specs.Posting.{Near, Postable}
use Rattle.ledger.proofs.Bounds.{bounded}
use Rattle.month.specs.declared.Month.{Month}
use Rattle.questions.proofs.Asked.{field-within}
use Rattle.month.proofs.Accepted.{rows-standing, inputs_sound}
use Rattle.month.proofs.Asked.{Inputs}

module _ {m : Month} {plants : List Plant} {profile metered : List ℕ} {lent : ℕ} {l : Ledger} (q : Inputs m plants profile metered lent l) where
  rows : length plants ≡ m.plants
  rows = q.own.rows

  -- an array of 512 nets has room for the hour, and one of 2,048 figures
  pub few : length plants ≤ 512
  few = omega (arith, rows, q.own.sizes.plants)

  pub roomy : lent ≤ 2048
  roomy = omega (arith, q.meter.allotment, q.own.sizes.plants)

  pub due-small : m.due ≤ 744
  due-small = omega (arith, q.meter.due, q.own.sizes.periods)

  generation : sum metered ≤ most
  generation = omega (arith, q.meter.generation, at-most-at profile most q.tables.figures (m.due - 1))

  pub workable : {figures : List ℕ} {lentNets : List ℤ} → length figures ≡ lent → length lentNets ≡ length plants
      → Workable plants profile m.due metered figures lentNets
  unfolding submarkets_of
  workable room net_rows =
      let r = rows in
      let s = q.own.sizes in
      let t = q.meter in
      let accepted = q.tables.rows in
      record {
        some = omega arith;
        rows = omega arith;
        standing = rows-standing 0 0 plants accepted;
        guarantees = field-within _ _ refl (λ p r. r.guarantee) plants accepted;
        losses = field-within _ _ refl (λ p r. r.loss) plants accepted;
        availabilities = field-within _ _ refl (λ p r. r.availability) plants accepted;
        hourly = record { at = at-most-at profile most q.tables.figures };
        periods = omega (arith, q.own.figures);
        whole = q.tables.some;
        begun = t.begun;
        due = omega (arith, q.own.figures);
        meters = omega (arith, t.meters);
        generation = generation;
        figures = omega (arith, room);
        net_rows = net_rows;
      }

  abbrev h : Hour
  h = hour_of plants profile metered m.due

  ok : Sound h
  ok = inputs_sound q m.due

  -- no figure of the hour is above the generation, no net above twice that
  allotment-within : Within (allotment h) (2 * 10 ^ 9)
  unfolding hour_of
  allotment-within =
      record {
        at = by_fours (λ j. allotment h ! j ≤ 2 * 10 ^ 9) (λ s l k i.
            let g = generation in let a = figure-le h ok s l k i in let b = allotment-at h ok s l k i in omega arith);
      }

  nets_near : Near (nets h) (4 * 10 ^ 9)
  unfolding hour_of
  nets_near =
      record {
        at = λ i.
            let g = generation in
            let a = at-le-sum metered i in
            let b = share-le h ok i in
            let e = ap nat_abs (at-nets h ok i) in
            let f = net_abs (metered ! i) (covered h ! i) (rights h ! i) in
            omega arith;
      }

  nets-sized : length (nets h) ≡ length plants
  unfolding nets hour_of
  nets-sized =
      length-rowwise sub_ℕ 0 0 metered (covered h ⊕ rights h)
      ∙ (let a = whole-sized h ok in let b = q.meter.meters in let e = rows in omega arith)

  hour_postable : in_bounds l ≡ true → Postable l (allotment h) (nets h) m.tariff
  unfolding hour_of
  hour_postable inside =
      let r = rows in
      let t = q.tables.lengths in
      let b = bounded l inside in (
        record { same = let a = allotment-sized h ok in omega (arith, t.allotted); ledger = b.allotted; hour = allotment-within },
        record { rows = let a = nets-sized in omega (arith, t.accounts); ledger = b.accounts; hour = nets_near; low = q.own.sizes.tariff },
      )

  -- the hour as it was worked
  pub postable : {answer : Worked} {worked : List ℕ} {workedNets : List ℤ} → HourWorked h answer worked workedNets → in_bounds l ≡ true
      → Postable l worked workedNets m.tariff
  postable {workedNets = workedNets} d inside =
      subst (λ x. Postable l x workedNets m.tariff) (sym d.allotted)
      (subst (λ y. Postable l (allotment h) y m.tariff) (sym d.netted) (hour_postable inside))

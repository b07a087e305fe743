-- An hour in limits is sound, and its sums stay far below 64 bits. Assumes nothing.
use mathlib.Core.Path.{◌≡◌, refl}
use mathlib.Core.List.{List, map}
use Prim.Native.Nat.{ℕ, ◌*◌, ◌^◌, ◌≤◌}
use lib.IntN.{ℤ}
use lib.ListN.{length, length-map}
use Rattle.lists.specs.Lists.{sum}
use Rattle.sharing.proofs.Sharing.{share-lawful}
use Rattle.modulation.specs.Guarantee.{guarantee_in, InLimits}
use Rattle.modulation.proofs.Profile.{guarantees-le}
use Rattle.hour.specs.Hour.{Hour, hour_of, submarkets, modulated, guaranteed, guarantees}
use Rattle.hour.specs.Work.{Workable}
use Rattle.hour.proofs.Hour.{Sound}
use Rattle.blocks.specs.Portion.{Standing}
use Rattle.blocks.proofs.Standing.{placed_at}
use Rattle.plants.specs.declared.Plant.{Plant}
use Rattle.plants.specs.Plants.{submarkets_of}

-- plants that stand by submarket, each with a metered figure
pub sound_of : (plants : List Plant) (profile metered : List ℕ) (k : ℕ) → Standing 0 (map (λ (p : Plant). p.submarket) plants) → length metered ≡ length plants
    → Sound (hour_of plants profile metered k)
unfolding hour_of submarkets
sound_of plants profile metered k standing same =
    record { lawful = share-lawful; placed = λ i h. placed_at 0 (map (λ (p : Plant). p.submarket) plants) standing i (rw length-map h); metered = same }

module _ {plants : List Plant} {profile : List ℕ} {k : ℕ} {metered lent : List ℕ} {lentNets : List ℤ} (w : Workable plants profile k metered lent lentNets) where
  abbrev h : Hour
  h = hour_of plants profile metered k

  pub subs_are : submarkets h ≡ submarkets_of plants
  unfolding hour_of submarkets submarkets_of
  subs_are = refl

  pub sound : Sound h
  unfolding submarkets_of
  sound = sound_of plants profile metered k w.standing w.meters

  pub in_limits : InLimits plants
  in_limits = record { guarantees = w.guarantees; losses = w.losses; availabilities = w.availabilities }

  -- steps 1 and 2 of each plant
  pub guarantees_are : guarantees h ≡ map (guarantee_in profile k) plants
  unfolding hour_of guarantees guaranteed modulated
  guarantees_are = refl

  -- A is at most 5.12 × 10^14
  pub guarantees-small : sum (guarantees h) ≤ 512 * 10 ^ 12
  guarantees-small = rw guarantees_are (guarantees-le profile k w.begun w.due plants w.rows in_limits)

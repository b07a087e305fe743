-- One hour as the code works it: what it is worked from, and what working it leaves. Assumes nothing.
use Rattle.std.specs.Prelude.{ℕ, ◌*◌, ◌^◌, ◌≤◌, ◌<◌, ◌≡◌, List, ℤ, map, length}
use Rattle.lists.specs.Lists.{sum, most, Within}
use Rattle.plants.specs.declared.Plant.{Plant}
use Rattle.plants.specs.Plants.{submarkets_of}
use Rattle.blocks.specs.Portion.{Standing}
use Rattle.hour.specs.Hour.{Hour, guarantees, secondary, cover_table, secondary_table, nets, allotment}
use Rattle.hour.specs.declared.Worked.{Worked}

-- The plants, profile, period and metered figures are in limits, and the lent lists as long as they must be (what the hour needs of
-- settle's questions 2, 3, 5 to 10 and 13 to 18)
pub record Workable (plants : List Plant) (profile : List ℕ) (k : ℕ) (metered lent : List ℕ) (lentNets : List ℤ) : Type 0 where
  pub some : 1 ≤ length plants
  pub rows : length plants ≤ 512
  pub standing : Standing 0 (submarkets_of plants)
  pub guarantees : Within (map (λ (p : Plant). p.guarantee) plants) (10 ^ 12)
  pub losses : Within (map (λ (p : Plant). p.loss) plants) 1000000
  pub availabilities : Within (map (λ (p : Plant). p.availability) plants) 1000000
  pub hourly : Within profile most
  pub periods : length profile ≤ 744
  pub whole : 0 < sum profile
  pub begun : 1 ≤ k
  pub due : k ≤ length profile
  pub meters : length metered ≡ length plants
  pub generation : sum metered ≤ most
  pub figures : length lent ≡ 4 * length plants
  pub net_rows : length lentNets ≡ length plants

-- What an hour leaves: the answer, the allotment list and the nets
pub record HourWorked (h : Hour) (answer : Worked) (lent : List ℕ) (lentNets : List ℤ) : Type 0 where
  pub allotted : lent ≡ allotment h
  pub netted : lentNets ≡ nets h
  pub secondary_is : answer.secondary ≡ secondary h
  pub guarantees_are : answer.guarantees ≡ sum (guarantees h)
  pub cover_table_is : answer.cover_table.rows ≡ cover_table h
  pub secondary_table_is : answer.secondary_table.rows ≡ secondary_table h

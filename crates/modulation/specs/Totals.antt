-- Steps 1 and 2 by running totals of the profile, as the inner functions state them. Assumes nothing.
use Rattle.std.specs.Prelude.{◌≡◌, ℕ, ◌-◌, ◌^◌, ◌≤◌, ◌<◌, List, take}
use Rattle.lists.specs.Lists.{sum}
use Rattle.sharing.specs.Sharing.{part_between}
use Rattle.plants.specs.declared.Plant.{Plant}
use Rattle.modulation.specs.declared.Modulation.{Modulation}
use Rattle.modulation.specs.declared.ratio.Ratios.{Ratios}
use Rattle.modulation.specs.Guarantee.{guarantee_with}

-- Step 1: running totals of the profile at period k (counted from 1), and the whole
unfoldable pub modulation_of : List ℕ → ℕ → Modulation
modulation_of profile k = record { before = sum (take (k - 1) profile); upto = sum (take k profile); whole = sum profile }

-- ... figure by figure
pub record Modulates (profile : List ℕ) (k : ℕ) (m : Modulation) : Type 0 where
  pub before_is : m.before ≡ sum (take (k - 1) profile)
  pub upto_is : m.upto ≡ sum (take k profile)
  pub whole_is : m.whole ≡ sum profile

-- running totals rise, up to a sum above 0 and within 744 hours' limit
pub record Ordered (m : Modulation) : Type 0 where
  pub lower : m.before ≤ m.upto
  pub upper : m.upto ≤ m.whole
  pub some : 0 < m.whole
  pub small : m.whole < 2 ^ 43

-- ... the part of Q
abbrev pub part_of : Modulation → ℕ → ℕ
part_of m q = part_between q m.whole m.before m.upto

-- ... by two ratios of one whole
abbrev pub part_by : Ratios → ℕ → ℕ
part_by r q = part_between q r.upto.whole r.before.part r.upto.part

-- ... and the guarantee after step 2
abbrev pub guarantee_of : Modulation → Plant → ℕ
guarantee_of m p = guarantee_with (part_of m) p

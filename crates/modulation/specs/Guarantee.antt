-- "One hour", steps 1 and 2: a plant's guarantee in a period. Assumes nothing.
use Rattle.std.specs.Prelude.{ℕ, ◌*◌, ◌/◌, ◌^◌, List, map}
use Rattle.lists.specs.Lists.{Within}
use Rattle.lists.specs.Columns.{at}
use Rattle.sharing.specs.Sharing.{share}
use Rattle.plants.specs.declared.Plant.{Plant}

-- Step 1: the guarantee Q shared over the whole profile; the part of period k (periods count from 1)
abbrev pub modulated_in : List ℕ → ℕ → ℕ → ℕ
modulated_in profile k q = at k (share q profile) 0

-- Step 2: that, times loss, rounded down, times availability, rounded down
abbrev pub reduced_by : ℕ → ℕ → ℕ → ℕ
reduced_by loss availability part = part * loss / 1000000 * availability / 1000000

-- Step 2, of a plant, with its part of Q; and both steps
abbrev pub guarantee_with : (ℕ → ℕ) → Plant → ℕ
guarantee_with part p = reduced_by p.loss p.availability (part p.guarantee)

abbrev pub guarantee_in : List ℕ → ℕ → Plant → ℕ
guarantee_in profile k p = guarantee_with (modulated_in profile k) p

-- guarantees of at most 10^12 kWh a month, and factors of at most 1
pub record InLimits (plants : List Plant) : Type 0 where
  pub guarantees : Within (map (λ (p : Plant). p.guarantee) plants) (10 ^ 12)
  pub losses : Within (map (λ (p : Plant). p.loss) plants) 1000000
  pub availabilities : Within (map (λ (p : Plant). p.availability) plants) 1000000

-- Step 1 by running totals of the profile, and steps 1 and 2 of each plant. Assumes nothing.
use mathlib.Core.Path.{◌≡◌, refl, sym, ap, ◌∙◌, subst}
use mathlib.Core.List.{List, [], ◌∷◌, ◌++◌, map}
use Prim.Native.Nat.{ℕ, suc, ◌+◌, ◌-◌, ◌*◌, ◌/◌, ◌^◌, ◌≤◌, ◌<◌}
use native.Mathlib.Nat.{le_trans, le_of_eq}
use native.Mathlib.Omega.{arith}
use lib.ListN.{length, take, get_or, length-map}
use lib.Seq.{take-suc, take-take}
use Rattle.lists.specs.Lists.{sum}
use Rattle.wide.proofs.Step.{at-most}
use Rattle.lists.proofs.Sums.{sum-append, part-le-sum}
use Rattle.lists.proofs.Bounds.{sum_bound}
use Rattle.lists.proofs.Columns.{get_or-map_to}
use Rattle.sharing.specs.Sharing.{part_between}
use Rattle.sharing.proofs.Sharing.{share-at, up_to_mono}
use Rattle.plants.specs.declared.Plant.{Plant}
use Rattle.plants.specs.Plants.{none}
use Rattle.modulation.specs.declared.Modulation.{Modulation}
use Rattle.modulation.specs.Guarantee.{modulated_in, guarantee_with, guarantee_in, InLimits}
use Rattle.modulation.specs.Totals.{Ordered, Modulates, modulation_of, part_of, guarantee_of}
use Rattle.modulation.proofs.Digits.{scaled}

module _ (l : List ℕ) (k : ℕ) where
  -- the total with one more period
  pub sum-next : 1 ≤ k → k ≤ length l → sum (take (k - 1) l) + get_or l (k - 1) 0 ≡ sum (take k l)
  unfolding sum
  sum-next low high =
      let f : k ≡ suc (k - 1) = omega arith in
      let e : take k l ≡ take (k - 1) l ++ (get_or l (k - 1) 0 ∷ []) = ap (λ (n : ℕ). take n l) f ∙ take-suc l (k - 1) 0 (omega arith) in
      let a = ap sum e in let b = sum-append (take (k - 1) l) (get_or l (k - 1) 0 ∷ []) in
      omega arith

-- the totals rise, up to the whole
pub totals-rise : (profile : List ℕ) (k : ℕ) → (sum (take (k - 1) profile) ≤ sum (take k profile)) × (sum (take k profile) ≤ sum profile)
totals-rise profile k = (
  subst (λ l. sum l ≤ sum (take k profile)) (take-take (k - 1) k profile (omega arith)) (part-le-sum (take k profile) 0 (k - 1)),
  part-le-sum profile 0 k,
)

pub ordered : (profile : List ℕ) (k : ℕ) → 0 < sum profile → sum profile < 2 ^ 43 → Ordered (modulation_of profile k)
unfolding modulation_of
ordered profile k some small = let t = totals-rise profile k in record { lower = t.0; upper = t.1; some = some; small = small }

pub modulates : {profile : List ℕ} {k : ℕ} {m : Modulation} → m ≡ modulation_of profile k → Modulates profile k m
unfolding modulation_of
modulates e =
    record {
      before_is = ap (λ (m : Modulation). m.before) e;
      upto_is = ap (λ (m : Modulation). m.upto) e;
      whole_is = ap (λ (m : Modulation). m.whole) e;
    }

-- the part is no more than Q
pub part-le : (q c w less : ℕ) → c ≤ w → q * c / w - less ≤ q
part-le q c w less h = let a = at-most q c w h in omega arith

-- what falls to the periods up to this one is no less than what falls to those before it
pub running_mono : (q b w c v : ℕ) → b ≤ c → w ≡ v → q * b / w ≤ q * c / v
running_mono q b w c v le e =
    let f : b + (c - b) ≡ c = omega arith in
    rw e (rw f at (up_to_mono q v b (c - b)))

-- a figure of plants in limits
module _ {plants : List Plant} (ok : InLimits plants) (i : ℕ) where
  abbrev p : Plant
  p = get_or plants i none

  pub limits-at : (p.guarantee ≤ 10 ^ 12) × (p.loss ≤ 1000000) × (p.availability ≤ 1000000)
  limits-at = (
    rw (get_or-map_to (λ (q : Plant). q.guarantee) none refl plants i) at (ok.guarantees.at i),
    rw (get_or-map_to (λ (q : Plant). q.loss) none refl plants i) at (ok.losses.at i),
    rw (get_or-map_to (λ (q : Plant). q.availability) none refl plants i) at (ok.availabilities.at i),
  )

-- no guarantee is above 10^12
pub guarantees_bound : (part : ℕ → ℕ) → ((q : ℕ) → part q ≤ q) → (plants : List Plant) → InLimits plants
    → sum (map (guarantee_with part) plants) ≤ length plants * 10 ^ 12
guarantees_bound part le plants ok =
    let e : guarantee_with part none ≡ 0 = let a = le 0 in omega arith in
    sum_bound (map (guarantee_with part) plants) (10 ^ 12) (length plants)
    (record { at = λ i. let l = limits-at ok i in rw (get_or-map_to (guarantee_with part) none e plants i) (scaled (scaled (le_trans (le _) l.0) l.1) l.2) })
    (le_of_eq (length-map plants (guarantee_with part)))

-- ---- steps 1 and 2 as the paper has them
module _ (profile : List ℕ) (k : ℕ) (low : 1 ≤ k) (high : k ≤ length profile) where
  pub modulated_is : (q : ℕ) → modulated_in profile k q ≡ part_between q (sum profile) (sum (take (k - 1) profile)) (sum (take k profile))
  modulated_is q =
      let e : suc (k - 1) ≡ k = omega arith in
      share-at q profile (k - 1) (omega arith)
      ∙ ap (λ (n : ℕ). q * sum (take n profile) / sum profile - q * sum (take (k - 1) profile) / sum profile) e

  pub guarantees_are : {m : Modulation} → Modulates profile k m → (plants : List Plant) → map (guarantee_of m) plants ≡ map (guarantee_in profile k) plants
  guarantees_are {m} r plants = λ i. map (guarantee_with (λ q. part i q)) plants
    where
      part : part_of m ≡ modulated_in profile k
      part = λ i q. (sym (modulated_is q ∙ (λ j. part_between q (sym r.whole_is j) (sym r.before_is j) (sym r.upto_is j)))) i

  -- A of up to 512 plants is at most 5.12 × 10^14
  pub guarantees-le : (plants : List Plant) → length plants ≤ 512 → InLimits plants → sum (map (guarantee_in profile k) plants) ≤ 512 * 10 ^ 12
  guarantees-le plants few ok =
      let a = guarantees_bound (modulated_in profile k)
      (λ q. rw modulated_is (part-le q (sum (take k profile)) (sum profile) _ (totals-rise profile k).1)) plants ok in
      omega arith

-- Laws of questions. `search asks` proves an answer `r ≡ first_no (..)` from the tests that led to it, one `if` for each comparison or call;
-- `search tests` proves what a function of a few joined tests answers; `search outcomes` proves what a call leaves by its number. Assumes nothing.
use Prim.Native.Nat.{ℕ, zero, suc, ◌<◌, ◌≤◌, ◌^◌}
use mathlib.Core.Bool.{Bool, true, false, false≢true, not, cond, ◌&&◌, ◌||◌}
use mathlib.Core.List.{List, [], ◌∷◌}
use mathlib.Core.Path.{◌≡◌, refl, sym, ap, ◌∙◌, subst}
use native.Mathlib.Omega.{arith}
use borrow.Author.Tests.{leb-true, le-leb, lt-leb, lt-ltb, le-ltb, eq-eqb, ne_eqb}
use lib.Dec.{T, ltb, leb}
use lib.ListN.{length, get_or}
use Rattle.std.specs.List.{list_all}
use Rattle.lists.specs.Lists.{sum, most, every, at_most}
use Rattle.lists.proofs.Bounds.{hours-small}
use Rattle.lists.specs.Questions.{◌then◌, Question, ◌⁇◌, part, first_no, in_range, outcome}

pub then_yes : (n m r : ℕ) → 0 ≡ n → r ≡ m → r ≡ n then m
unfolding ◌then◌
then_yes n m r e p = rw (← e) p

pub then_no : (k n m : ℕ) → k ≡ n → (k ≡ 0 → ⊥) → k ≡ n then m
unfolding ◌then◌
then_no k zero m e h = absurd (h e)
then_no k (suc n) m e h = e

pub yes : (b : Bool) (n : ℕ) (qs : List Question) (r : ℕ) → b ≡ true → r ≡ first_no qs → r ≡ first_no (b ⁇ n ∷ qs)
unfolding first_no
yes b n qs r e p = rw e p

pub no : (b : Bool) (n : ℕ) (qs : List Question) → b ≡ false → n ≡ first_no (b ⁇ n ∷ qs)
unfolding first_no
no b n qs e = rw e

pub part-yes : (n : ℕ) (qs : List Question) (x r : ℕ) → x ≡ n → x ≡ 0 → r ≡ first_no qs → r ≡ first_no (part n ∷ qs)
unfolding first_no
part-yes n qs x r e z p = then_yes n (first_no qs) r (sym z ∙ e) p

pub part_no : (n : ℕ) (qs : List Question) (x : ℕ) → x ≡ n → (x ≡ 0 → ⊥) → x ≡ first_no (part n ∷ qs)
unfolding first_no
part_no n qs x e h = then_no x n (first_no qs) e h

pub part-last : (n x : ℕ) → x ≡ n → x ≡ first_no (part n ∷ [])
unfolding first_no ◌then◌
part-last zero x e = e
part-last (suc n) x e = e

pub all_yes : 0 ≡ first_no []
unfolding first_no
all_yes = refl

-- a list that gave 0: its first question was answered yes, or its first part gave 0, and so with the rest
pub asked : (b : Bool) (n : ℕ) (qs : List Question) → T (ltb 0 n) → first_no (b ⁇ n ∷ qs) ≡ 0 → (b ≡ true) × (first_no qs ≡ 0)
unfolding first_no
asked true n qs t e = (refl, e)
asked false n qs t e = absurd (subst (λ (k : ℕ). T (ltb 0 k)) e t)

pub then_zero : (n m : ℕ) → n then m ≡ 0 → (n ≡ 0) × (m ≡ 0)
unfolding ◌then◌
then_zero zero m e = (refl, e)
then_zero (suc n) m e = let z : ⊥ = omega arith in absurd z

pub parted : (n : ℕ) (qs : List Question) → first_no (part n ∷ qs) ≡ 0 → (n ≡ 0) × (first_no qs ≡ 0)
unfolding first_no
parted n qs e = then_zero n (first_no qs) e

pub both : (a b : Bool) → (a && b) ≡ true → (a ≡ true) × (b ≡ true)
both true b e = (refl, e)
both false b e = absurd (false≢true e)

-- what holds of either answer to a test holds of the one that it picks
pub by_case : {A : Type 0} (P : A → Type 0) (b : Bool) (x y : A) → (b ≡ true → P x) → (b ≡ false → P y) → P (cond b x y)
by_case P true x y f g = f refl
by_case P false x y f g = g refl

-- what a call answers by its contract, after a test `if call(..)`
pub called_no : (x y : Bool) → x ≡ y → x ≡ false → y ≡ false
called_no x y e t = sym e ∙ t

pub called_yes : (x y : Bool) → x ≡ y → x ≡ true → y ≡ true
called_yes x y e t = sym e ∙ t

-- tests joined by `&&` and `||`, from left to right
pub and_go : (a b r : Bool) → a ≡ true → r ≡ b → r ≡ (a && b)
and_go a b r e p = rw e p

pub and_stop : (a b : Bool) → a ≡ false → false ≡ (a && b)
and_stop a b e = rw e

-- the same where the left test's own value is the answer
pub and_stopped : (a b r : Bool) → r ≡ a → r ≡ false → r ≡ (a && b)
and_stopped true b r e t = absurd (false≢true (sym t ∙ e))
and_stopped false b r e t = e

pub or_go : (a b r : Bool) → a ≡ false → r ≡ b → r ≡ (a || b)
or_go a b r e p = rw e p

pub or_stop : (a b : Bool) → a ≡ true → true ≡ (a || b)
or_stop a b e = rw e

pub not_yes : (a : Bool) → a ≡ false → not a ≡ true
not_yes a e = rw e

pub not-no : (a : Bool) → a ≡ true → not a ≡ false
not-no a e = rw e

pub and_both : (a b : Bool) → a ≡ true → b ≡ true → (a && b) ≡ true
and_both a b e p = rw (e, p)

pub and_second : (a b : Bool) → b ≡ false → (a && b) ≡ false
and_second true b e = e
and_second false b e = refl

pub above : (low high x : ℕ) → high < x → in_range low high x ≡ false
unfolding in_range
above low high x h = and_second (leb low x) (leb x high) (lt-leb x high h)

pub in_range_lem : (low high x : ℕ) → low ≤ x → x ≤ high → in_range low high x ≡ true
unfolding in_range
in_range_lem low high x h k = rw (le-leb low x h, le-leb x high k)

pub limits : (low high x : ℕ) → in_range low high x ≡ true → (low ≤ x) × (x ≤ high)
unfolding in_range
limits low high x e = let l = both (leb low x) (leb x high) e in (leb-true low x l.0, leb-true x high l.1)

-- ---- what a call leaves, by its number
module _ {ℓ} {A : Type ℓ} where
  pub refuses : (k n : ℕ) (y x : A) (f : ℕ → A) → k ≡ n → (k ≡ 0 → ⊥) → x ≡ f k → x ≡ outcome n y f
  unfolding outcome
  refuses k zero y x f e h p = absurd (h e)
  refuses k (suc n) y x f e h p = p ∙ ap f e

  pub accepts : (k n : ℕ) (y x : A) (f : ℕ → A) → k ≡ n → k ≡ 0 → x ≡ y → x ≡ outcome n y f
  unfolding outcome
  accepts k n y x f e z p = p ∙ rw (← e, z)

  pub accepted : (n : ℕ) (y : A) (f : ℕ → A) → n ≡ 0 → outcome n y f ≡ y
  unfolding outcome
  accepted n y f e = rw e

  pub same_either : (n : ℕ) (x : A) → outcome n x (λ _. x) ≡ x
  unfolding outcome
  same_either zero x = refl
  same_either (suc n) x = refl

-- the number itself
pub number_itself : (n : ℕ) → outcome n 0 (λ k. k) ≡ n
unfolding outcome
number_itself zero = refl
number_itself (suc n) = refl

-- a part of what a call leaves
pub outcome-part {ℓ κ} : {A : Type ℓ} {B : Type κ} (g : A → B) (n : ℕ) (y : A) (f : ℕ → A) → g (outcome n y f) ≡ outcome n (g y) (λ k. g (f k))
unfolding outcome
outcome-part g zero y f = refl
outcome-part g (suc n) y f = refl

-- ---- every figure
-- std's word, by which `all` of a chain answers
pub every_is_list_all : {A : Type 0} (p : A → Bool) (xs : List A) → every p xs ≡ list_all p xs
unfolding every
every_is_list_all p [] = refl
every_is_list_all p (x ∷ xs) = ap (λ b. p x && b) (every_is_list_all p xs)

pub all_at_most : (n : ℕ) (xs : List ℕ) → list_all (λ x. leb x n) xs ≡ at_most n xs
unfolding at_most
all_at_most n xs = sym (every_is_list_all (λ x. leb x n) xs)

pub every_all : {A : Type 0} (p : A → Bool) (xs : List A) (d : A) → ((i : ℕ) → p (get_or xs i d) ≡ true) → every p xs ≡ true
unfolding every
every_all p [] d h = refl
every_all p (x ∷ xs) d h = and_both _ _ (h 0) (every_all p xs d (λ i. h (suc i)))

pub every-at : {A : Type 0} (p : A → Bool) (xs : List A) (d : A) → p d ≡ true → every p xs ≡ true → (i : ℕ) → p (get_or xs i d) ≡ true
unfolding every
every-at p [] d z e i = z
every-at p (x ∷ xs) d z e zero = (both (p x) (every p xs) e).0
every-at p (x ∷ xs) d z e (suc i) = every-at p xs d z (both (p x) (every p xs) e).1 i

pub at-most_all : (xs : List ℕ) (n : ℕ) → ((i : ℕ) → get_or xs i 0 ≤ n) → at_most n xs ≡ true
unfolding at_most
at-most_all xs n h = every_all (λ x. leb x n) xs 0 (λ i. le-leb _ n (h i))

pub at-most-at : (xs : List ℕ) (n : ℕ) → at_most n xs ≡ true → (i : ℕ) → get_or xs i 0 ≤ n
unfolding at_most
at-most-at xs n e i = leb-true _ n (every-at (λ x. leb x n) xs 0 (le-leb 0 n (omega arith)) e i)

-- figures in limits: their sum
pub sum-hours : (xs : List ℕ) → length xs ≤ 744 → at_most most xs ≡ true → sum xs < 2 ^ 43
sum-hours xs l e = hours-small xs l (record { at = at-most-at xs most e })

pub ruleset tests = (and_go, and_stop, and_stopped, or_go, or_stop, not_yes, not-no, le-leb, lt-leb, lt-ltb, le-ltb, eq-eqb, ne_eqb, called_no, called_yes, refl)

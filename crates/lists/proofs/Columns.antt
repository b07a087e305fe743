-- Laws of columns: figures row by row, sums, and the rows of a submarket. Assumes nothing.
use mathlib.Core.Path.{◌≡◌, refl, sym, ap, ◌∙◌, subst}
use mathlib.Core.Logic.{◌⊎◌, inl, inr, by_cases}
use Prim.Native.Nat.{ℕ, zero, suc, ◌+◌, ◌-◌, min, max, ◌≤◌, ◌<◌}
use native.Mathlib.Omega.{arith}
use native.Mathlib.Decide.{dec_lt}
use native.Mathlib.Nat.{le_antisymm, le_of_eq, zero-max, max-zero, suc-max-suc, suc_inj}
use mathlib.Core.Bool.{Bool, true, false, cond}
use mathlib.Core.List.{List, [], ◌∷◌, ◌++◌, map}
use lib.Dec.{eqb}
use borrow.Author.Tests.{ne_eqb}
use lib.ListN
use lib.ListN.{length, get_or, get_or-eq_default}
use lib.Seq.{ext_get_or}
use Rattle.lists.specs.Lists.{sum, table}
use Rattle.lists.specs.Columns.{rowwise, ◌⊕◌, ◌⊖◌, ◌⊓◌, Below, joined, inside, beyond, within, outside, four, at, totals, transpose}
use Rattle.lists.proofs.Sums.{at-le-sum, length-table, get_or-table, table-get_or}

infixl 80 ◌!◌
-- the figure of row i
abbrev pub ◌!◌ : List ℕ → ℕ → ℕ
xs ! i = get_or xs i 0

-- ---- figure by figure
module _ {A B C : Type 0} (f : A → B → C) (a : A) (b : B) where
  rowwise-at : (xs : List A) (ys : List B) (i : ℕ) → get_or (rowwise f a b xs ys) i (f a b) ≡ f (get_or xs i a) (get_or ys i b)
  unfolding rowwise
  rowwise-at [] [] i = refl
  rowwise-at [] (y ∷ ys) zero = refl
  rowwise-at [] (y ∷ ys) (suc i) = rowwise-at [] ys i
  rowwise-at (x ∷ xs) [] zero = refl
  rowwise-at (x ∷ xs) [] (suc i) = rowwise-at xs [] i
  rowwise-at (x ∷ xs) (y ∷ ys) zero = refl
  rowwise-at (x ∷ xs) (y ∷ ys) (suc i) = rowwise-at xs ys i

  pub get_or-rowwise : {c : C} → f a b ≡ c → (xs : List A) (ys : List B) (i : ℕ) → get_or (rowwise f a b xs ys) i c ≡ f (get_or xs i a) (get_or ys i b)
  get_or-rowwise e xs ys i = subst (λ c. get_or (rowwise f a b xs ys) i c ≡ f (get_or xs i a) (get_or ys i b)) e (rowwise-at xs ys i)

  pub length-rowwise : (xs : List A) (ys : List B) → length (rowwise f a b xs ys) ≡ max (length xs) (length ys)
  unfolding rowwise
  length-rowwise [] [] = refl
  length-rowwise [] (y ∷ ys) = ap suc (length-rowwise [] ys) ∙ ap suc (zero-max (length ys)) ∙ sym (zero-max (suc (length ys)))
  length-rowwise (x ∷ xs) [] = ap suc (length-rowwise xs []) ∙ ap suc (max-zero (length xs)) ∙ sym (max-zero (suc (length xs)))
  length-rowwise (x ∷ xs) (y ∷ ys) = ap suc (length-rowwise xs ys) ∙ sym (suc-max-suc (length xs) (length ys))

  pub rowwise-append : (xs : List A) (ys : List B) (xs' : List A) (ys' : List B) → length xs ≡ length ys
      → rowwise f a b (xs ++ xs') (ys ++ ys') ≡ rowwise f a b xs ys ++ rowwise f a b xs' ys'
  unfolding rowwise
  rowwise-append [] [] xs' ys' e = refl
  rowwise-append (x ∷ xs) (y ∷ ys) xs' ys' e = ap (λ l. f x y ∷ l) (rowwise-append xs ys xs' ys' (suc_inj e))
  rowwise-append [] (y ∷ ys) xs' ys' e = absurd (omega arith)
  rowwise-append (x ∷ xs) [] xs' ys' e = absurd (omega arith)

  -- what a loop over n rows writes
  pub rowwise-table : (n : ℕ) (xs : List A) (ys : List B) → length xs ≡ n → length ys ≡ n
      → rowwise f a b xs ys ≡ table n (λ i. f (get_or xs i a) (get_or ys i b))
  rowwise-table n xs ys p q =
      ext_get_or (f a b) (rowwise f a b xs ys) (table n (λ i. f (get_or xs i a) (get_or ys i b)))
      (length-rowwise xs ys ∙ (let e = length-table (λ i. f (get_or xs i a) (get_or ys i b)) n in omega arith))
      (λ i h. rowwise-at xs ys i ∙ sym (get_or-table (λ i. f (get_or xs i a) (get_or ys i b)) n i (f a b) (let e = length-rowwise xs ys in omega arith)))

-- zeros on the right change nothing
pub rowwise-nothing : (f : ℕ → ℕ → ℕ) → ((x : ℕ) → f x 0 ≡ x) → (xs ps : List ℕ) → length ps ≤ length xs → ((i : ℕ) → ps ! i ≡ 0) → rowwise f 0 0 xs ps ≡ xs
rowwise-nothing f unit xs ps l z =
    ext_get_or 0 (rowwise f 0 0 xs ps) xs (let a = length-rowwise f 0 0 xs ps in omega arith)
    (λ i _. get_or-rowwise f 0 0 (unit 0) xs ps i ∙ ap (f (xs ! i)) (z i) ∙ unit (xs ! i))

-- of a mapped list, with the default's image past the end
pub get_or-map_to : {A B : Type 0} (f : A → B) (a : A) {b : B} → f a ≡ b → (xs : List A) (i : ℕ) → get_or (map f xs) i b ≡ f (get_or xs i a)
get_or-map_to f a e xs i = subst (λ b. get_or (map f xs) i b ≡ f (get_or xs i a)) e (ListN.get_or-map f xs i a)

module _ (xs ys : List ℕ) (i : ℕ) where
  pub at-⊕ : (xs ⊕ ys) ! i ≡ xs ! i + ys ! i
  at-⊕ = get_or-rowwise ◌+◌ 0 0 refl xs ys i

  pub at-⊖ : (xs ⊖ ys) ! i ≡ xs ! i - ys ! i
  at-⊖ = get_or-rowwise ◌-◌ 0 0 refl xs ys i

  pub at-⊓ : (xs ⊓ ys) ! i ≡ min (xs ! i) (ys ! i)
  at-⊓ = get_or-rowwise min 0 0 refl xs ys i

-- ---- sums
pub sum-⊕ : (xs ys : List ℕ) → sum (xs ⊕ ys) ≡ sum xs + sum ys
unfolding rowwise sum
sum-⊕ [] [] = refl
sum-⊕ [] (y ∷ ys) = let h = sum-⊕ [] ys in omega arith
sum-⊕ (x ∷ xs) [] = let h = sum-⊕ xs [] in omega arith
sum-⊕ (x ∷ xs) (y ∷ ys) = let h = sum-⊕ xs ys in omega arith

pub sum-le : (xs ys : List ℕ) → ((i : ℕ) → xs ! i ≤ ys ! i) → sum xs ≤ sum ys
unfolding sum
sum-le [] ys h = omega arith
sum-le (x ∷ xs) [] h = let r = sum-le xs [] (λ i. h (suc i)) in let z = h 0 in omega arith
sum-le (x ∷ xs) (y ∷ ys) h = let r = sum-le xs ys (λ i. h (suc i)) in let z = h 0 in omega arith

pub sum_ext : (xs ys : List ℕ) → ((i : ℕ) → xs ! i ≡ ys ! i) → sum xs ≡ sum ys
sum_ext xs ys h = le_antisymm (sum-le xs ys (λ i. le_of_eq (h i))) (sum-le ys xs (λ i. le_of_eq (sym (h i))))

-- no figure above, and the sum not below: the same figures
pub sum_tight : (xs ys : List ℕ) → ((i : ℕ) → xs ! i ≤ ys ! i) → sum ys ≤ sum xs → (i : ℕ) → xs ! i ≡ ys ! i
unfolding sum
sum_tight [] ys h s i = let a = at-le-sum ys i in omega arith
sum_tight (x ∷ xs) [] h s i = let a = h i in omega arith
sum_tight (x ∷ xs) (y ∷ ys) h s zero = let r = sum-le xs ys (λ i. h (suc i)) in let z = h 0 in omega arith
sum_tight (x ∷ xs) (y ∷ ys) h s (suc i) = sum_tight xs ys (λ i. h (suc i)) (let z = h 0 in omega arith) i

-- a difference of columns, the second nowhere above the first
put_back : (xs ys : List ℕ) → Below ys xs → (i : ℕ) → (xs ⊖ ys ⊕ ys) ! i ≡ xs ! i
put_back xs ys h i = let a = h i in let b = at-⊖ xs ys i in let c = at-⊕ (xs ⊖ ys) ys i in omega arith

pub sum-⊖ : (xs ys : List ℕ) → Below ys xs → sum (xs ⊖ ys) + sum ys ≡ sum xs
sum-⊖ xs ys h = sym (sum-⊕ (xs ⊖ ys) ys) ∙ sum_ext (xs ⊖ ys ⊕ ys) xs (put_back xs ys h)

-- what is left of a column, and the smaller of two, are nowhere above it
pub below-⊖ : (xs ys : List ℕ) → Below (xs ⊖ ys) xs
below-⊖ xs ys i = let a = at-⊖ xs ys i in omega arith

pub min-left : (xs ys : List ℕ) → Below (xs ⊓ ys) xs
min-left xs ys i = let a = at-⊓ xs ys i in omega arith

pub min_right : (xs ys : List ℕ) → Below (xs ⊓ ys) ys
min_right xs ys i = let a = at-⊓ xs ys i in omega arith

-- a column that is nowhere above another, and a second nowhere above what it leaves of it: nor are both together
pub below-⊕ : (xs ys zs : List ℕ) → Below xs zs → Below ys (zs ⊖ xs) → Below (xs ⊕ ys) zs
below-⊕ xs ys zs h k i = let a = at-⊕ xs ys i in let b = at-⊖ zs xs i in let c = h i in let d = k i in omega arith

pub fewer : (xs ys : List ℕ) → sum (xs ⊖ ys) ≤ sum xs
fewer xs ys = sum-le (xs ⊖ ys) xs (below-⊖ xs ys)

pub sum-nil : (xs : List ℕ) → ((i : ℕ) → xs ! i ≡ 0) → sum xs ≡ 0
unfolding sum
sum-nil xs h = sum_ext xs [] h

-- ---- columns added up
pub sum-joined : (cs : List (List ℕ)) → sum (joined cs) ≡ sum (map sum cs)
unfolding joined sum
sum-joined [] = refl
sum-joined (c ∷ cs) = let h = sum-joined cs in let k = sum-⊕ c (joined cs) in omega arith

pub at-map-sum : (cs : List (List ℕ)) (i : ℕ) → map sum cs ! i ≡ sum (get_or cs i [])
unfolding sum
at-map-sum cs i = ListN.get_or-map sum cs i []

pub joined_at : (cs : List (List ℕ)) (i : ℕ) → sum (map (λ c. c ! i) cs) ≡ joined cs ! i
unfolding joined sum
joined_at [] i = refl
joined_at (c ∷ cs) i = let h = joined_at cs i in let k = at-⊕ c (joined cs) i in omega arith

pub at_joined : (cs : List (List ℕ)) (g i : ℕ) → get_or cs g [] ! i ≤ joined cs ! i
unfolding joined
at_joined [] g i = omega arith
at_joined (c ∷ cs) zero i = let a = at-⊕ c (joined cs) i in omega arith
at_joined (c ∷ cs) (suc g) i = let a = at-⊕ c (joined cs) i in let b = at_joined cs g i in omega arith

-- a list of four is its four
pub four_is : {A : Type 0} (d : A) (xs : List A) → length xs ≡ 4 → xs ≡ get_or xs 0 d ∷ get_or xs 1 d ∷ get_or xs 2 d ∷ get_or xs 3 d ∷ []
four_is d xs e = sym (rw e at (table-get_or d xs))

pub joined-four : (cs : List (List ℕ)) → length cs ≡ 4 → (i : ℕ)
    → joined cs ! i ≡ at 1 cs [] ! i + at 2 cs [] ! i + at 3 cs [] ! i + at 4 cs [] ! i
unfolding joined
joined-four cs e i =
    let a = at 1 cs [] in let b = at 2 cs [] in let c = at 3 cs [] in let d = at 4 cs [] in
    let h = at-⊕ a (b ⊕ (c ⊕ (d ⊕ []))) i in let k = at-⊕ b (c ⊕ (d ⊕ [])) i in let l = at-⊕ c (d ⊕ []) i in let m = at-⊕ d [] i in
    ap (λ l. joined l ! i) (four_is [] cs e) ∙ omega arith

-- ---- columns turned into rows
module _ {A B : Type 0} (d : A) (f : List A → B) (e : f [] ≡ f (d ∷ [])) where
  padded : (rows : List (List A)) (g : ℕ) → f (get_or rows g []) ≡ f (get_or rows g (d ∷ []))
  padded [] g = e
  padded (r ∷ rows) zero = refl
  padded (r ∷ rows) (suc g) = padded rows g

  -- a row with a figure put before it, by a function that a missing figure does not change
  beside : (c : List A) (rows : List (List A)) (g : ℕ) → f (get_or (rowwise ◌∷◌ d [] c rows) g []) ≡ f (get_or c g d ∷ get_or rows g [])
  beside c rows g = padded (rowwise ◌∷◌ d [] c rows) g ∙ ap f (rowwise-at ◌∷◌ d [] c rows g)

pub get_or-transpose : {A : Type 0} (d : A) (cs : List (List A)) (g r : ℕ) → get_or (get_or (transpose d cs) g []) r d ≡ get_or (get_or cs r []) g d
unfolding transpose
get_or-transpose d [] g r = refl
get_or-transpose d (c ∷ cs) g zero = beside d (λ row. get_or row 0 d) refl c (transpose d cs) g
get_or-transpose d (c ∷ cs) g (suc r) = beside d (λ row. get_or row (suc r) d) refl c (transpose d cs) g ∙ get_or-transpose d cs g r

pub transpose-sum : (cs : List (List ℕ)) (g : ℕ) → sum (get_or (transpose 0 cs) g []) ≡ joined cs ! g
unfolding transpose sum joined
transpose-sum [] g = refl
transpose-sum (c ∷ cs) g = beside 0 sum refl c (transpose 0 cs) g ∙ ap (λ (x : ℕ). c ! g + x) (transpose-sum cs g) ∙ sym (at-⊕ c (joined cs) g)

-- ---- the rows of a submarket
-- a submarket number is one of the four or none
pub data One : Bool → Bool → Bool → Bool → Type 0 where
  is1 : One true false false false
  is2 : One false true false false
  is3 : One false false true false
  is4 : One false false false true
  other : One false false false false

others : (a b c d : Bool) → a ≡ false → b ≡ false → c ≡ false → d ≡ false → One a b c d
others a b c d e f g h = rw (e, f, g, h) other

pub one : (t : ℕ) → One (eqb t 1) (eqb t 2) (eqb t 3) (eqb t 4)
one zero = other
one (suc zero) = is1
one (suc (suc zero)) = is2
one (suc (suc (suc zero))) = is3
one (suc (suc (suc (suc zero)))) = is4
one (suc (suc (suc (suc (suc n))))) = past (suc (suc (suc (suc (suc n))))) (omega arith)
  where
    past : (t : ℕ) → 5 ≤ t → One (eqb t 1) (eqb t 2) (eqb t 3) (eqb t 4)
    past t h =
        others _ _ _ _ (ne_eqb t 1 (λ e. omega arith)) (ne_eqb t 2 (λ e. omega arith)) (ne_eqb t 3 (λ e. omega arith)) (ne_eqb t 4 (λ e. omega arith))

-- what holds at 0, 1, 2 and 3 holds at each place of four, and so at each submarket 1 to 4
pub below-four : (P : ℕ → Type 0) → P 0 → P 1 → P 2 → P 3 → (i : ℕ) → i < 4 → P i
below-four P a b c d zero h = a
below-four P a b c d (suc zero) h = b
below-four P a b c d (suc (suc zero)) h = c
below-four P a b c d (suc (suc (suc zero))) h = d
below-four P a b c d (suc (suc (suc (suc i)))) h = absurd (omega arith)

pub each : (P : ℕ → Type 0) → P 1 → P 2 → P 3 → P 4 → (s : ℕ) → 1 ≤ s → s ≤ 4 → P s
each P a b c d zero l h = absurd (omega arith)
each P a b c d (suc s) l h = below-four (λ i. P (suc i)) a b c d s (omega arith)

-- of one entry for each submarket, that of s
pub four-at : {A : Type 0} (f : ℕ → A) (d : A) (s : ℕ) → 1 ≤ s → s ≤ 4 → at s (four f) d ≡ f s
four-at f d = each (λ s. at s (four f) d ≡ f s) refl refl refl refl

-- four figures, each below its bound
pub four-le : {a b c d : ℕ} (bound : ℕ → ℕ) → a ≤ bound 0 → b ≤ bound 1 → c ≤ bound 2 → d ≤ bound 3 → (i : ℕ) → (a ∷ b ∷ c ∷ d ∷ []) ! i ≤ bound i
four-le {a} {b} {c} {d} bound p q r s i =
    by_cases (dec_lt i 4) (below-four (λ i. (a ∷ b ∷ c ∷ d ∷ []) ! i ≤ bound i) p q r s i)
    (λ h. let e = get_or-eq_default (a ∷ b ∷ c ∷ d ∷ []) 0 {n = i} (omega arith) in omega arith)

pub cond_same : (b : Bool) → ◌≡◌ {A = ℕ} (cond b 0 0) 0
cond_same true = refl
cond_same false = refl

pub cond-+ : (b : Bool) (x y : ℕ) → cond b (x + y) 0 ≡ cond b x 0 + cond b y 0
cond-+ true x y = refl
cond-+ false x y = refl

pub in_out : (b : Bool) (x : ℕ) → cond b x 0 + cond b 0 x ≡ x
in_out true x = omega arith
in_out false x = omega arith

pub cond-le : (b : Bool) (x : ℕ) → cond b x 0 ≤ x
cond-le true x = omega arith
cond-le false x = omega arith

module _ (s : ℕ) (subs : List ℕ) where
  pub at-within : (xs : List ℕ) (i : ℕ) → within s subs xs ! i ≡ inside s (subs ! i) (xs ! i)
  at-within xs i = get_or-rowwise (inside s) 0 0 (cond_same (eqb 0 s)) subs xs i

  pub at-outside : (xs : List ℕ) (i : ℕ) → outside s subs xs ! i ≡ beyond s (subs ! i) (xs ! i)
  at-outside xs i = get_or-rowwise (beyond s) 0 0 (cond_same (eqb 0 s)) subs xs i

  pub within-le : (xs : List ℕ) (i : ℕ) → within s subs xs ! i ≤ xs ! i
  within-le xs i = let h = at-within xs i in let k = cond-le (eqb (subs ! i) s) (xs ! i) in omega arith

  pub within_ext : (xs ys : List ℕ) → ((i : ℕ) → xs ! i ≡ ys ! i) → sum (within s subs xs) ≡ sum (within s subs ys)
  within_ext xs ys h = sum_ext _ _ (λ i. at-within xs i ∙ ap (inside s (subs ! i)) (h i) ∙ sym (at-within ys i))

  pub within-⊕ : (xs ys : List ℕ) → sum (within s subs (xs ⊕ ys)) ≡ sum (within s subs xs) + sum (within s subs ys)
  within-⊕ xs ys =
      sum_ext _ _ (λ i.
      at-within (xs ⊕ ys) i ∙ ap (inside s (subs ! i)) (at-⊕ xs ys i) ∙ cond-+ (eqb (subs ! i) s) (xs ! i) (ys ! i)
      ∙ sym (at-⊕ (within s subs xs) (within s subs ys) i ∙ (let h = at-within xs i in let k = at-within ys i in omega arith)))
      ∙ sum-⊕ (within s subs xs) (within s subs ys)

  pub within-⊖ : (xs ys : List ℕ) → Below ys xs → sum (within s subs (xs ⊖ ys)) + sum (within s subs ys) ≡ sum (within s subs xs)
  within-⊖ xs ys h = sym (within-⊕ (xs ⊖ ys) ys) ∙ within_ext (xs ⊖ ys ⊕ ys) xs (put_back xs ys h)

  pub within-nil : sum (within s subs []) ≡ 0
  within-nil = sum-nil (within s subs []) (λ i. at-within [] i ∙ cond_same (eqb (subs ! i) s))

  -- of columns added up
  pub within-joined : (cs : List (List ℕ)) → sum (within s subs (joined cs)) ≡ sum (map (λ c. sum (within s subs c)) cs)
  unfolding joined sum
  within-joined [] = within-nil
  within-joined (c ∷ cs) = let h = within-joined cs in let k = within-⊕ c (joined cs) in omega arith

  -- the column parts into the rows of s and the others
  pub in_and_out : (xs : List ℕ) → sum (within s subs xs) + sum (outside s subs xs) ≡ sum xs
  in_and_out xs =
      sym (sum-⊕ (within s subs xs) (outside s subs xs))
      ∙ sum_ext _ _ (λ i.
      at-⊕ (within s subs xs) (outside s subs xs) i
      ∙ (let h = at-within xs i in let k = at-outside xs i in let l = in_out (eqb (subs ! i) s) (xs ! i) in omega arith))

-- a row with a figure stands in one of the four submarkets
abbrev pub Sited : List ℕ → List ℕ → Type 0
Sited subs xs = (i : ℕ) → (xs ! i ≡ 0) ⊎ ((1 ≤ subs ! i) × (subs ! i ≤ 4))

pub sited_le : (subs xs ys : List ℕ) → ((i : ℕ) → xs ! i ≤ ys ! i) → Sited subs ys → Sited subs xs
sited_le subs xs ys h s i = go (s i) (h i)
  where
    go : (ys ! i ≡ 0) ⊎ ((1 ≤ subs ! i) × (subs ! i ≤ 4)) → xs ! i ≤ ys ! i → (xs ! i ≡ 0) ⊎ ((1 ≤ subs ! i) × (subs ! i ≤ 4))
    go (inl z) l = inl (omega arith)
    go (inr r) l = inr r

-- .. by its place among n rows that stand in the four
pub sited_by : (subs xs : List ℕ) (n : ℕ) → length xs ≤ n → ((i : ℕ) → i < n → (1 ≤ subs ! i) × (subs ! i ≤ 4)) → Sited subs xs
sited_by subs xs n le placed i = by_cases (dec_lt i n) (λ lt. inr (placed i lt)) (λ ge. inl (get_or-eq_default xs 0 (omega arith)))

-- the four submarkets' figures of a row are its figure
pub quarters : (t x : ℕ) → (x ≡ 0) ⊎ ((1 ≤ t) × (t ≤ 4)) → inside 1 t x + inside 2 t x + inside 3 t x + inside 4 t x ≡ x
quarters t x (inl z) =
    let a = cond-le (eqb t 1) x in let b = cond-le (eqb t 2) x in let c = cond-le (eqb t 3) x in let d = cond-le (eqb t 4) x in
    omega arith
quarters t x (inr r) =
    each (λ t. inside 1 t x + inside 2 t x + inside 3 t x + inside 4 t x ≡ x) (omega arith) (omega arith) (omega arith) (omega arith) t r.0 r.1

pub totals-sum : (subs xs : List ℕ) → Sited subs xs → sum (totals subs xs) ≡ sum xs
unfolding totals sum
totals-sum subs xs h =
    let w : ℕ → List ℕ = λ s. within s subs xs in
    let e : sum (w 1 ⊕ w 2 ⊕ w 3 ⊕ w 4) ≡ sum xs =
    sum_ext (w 1 ⊕ w 2 ⊕ w 3 ⊕ w 4) xs (λ i.
    let a = at-⊕ (w 1 ⊕ w 2 ⊕ w 3) (w 4) i in let b = at-⊕ (w 1 ⊕ w 2) (w 3) i in let c = at-⊕ (w 1) (w 2) i in
    let d = quarters (subs ! i) (xs ! i) (h i) in
    let p = at-within 1 subs xs i in let q = at-within 2 subs xs i in let r = at-within 3 subs xs i in let s = at-within 4 subs xs i in
    omega arith) in
    let a = sum-⊕ (w 1 ⊕ w 2 ⊕ w 3) (w 4) in let b = sum-⊕ (w 1 ⊕ w 2) (w 3) in let c = sum-⊕ (w 1) (w 2) in
    omega arith

-- the four sums of a column
pub totals_is : (subs xs : List ℕ)
    → sum (totals subs xs) ≡ sum (within 1 subs xs) + sum (within 2 subs xs) + sum (within 3 subs xs) + sum (within 4 subs xs)
unfolding totals sum
totals_is subs xs = omega arith

pub totals_ext : (subs xs ys : List ℕ) → ((s : ℕ) → 1 ≤ s → s ≤ 4 → sum (within s subs xs) ≡ sum (within s subs ys)) → sum (totals subs xs) ≡ sum (totals subs ys)
totals_ext subs xs ys h =
    let a = h 1 (omega arith) (omega arith) in let b = h 2 (omega arith) (omega arith) in
    let c = h 3 (omega arith) (omega arith) in let d = h 4 (omega arith) (omega arith) in
    let x = totals_is subs xs in let y = totals_is subs ys in
    omega arith

pub at_totals : (subs xs : List ℕ) (s : ℕ) → 1 ≤ s → s ≤ 4 → at s (totals subs xs) 0 ≡ sum (within s subs xs)
unfolding totals
at_totals subs xs = four-at (λ s. sum (within s subs xs)) 0

-- parts of a row, one for each submarket and none above the submarket's figure: only the row's own submarket has one
pub record Only' (a b c d : Bool) (x p q r s : ℕ) : Type 0 where
  pub in1 : cond a (p + q + r + s) 0 ≡ p
  pub in2 : cond b (p + q + r + s) 0 ≡ q
  pub in3 : cond c (p + q + r + s) 0 ≡ r
  pub in4 : cond d (p + q + r + s) 0 ≡ s
  pub whole : p + q + r + s ≤ x

abbrev pub Only : (t x p q r s : ℕ) → Type 0
Only t x p q r s = Only' (eqb t 1) (eqb t 2) (eqb t 3) (eqb t 4) x p q r s

only' : {a b c d : Bool} {x p q r s : ℕ} → One a b c d → p ≤ cond a x 0 → q ≤ cond b x 0 → r ≤ cond c x 0 → s ≤ cond d x 0 → Only' a b c d x p q r s
only' is1 h i j k = omega arith
only' is2 h i j k = omega arith
only' is3 h i j k = omega arith
only' is4 h i j k = omega arith
only' other h i j k = omega arith

pub only : (t x p q r s : ℕ) → p ≤ inside 1 t x → q ≤ inside 2 t x → r ≤ inside 3 t x → s ≤ inside 4 t x → Only t x p q r s
only t x p q r s = only' (one t)

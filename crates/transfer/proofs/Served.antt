-- Step 5: amounts served in turn, and the table that they make. Assumes nothing.
use mathlib.Core.Path.{◌≡◌, refl, sym, ap, ◌∙◌}
use Prim.Native.Nat.{ℕ, zero, suc, ◌+◌, ◌-◌, ◌≤◌}
use native.Mathlib.Omega.{arith}
use mathlib.Core.List.{List, [], ◌∷◌}
use lib.ListN.{length, get_or}
use Rattle.lists.specs.Lists.{sum}
use Rattle.lists.specs.Columns.{rowwise, ◌⊖◌, Below, joined, transpose}
use Rattle.lists.proofs.Sums.{at-le-sum}
use Rattle.lists.proofs.Rows.{Even, rows-even}
use Rattle.lists.proofs.Columns.{◌!◌, four_is, length-rowwise, sum-⊖, below-⊕, sum_ext, at_joined, get_or-transpose, transpose-sum, joined-four}
use Rattle.sharing.specs.Sharing.{Rule}
use Rattle.transfer.specs.Transfer.{serve, transfer}
use Rattle.sharing.specs.Laws.{Lawful}
use Rattle.transfer.specs.Laws.{Served, Transfers}
use Rattle.sharing.proofs.Sharing.{adds-le}

pub length-serve : {A : Type 0} (f : A → List ℕ → List ℕ) (ws : List ℕ) (ts : List A) → length (serve f ws ts) ≡ length ts
unfolding serve
length-serve f ws [] = refl
length-serve f ws (t ∷ ts) = ap suc (length-serve f (ws ⊖ f t ws) ts)

module _ {rule : Rule} (L : Lawful rule) where
  -- what is still open falls by what was shared
  pub fallen : (t : ℕ) (ws : List ℕ) → t ≤ sum ws → sum (ws ⊖ rule t ws) + t ≡ sum ws
  fallen t ws h = let a = sum-⊖ ws (rule t ws) (L.bounded t ws h) in let b = adds-le L t ws h in omega arith

  -- amounts in turn: each is shared whole, and none gives more than it has
  serve-adds : (ws ts : List ℕ) → sum ts ≤ sum ws → (r : ℕ) → sum (get_or (serve rule ws ts) r []) ≡ ts ! r
  unfolding serve sum
  serve-adds ws [] h r = refl
  serve-adds ws (t ∷ ts) h zero = adds-le L t ws (omega arith)
  serve-adds ws (t ∷ ts) h (suc r) = serve-adds (ws ⊖ rule t ws) ts (let a = fallen t ws (omega arith) in omega arith) r

  serve_under : (ws ts : List ℕ) → sum ts ≤ sum ws → Below (joined (serve rule ws ts)) ws
  unfolding serve sum joined
  serve_under ws [] h = λ i. omega arith
  serve_under ws (t ∷ ts) h =
      below-⊕ (rule t ws) _ ws (L.bounded t ws (omega arith)) (serve_under (ws ⊖ rule t ws) ts (let a = fallen t ws (omega arith) in omega arith))

  serve-even : (n : ℕ) (ws ts : List ℕ) → length ws ≡ n → Even n (serve rule ws ts)
  unfolding serve
  serve-even n ws [] e j h = absurd (omega arith)
  serve-even n ws (t ∷ ts) e zero h = L.sized t ws ∙ e
  serve-even n ws (t ∷ ts) e (suc j) h =
      serve-even n (ws ⊖ rule t ws) ts (let a = length-rowwise ◌-◌ 0 0 ws (rule t ws) in let b = L.sized t ws in omega arith) j (omega arith)

  -- a table of what n givers have left has n rows
  pub transfer-rows : (ws : List ℕ) (t : ℕ) (ts : List ℕ) → length (transfer rule ws (t ∷ ts)) ≡ length ws
  unfolding transfer serve
  transfer-rows ws t ts = rows-even 0 (length ws) (rule t ws) (serve rule (ws ⊖ rule t ws) ts) (serve-even (length ws) ws (t ∷ ts) refl)

  -- the promises of the table
  pub served : (left need : List ℕ) → sum need ≤ sum left → Served rule left need
  unfolding transfer
  served left need h =
      record {
        received = λ r. sym (transpose-sum (transpose 0 cols) r) ∙ column r ∙ serve-adds left need h r;
        given = λ g. let a = transpose-sum cols g in let b = serve_under left need h g in omega arith;
        apart = λ s e.
            let a = get_or-transpose 0 cols s s in
            let b = at-le-sum (get_or cols s []) s in
            let c = serve-adds left need h s in
            let d = at_joined cols s s in
            let f = serve_under left need h s in
            omega arith;
      }
    where
      cols : List (List ℕ)
      cols = serve rule left need

      column : (r : ℕ) → sum (get_or (transpose 0 (transpose 0 cols)) r []) ≡ sum (get_or cols r [])
      column r = sum_ext _ _ (λ g. get_or-transpose 0 (transpose 0 cols) r g ∙ get_or-transpose 0 cols g r)

-- ---- lists of four
pub four-sum : (xs : List ℕ) → length xs ≡ 4 → xs ! 0 + xs ! 1 + xs ! 2 + xs ! 3 ≡ sum xs
unfolding sum
four-sum xs p = sym (ap sum (four_is 0 xs p) ∙ omega arith)

-- four columns of four as rows
pub turned : (a b c d : List ℕ) → length a ≡ 4 → length b ≡ 4 → length c ≡ 4 → length d ≡ 4
    → (a ! 0 ∷ b ! 0 ∷ c ! 0 ∷ d ! 0 ∷ []) ∷ (a ! 1 ∷ b ! 1 ∷ c ! 1 ∷ d ! 1 ∷ []) ∷ (a ! 2 ∷ b ! 2 ∷ c ! 2 ∷ d ! 2 ∷ []) ∷ (a ! 3 ∷ b ! 3 ∷ c ! 3 ∷ d ! 3 ∷ []) ∷ []
    ≡ transpose 0 (a ∷ b ∷ c ∷ d ∷ [])
unfolding transpose rowwise
turned a b c d p q r s = sym (rw (four_is 0 a p, four_is 0 b q, four_is 0 c r, four_is 0 d s))

-- ---- the step as the code takes it: four needs, each shared over what is left after those before
module _ {rule : Rule} (L : Lawful rule) where
  abbrev pub after1 : List ℕ → List ℕ → List ℕ
  after1 left need = left ⊖ rule (need ! 0) left

  abbrev pub after2 : List ℕ → List ℕ → List ℕ
  after2 left need = after1 left need ⊖ rule (need ! 1) (after1 left need)

  abbrev pub after3 : List ℕ → List ℕ → List ℕ
  after3 left need = after2 left need ⊖ rule (need ! 2) (after2 left need)

  -- each need is no more than what is then left
  pub record Enough (left need : List ℕ) : Type 0 where
    pub first : need ! 0 ≤ sum left
    pub second : need ! 1 ≤ sum (after1 left need)
    pub third : need ! 2 ≤ sum (after2 left need)
    pub fourth : need ! 3 ≤ sum (after3 left need)
    pub fewer1 : sum (after1 left need) ≤ sum left
    pub fewer2 : sum (after2 left need) ≤ sum left
    pub fewer3 : sum (after3 left need) ≤ sum left

  pub enough : (left need : List ℕ) → length need ≡ 4 → sum need ≤ sum left → Enough left need
  enough left need e h =
      let s = four-sum need e in
      let a = fallen L (need ! 0) left (omega arith) in
      let b = fallen L (need ! 1) (after1 left need) (omega arith) in
      let c = fallen L (need ! 2) (after2 left need) (omega arith) in
      omega arith

  pub four_needs : (left need : List ℕ) → length need ≡ 4
      → transpose 0 (rule (need ! 0) left ∷ rule (need ! 1) (after1 left need) ∷ rule (need ! 2) (after2 left need) ∷ rule (need ! 3) (after3 left need) ∷ [])
      ≡ transfer rule left need
  unfolding transfer serve
  four_needs left need e = sym (ap (λ n. transpose 0 (serve rule left n)) (four_is 0 need e))

pub transfers : Transfers
transfers = record { served = λ rule L left need h. served L left need h }

-- the four places of a column
pub ruleset columns = (joined-four)

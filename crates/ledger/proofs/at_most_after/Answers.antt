-- `ledger::at_most_after` meets its contract: no sum of a pair wraps, and the pairs' sums are tested. Assumes nothing.
use mathlib.Core.Path.{◌≡◌, refl, ap, ◌∙◌}
use mathlib.Core.Bool.{Bool, ◌&&◌}
use mathlib.Core.List.{List, [], ◌∷◌}
use Prim.Native.Nat.{ℕ, ◌+◌, ◌^◌, ◌<◌}
use native.Mathlib.Omega.{arith}
use lib.Dec.{leb}
use lib.ListN.{length, get_or}
use Rattle.std.proofs.Common.{rules}
use Rattle.std.specs.List.{zip, list_all}
use Rattle.std.proofs.lemmas.List.{get_or_read}
use Rattle.std.proofs.lemmas.Slice.Zip.{length-zip, get_or-zip}
use Rattle.std.proofs.lemmas.Iterator.{YieldsList-from_slice, YieldsList-from_zip}
use Rattle.std.proofs.lemmas.Iterator.Adapters.{serves_from_places}
use Rattle.std.proofs.lemmas.Iterator.Search.{all_from_yields_List}
use Rattle.lists.specs.Lists.{most, Within, every, at_most}
use Rattle.lists.specs.Columns.{rowwise, ◌⊕◌}
use Rattle.ledger.specs.Ledger.{kwh_bound}
use Rattle.ledger.proofs.at_most_after.Goals as goal

pair_fits : (xs ys : List ℕ) → Within xs kwh_bound → Within ys most → (a b k : ℕ) → k < length (zip xs ys) → (a, b) ≡ get_or (zip xs ys) k (a, b) → a + b < 2 ^ 64
pair_fits xs ys w v a b k h e =
    let n = length-zip xs ys in
    let at = e ∙ get_or-zip xs ys k (a, b) (omega arith) (omega arith) in
    omega (arith, get_or_read xs k a (omega arith) (ap (λ (p : ℕ × ℕ). p.0) at) 0, get_or_read ys k b (omega arith) (ap (λ (p : ℕ × ℕ). p.1) at) 0, w.at k, v.at k)

pairs_tested : (bound : ℕ) (xs ys : List ℕ) → length xs ≡ length ys → list_all (λ (p : ℕ × ℕ). leb (p.0 + p.1) bound) (zip xs ys) ≡ at_most bound (xs ⊕ ys)
unfolding at_most every rowwise
pairs_tested bound [] [] h = refl
pairs_tested bound [] (y ∷ ys) h = absurd (omega arith)
pairs_tested bound (x ∷ xs) [] h = absurd (omega arith)
pairs_tested bound (x ∷ xs) (y ∷ ys) h = ap (λ (b : Bool). leb (x + y) bound && b) (pairs_tested bound xs ys (omega arith))

pub all-requires-clause-callable : goal.all-requires-clause-callable
all-requires-clause-callable c =
    let s = c.args in
    serves_from_places (YieldsList-from_zip (YieldsList-from_slice s.figures.now (cc)) (YieldsList-from_slice s.more.now (cc))) (λ x q p. search rules)
    (λ x k h e. let f = pair_fits s.figures.now s.more.now c.requires.ledger c.requires.hour x.0.now x.1.now k h e in search rules)

pub returns : goal.returns
returns c =
    let s = c.args in
    all_from_yields_List (λ (p : ℕ × ℕ). leb (p.0 + p.1) s.bound) c.all.new.self _ c.all.result c.all.ensures.ran
    (YieldsList-from_zip (YieldsList-from_slice s.figures.now (cc)) (YieldsList-from_slice s.more.now (cc))) (λ x b q p. search rules)
    ∙ pairs_tested s.bound s.figures.now s.more.now c.requires.same

-- `transfer::are_apart` meets its contract: of each pair one is 0, and so is the smaller. Assumes nothing.
use Rattle.std.proofs.Common.{◌∙◌, ◌||◌, eqb, rules}
use borrow.Author.Tests.{tests}
use Rattle.std.proofs.lemmas.Iterator.{YieldsList-from_slice, YieldsList-from_zip}
use Rattle.std.proofs.lemmas.Iterator.Search.{all_from_yields_List}
use native.Mathlib.Omega.{arith}
use Rattle.transfer.proofs.Asked.{pairs_apart}
use Rattle.transfer.proofs.are_apart.Goals as goal

pub returns : goal.returns
returns c =
    all_from_yields_List (λ p. eqb p.0 0 || eqb p.1 0) c.all.new.self _ c.all.result c.all.ensures.ran
    (YieldsList-from_zip (YieldsList-from_slice c.args.left cc) (YieldsList-from_slice c.args.need cc)) (λ x b q k. search (rules, tests))
    ∙ pairs_apart _ _ (omega (arith, c.well_formed.0.1.0.1, c.well_formed.1.0.1.0.1))

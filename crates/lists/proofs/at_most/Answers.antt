-- `lists::at_most` meets its contract: std's word for what the chain answers, and then ours. Assumes nothing.
use Rattle.std.proofs.Common.{◌∙◌, leb, rules}
use borrow.Author.Tests.{tests}
use Rattle.std.proofs.lemmas.Iterator.{YieldsList-from_slice}
use Rattle.std.proofs.lemmas.Iterator.Search.{all_from_yields_List}
use Rattle.lists.proofs.Questions.{all_at_most}
use Rattle.lists.proofs.at_most.Goals as goal

pub returns : goal.returns
returns c =
    all_from_yields_List (λ x. leb x c.args.bound) _ _ c.all.result c.all.ensures.ran (YieldsList-from_slice c.args.figures.now cc) (λ x b q k. search (rules, tests))
    ∙ all_at_most _ _

-- `fields::to_comma` meets its contract. Assumes nothing.
use mathlib.Core.Path.{◌≡◌, sym, ◌∙◌}
use mathlib.Core.Logic.{◌≢◌}
use borrow.Author.Tests.{tests}
use Rattle.std.proofs.Common.{rules}
use Rattle.std.proofs.lemmas.Iterator.{IsFirst-from_position, YieldsList-from_slice, index_from_first}
use Rattle.lines.specs.Fields.{to_comma}
use Rattle.lines.proofs.Commas.{comma_none, comma_hit, comma_miss}
use Rattle.lines.proofs.fields.to_comma.Goals as goal

pub returns : goal.returns
returns c =
    let bs = c.args.bytes.now in
    c.unwrap_or.ensures
    ∙ sym (index_from_first to_comma (λ b. b ≡ 44) (λ b. b ≢ 44) comma_none comma_hit comma_miss bs c.position.result
    (IsFirst-from_position _ _ _ (λ b. b ≡ 44) (λ b. b ≢ 44) c.position.ensures.ran (YieldsList-from_slice bs cc) (λ b f k. search (rules, tests)) (λ b f k. search (rules, tests))))

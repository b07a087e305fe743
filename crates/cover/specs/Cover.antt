-- Document 01, 'One hour', steps 4 to 6, and step 7 again: what the four submarkets have meets what the plants want. Assumes nothing.
use Rattle.std.specs.Prelude.{ℕ, List, [], map}
use Rattle.lists.specs.Lists.{sum}
use Rattle.lists.specs.Columns.{◌⊕◌, ◌⊖◌, ◌⊓◌, within, at, totals}
use Rattle.sharing.specs.Sharing.{Rule}
use Rattle.transfer.specs.Transfer.{serve, transfer}
use Rattle.blocks.specs.Portion.{portion}

-- Cover: have = U and want = d. Secondary energy: have = V and want = r
module _ (rule : Rule) (subs have want : List ℕ) where
  -- Step 4: own cover c of each submarket, and of each plant
  unfoldable pub own : List ℕ
  own = have ⊓ totals subs want

  unfoldable pub own_parts : List ℕ
  own_parts = portion rule subs own want

  -- Step 5: the transfer table of what is left and of the open needs
  unfoldable pub table : List (List ℕ)
  table = transfer rule (have ⊖ own) (totals subs want ⊖ own)

  -- Step 6: givers in order 1 to 4; what each plant got from each
  unfoldable pub got : List (List ℕ)
  got = serve (portion rule subs) (want ⊖ own_parts) table

  -- Step 7's V: what is left to a submarket after step 5
  unfoldable pub rest : List ℕ
  rest = have ⊖ own ⊖ map sum table

  -- Step 8's figures in submarket s, of one table: its own plants their own part, the others what they got from it
  unfoldable pub supplied : ℕ → List ℕ
  supplied s = within s subs own_parts ⊕ at s got []

-- `transfer::transfer` meets its contract: the step is taken where its question was answered yes. Assumes nothing.
use native.Mathlib.Omega.{arith}
use borrow.Author.Rules.{rules}
use Rattle.lists.proofs.Questions.{sum-hours}
use Rattle.transfer.proofs.Asked.{transferable}
use Rattle.transfer.proofs.transfer.Goals as goal

pub transfer_step-requires : goal.transfer_step-requires
transfer_step-requires c = let t = transferable c.args.left c.args.need (search rules) in
    (omega (arith, sum-hours _ (omega (arith, c.well_formed.0.1.0.1)) t.left_hourly), t.enough)

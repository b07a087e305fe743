-- `Month::ask_inputs` meets its contract: 12 to 13 answered yes tell of P and of the profile's length. Assumes nothing.
use mathlib.Core.Path.{sym}
use Rattle.month.proofs.Asked.{own}
use Rattle.month.proofs.Month.ask_inputs.Goals as goal

pub ask_metered-requires : goal.ask_metered-requires
ask_metered-requires c = let o = own _ _ _ (sym c.in_ok-ask_own.ensures) in (o.sizes.plants, o.figures)

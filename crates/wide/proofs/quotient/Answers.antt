-- `wide::quotient` meets its contract: above three digits t has nothing. Assumes nothing.
use Rattle.wide.proofs.Step.{nothing, past_three}
use Rattle.wide.proofs.quotient.Goals as goal

pub next_digit-first-requires-clause-quot_value : goal.next_digit-first-requires-clause-quot_value
next_digit-first-requires-clause-quot_value g c =
    rw (c.RADIX.ensures, c.RADIX-2.ensures) (nothing _ _ _ (past_three g.D.Divisor.RADIX g.met.D.Divisor.three_digits c.args.t c.ranges.t.fits))

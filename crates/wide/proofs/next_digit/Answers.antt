-- `wide::next_digit` meets its contract: by the law of one step. Assumes nothing.
use native.Mathlib.Omega.{arith}
use Rattle.wide.proofs.Step.{Step, step}
use Rattle.wide.proofs.next_digit.Given.{Over}
use Rattle.wide.proofs.next_digit.Goals as goal
use Rattle.wide.proofs.next_digit.Goals.{Start}

known : (g : Over) (c : Start g) → let a = c.args in Step a.t a.c (g.D.Divisor.number a.divisor) g.D.Divisor.RADIX a.high.quot a.high.rest
known g c = let a = c.args in
    let p = c.requires in
    step a.t a.c (g.D.Divisor.number a.divisor) g.D.Divisor.RADIX a.high.quot a.high.rest c.ranges.t.fits p.c_le_w (g.met.D.Divisor.above a.divisor)
    p.quot_value.0 p.quot_value.1

pub overflow_mul-result : goal.overflow_mul-result
overflow_mul-result g c = let k = (known g (goal.at.overflow_mul-result g c).Start).fits in record { fits = rw c.RADIX-2.ensures (omega arith) }

pub overflow_add-result : goal.overflow_add-result
overflow_add-result g c = record { fits = rw (c.RADIX-2.ensures, c.next-last.ensures.0, c.RADIX.ensures) (known g (goal.at.overflow_add-result g c).Start).fits }

pub returns : goal.returns
returns g c = let k = known g (goal.at.returns g c).Start in
    (rw (c.RADIX-2.ensures, c.next-last.ensures.0, c.RADIX.ensures) k.quotient, rw (c.next-last.ensures.1, c.RADIX.ensures) k.rest)

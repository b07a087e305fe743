-- No refusal has the number 0, so an answer of a part of the questions is that of the whole list where it is a no. `using(refusals::proofs::Asking::asking)`
-- on a function that asks by `?`, with `unfolding` of its number and of `first_no`, leaves no goal. Assumes nothing.
use Rattle.std.proofs.Common.{◌≡◌, ℕ, sym, arith}
use Rattle.lists.specs.Questions.{◌then◌}
use Rattle.lists.proofs.Questions.{then_no}
use Rattle.refusals.specs.declared.Refusal.{Refusal}
use Rattle.refusals.specs.declared.Refusal.TheVariants.{AlreadyOpen, PlantCount, PeriodCount, Tariff, Submarket, PlantNumber, Guarantee, Factor, ProfileFigure, ProfileSum, LedgerLength, NotOpen, LentTables, PeriodDue, MeteredCount, MeteredFigure, MeteredSum, AllotmentLength, LedgerBound, PeriodsLeft, Blank, TextRoom, Transfer, Weights, NoWeight, LineLength, LineStart, FieldCount, NotFigure, ListLength, OutOfTurn}
use Rattle.refusals.specs.Numbers.{refusal_number}

pub refused_number : (r : Refusal) → refusal_number r ≡ 0 → ⊥
refused_number AlreadyOpen e = omega arith
refused_number PlantCount e = omega arith
refused_number PeriodCount e = omega arith
refused_number Tariff e = omega arith
refused_number Submarket e = omega arith
refused_number PlantNumber e = omega arith
refused_number Guarantee e = omega arith
refused_number Factor e = omega arith
refused_number ProfileFigure e = omega arith
refused_number ProfileSum e = omega arith
refused_number LedgerLength e = omega arith
refused_number NotOpen e = omega arith
refused_number LentTables e = omega arith
refused_number PeriodDue e = omega arith
refused_number MeteredCount e = omega arith
refused_number MeteredFigure e = omega arith
refused_number MeteredSum e = omega arith
refused_number AllotmentLength e = omega arith
refused_number LedgerBound e = omega arith
refused_number PeriodsLeft e = omega arith
refused_number Blank e = omega arith
refused_number TextRoom e = omega arith
refused_number Transfer e = omega arith
refused_number Weights e = omega arith
refused_number NoWeight e = omega arith
refused_number LineLength e = omega arith
refused_number LineStart e = omega arith
refused_number FieldCount e = omega arith
refused_number NotFigure e = omega arith
refused_number ListLength e = omega arith
refused_number OutOfTurn e = omega arith

pub part_passed : (n m : ℕ) → n ≡ 0 → n then m ≡ m
unfolding ◌then◌
part_passed n m e = rw e

pub part_refused : (r : Refusal) (n m : ℕ) → refusal_number r ≡ n → refusal_number r ≡ n then m
part_refused r n m e = then_no (refusal_number r) n m e (λ z. refused_number r z)

pub part_halted : (n m : ℕ) (r : Refusal) → n ≡ refusal_number r → n then m ≡ refusal_number r
part_halted n m r e = sym (part_refused r n m (sym e))

pub ruleset asking = (part_passed, part_refused, part_halted)

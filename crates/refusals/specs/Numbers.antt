-- The fixed number of each refusal, and the number that an answer has: 0 with every question answered yes. Assumes nothing.
use Rattle.std.specs.Prelude.{ℕ, Result, Ok, Err}
use Rattle.refusals.specs.declared.Refusal.{Refusal}
use Rattle.refusals.specs.declared.Refusal.TheVariants.{AlreadyOpen, PlantCount, PeriodCount, Tariff, Submarket, PlantNumber, Guarantee, Factor, ProfileFigure, ProfileSum, LedgerLength, NotOpen, LentTables, PeriodDue, MeteredCount, MeteredFigure, MeteredSum, AllotmentLength, LedgerBound, PeriodsLeft, Blank, TextRoom, Transfer, Weights, NoWeight, LineLength, LineStart, FieldCount, NotFigure, ListLength, OutOfTurn}

abbrev pub refusal_number : Refusal → ℕ
refusal_number AlreadyOpen = 1
refusal_number PlantCount = 2
refusal_number PeriodCount = 3
refusal_number Tariff = 4
refusal_number Submarket = 5
refusal_number PlantNumber = 6
refusal_number Guarantee = 7
refusal_number Factor = 8
refusal_number ProfileFigure = 9
refusal_number ProfileSum = 10
refusal_number LedgerLength = 11
refusal_number NotOpen = 12
refusal_number LentTables = 13
refusal_number PeriodDue = 14
refusal_number MeteredCount = 15
refusal_number MeteredFigure = 16
refusal_number MeteredSum = 17
refusal_number AllotmentLength = 18
refusal_number LedgerBound = 19
refusal_number PeriodsLeft = 20
refusal_number Blank = 21
refusal_number TextRoom = 22
refusal_number Transfer = 23
refusal_number Weights = 24
refusal_number NoWeight = 25
refusal_number LineLength = 26
refusal_number LineStart = 27
refusal_number FieldCount = 28
refusal_number NotFigure = 29
refusal_number ListLength = 30
refusal_number OutOfTurn = 31

abbrev pub number : {A : Type 0} → Result A Refusal → ℕ
number (Ok a) = 0
number (Err r) = refusal_number r

-- the number of a call's answer, and its figures; beside a refusal these zeros
unfoldable pub told : {A : Type 0} → Result A Refusal → A → ℕ × A
told (Ok a) zeros = (0, a)
told (Err r) zeros = (refusal_number r, zeros)

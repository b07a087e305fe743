-- The promises of specs/Laws. Assumes nothing.
use Rattle.lines.specs.Laws.{Promised}
use Rattle.lines.proofs.Back.{meter_back}
use Rattle.lines.proofs.Commas.{next_low, next-high, none_before, comma-there}

pub promised : Promised
promised =
    record {
      inside = λ l i h. (next_low l i, next-high l i h);
      none_before = none_before;
      comma = comma-there;
      meter_back = meter_back;
    }

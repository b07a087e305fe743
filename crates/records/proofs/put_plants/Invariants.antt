use Rattle.std.proofs.Common.{◌≡◌, drop}
use Rattle.records.specs.Records.{put_rows}
use Rattle.records.proofs.put_plants.Given as goal

abbrev pub invariant-loop-i : goal.invariant-loop-i
invariant-loop-i l = put_rows l.columns l.i (drop l.i l.plants) ≡ put_rows l.initial.columns 0 l.plants

-- A divisor's head. Assumes nothing.
use Rattle.std.specs.Prelude.{ℕ, ◌*◌, ◌^◌, ◌≤◌, ◌<◌}

-- w has 32 bits before its last `cut` bits.
pub record Headed (w cut : ℕ) : Type 0 where
  pub few : cut ≤ 30
  pub least : 2 ^ 31 * 2 ^ cut ≤ w
  pub below : w < 2 ^ 32 * 2 ^ cut
  pub bound : w < 2 ^ 62

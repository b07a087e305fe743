-- What 'Sharing' promises of a rule. The hour leans on a rule through these laws alone. Assumes nothing.
use Rattle.std.specs.Prelude.{◌≡◌, ◌⊎◌, List, ◌++◌, ℕ, suc, ◌≤◌, ◌<◌, length, get_or, take, replicate}
use Rattle.lists.specs.Lists.{sum}
use Rattle.sharing.specs.Sharing.{Rule, part_between, share}

-- A rule whose parts are as 'Sharing' promises
pub record Lawful (rule : Rule) : Type 0 where
  -- a part for each weight
  pub sized : (t : ℕ) (ws : List ℕ) → length (rule t ws) ≡ length ws
  -- 'The parts add up to T'
  pub adds : (t : ℕ) (ws : List ℕ) → (t ≡ 0) ⊎ (0 < sum ws) → sum (rule t ws) ≡ t
  -- 'when T is at most W, no part exceeds its weight'
  pub bounded : (t : ℕ) (ws : List ℕ) → t ≤ sum ws → (i : ℕ) → get_or (rule t ws) i 0 ≤ get_or ws i 0
  -- no part without weight
  pub idle : (t : ℕ) (ws : List ℕ) → (t ≡ 0) ⊎ (0 < sum ws) → (i : ℕ) → get_or ws i 0 ≡ 0 → get_or (rule t ws) i 0 ≡ 0
  -- weights of zero before and behind change no other part
  pub alone : (t m n : ℕ) (ws : List ℕ) → t ≤ sum ws
      → rule t (replicate m 0 ++ (ws ++ replicate n 0)) ≡ replicate m 0 ++ (rule t ws ++ replicate n 0)
  -- 'T = 0 gives zeros'
  pub nothing : (ws : List ℕ) → rule 0 ws ≡ replicate (length ws) 0

-- the rule of running totals is lawful, and its parts are those of the paper
pub record Promised : Type 0 where
  pub lawful : Lawful share
  pub part : (t : ℕ) (ws : List ℕ) (i : ℕ) → i < length ws
      → get_or (share t ws) i 0 ≡ part_between t (sum ws) (sum (take i ws)) (sum (take (suc i) ws))

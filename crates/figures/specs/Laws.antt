-- What is promised of figures. Assumes nothing.
use Rattle.std.specs.Prelude.{◌≡◌, true, List, ℕ, suc, ◌≤◌, ◌<◌, ◌^◌, ℤ, nat_abs}
use Rattle.figures.specs.Figures.{figure, figure_length, signed_figure_length, value, is_figure}

-- A written figure reads back as itself, one number has one text, and how many bytes it takes
pub record Promised : Type 0 where
  -- reading a written figure gives the figure
  pub back : (x : ℕ) → value (figure x) ≡ x
  -- a written figure of up to 19 digits passes question 29
  pub readable : (x : ℕ) → x < 10 ^ 19 → is_figure (figure x) ≡ true
  -- and what passes it is what would be written: one number has one text
  pub only : (bytes : List ℕ) → is_figure bytes ≡ true → figure (value bytes) ≡ bytes
  -- how many bytes a figure takes
  pub some : (x : ℕ) → 1 ≤ figure_length x
  pub short : (k x : ℕ) → x < 10 ^ suc k → figure_length x ≤ suc k
  pub short_signed : (k : ℕ) (z : ℤ) → nat_abs z < 10 ^ suc k → signed_figure_length z ≤ suc (suc k)

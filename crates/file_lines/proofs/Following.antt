-- Lines, one after another. Assumes nothing.
use mathlib.Core.Path.{◌≡◌, refl, sym}
use mathlib.Core.Bool.{true, false, false≢true}
use mathlib.Core.List.{List, [], ◌∷◌}
use Prim.Native.Nat.{ℕ, ◌+◌}
use Rattle.file_lines.specs.File.{FileLine, Progress, begins, gathers, settles, refuses, read, next, refusal, printed, following}
use Rattle.file_lines.specs.State.{is_refused}

-- after a refusal nothing is read
pub stays : (k j n : ℕ) (ls : List FileLine) → following k (refuses j n) ls ≡ refusal j n
unfolding following next printed
stays k j n [] = refl
stays k j n (l ∷ ls) = stays (k + 1) j n ls

-- what is refused was refused by a line and a number
pub refused_is : (p : Progress) → is_refused p ≡ true → (j : ℕ) × (n : ℕ) × (p ≡ refuses j n)
unfolding is_refused
refused_is begins e = absurd (false≢true e)
refused_is (gathers s plants profile) e = absurd (false≢true e)
refused_is (settles plants profile m l) e = absurd (false≢true e)
refused_is (refuses j n) e = (j, n, refl)

-- before a refusal each line is read
pub reads : (k : ℕ) (p : Progress) (l : FileLine) → is_refused p ≡ false → next k p l ≡ read k p l
unfolding is_refused next
reads k begins l e = refl
reads k (gathers s plants profile) l e = refl
reads k (settles plants profile m g) l e = refl
reads k (refuses j n) l e = absurd (false≢true (sym e))

-- A part of the questions that ends the list, and a question of a sum that `sum_of` cuts at 2^62. Assumes nothing.
use mathlib.Core.Path.{◌≡◌, refl, sym, ◌∙◌}
use mathlib.Core.Logic.{by_cases}
use Prim.Native.Nat.{ℕ, zero, suc, ◌^◌, min}
use native.Mathlib.Decide.{dec_lt}
use native.Mathlib.Omega.{arith}
use lib.Dec.{ltb}
use borrow.Author.Tests.{lt-ltb}
use Rattle.lists.specs.Questions.{◌then◌}

pub part_last : (n : ℕ) → n then 0 ≡ n
unfolding ◌then◌
part_last zero = refl
part_last (suc n) = refl

pub some_cut : (n : ℕ) → ltb 0 (min (2 ^ 62) n) ≡ ltb 0 n
some_cut n = by_cases (dec_lt 0 n) (λ h. lt-ltb 0 (min (2 ^ 62) n) (omega arith) ∙ sym (lt-ltb 0 n h)) (λ h. let z : n ≡ 0 = omega arith in rw z)

pub ruleset last = (part_last, some_cut)

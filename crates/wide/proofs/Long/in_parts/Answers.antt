-- `wide::Long::in_parts` meets its contract: c, and then the product with its last bits, are cut at 2 ^ cut. Assumes nothing.
use mathlib.Core.Path.{◌≡◌, sym, ap, ◌∙◌}
use Prim.Native.Nat.{ℕ, ◌+◌, ◌-◌, ◌*◌, ◌/◌, ◌%◌, ◌^◌, ◌≤◌, ◌<◌}
use native.Mathlib.Nat.{div-add-mod', mod-lt, mul-le-mul_right, lt_of_mul-lt-mul_right, sub-add_cancel}
use native.Mathlib.Omega.{arith}
use lib.Pow.{pow_pos, pow-add, pow_mono}
use Rattle.wide.specs.Head.{Headed}
use Rattle.wide.proofs.Step.{room}
use Rattle.wide.proofs.Long.in_parts.Goals as goal
use Rattle.wide.proofs.Long.in_parts.Goals.{After-upper-2, Start}

-- the high part, where the radix is lift * cut
unfoldable main : (r d c lift cut : ℕ) → ℕ
main r d c lift cut = r * lift + d * (c / cut) + d * (c % cut) / cut

record Cut (r d c radix lift cut : ℕ) : Type 0 where
  fits : main r d c lift cut < 2 ^ 64
  whole : main r d c lift cut * cut + d * (c % cut) % cut ≡ r * radix + d * c

cut_at : (r d c radix lift cut : ℕ) → lift * cut ≡ radix → 0 < cut → d * cut < 2 ^ 64 → r * radix + d * c < 2 ^ 64 * cut → Cut r d c radix lift cut
unfolding main
cut_at r d c radix lift cut is-radix pos digit below =
    let whole : main r d c lift cut * cut + d * (c % cut) % cut ≡ r * radix + d * c
    = rw (← is-radix) (omega (arith, div-add-mod' (d * (c % cut)) cut, ap (λ (x : ℕ). d * x) (div-add-mod' c cut))) in
    record {
      fits = lt_of_mul-lt-mul_right cut {m = main r d c lift cut} {n = 2 ^ 64} (omega arith);
      whole = whole;
    }

-- a digit times 2 ^ cut, and the number that the step divides, have room
digit_room : (d cut : ℕ) → cut ≤ 30 → d < 2 ^ 31 → d * 2 ^ cut < 2 ^ 64
digit_room d cut small below = omega (arith, pow_pos cut, pow_mono small, mul-le-mul_right (2 ^ cut) below)

sum_room : (n w cut : ℕ) → Headed w cut → n < 2 * w * 2 ^ 31 → n < 2 ^ 64 * 2 ^ cut
sum_room n w cut h below = omega arith

known : (c : Start) → let a = c.args in Cut a.rest a.digit a.c (2 ^ 31) (2 ^ (31 - a.self.cut)) (2 ^ a.self.cut)
known c =
    let a = c.args in
    let p = c.requires in
    let h = a.self.headed in
    let radix : 2 ^ (31 - a.self.cut) * 2 ^ a.self.cut ≡ 2 ^ 31
    = sym (pow-add 2 (31 - a.self.cut) a.self.cut) ∙ ap (λ (x : ℕ). 2 ^ x) (sub-add_cancel {n = 31} {m = a.self.cut} (omega (arith, h.few))) in
    cut_at a.rest a.digit a.c (2 ^ 31) (2 ^ (31 - a.self.cut)) (2 ^ a.self.cut) radix (pow_pos a.self.cut) (digit_room a.digit a.self.cut h.few p.2)
    (sum_room _ a.self.w a.self.cut h (room p.1 p.2 p.0))

is-main : (c : After-upper-2) → let a = c.args in
    c.raised.result + a.digit * c.upper.result + c.upper-2.result ≡ main a.rest a.digit a.c (2 ^ (31 - a.self.cut)) (2 ^ a.self.cut)
unfolding main
is-main c = rw (c.upper-2.ensures, c.raised.ensures, c.upper.ensures, c.lower.ensures)

pub raised-requires : goal.raised-requires
unfolding main
raised-requires c = let k = known (goal.at.raised-requires c).Start in (omega arith, omega arith)

pub overflow_add-result : goal.overflow_add-result
unfolding main
overflow_add-result c = let k = known (goal.at.overflow_add-result c).Start in record { fits = rw (c.raised.ensures, c.upper.ensures) (omega arith) }

pub overflow_add-result-2 : goal.overflow_add-result-2
overflow_add-result-2 c = record { fits = rw (is-main c) (known (goal.at.overflow_add-result-2 c).Start).fits }

pub returns : goal.returns
returns c = let last = rw c.lower.ensures at c.lower-2.ensures in
    (rw last (mod-lt _ (pow_pos c.args.self.cut)), rw (is-main (goal.at.returns c).After-upper-2, last) (known (goal.at.returns c).Start).whole)

-- Laws of text written part by part: what is left to write. Assumes nothing.
use mathlib.Core.Path.{◌≡◌, refl, sym, ap, subst, ◌∙◌}
use mathlib.Core.List.{List, [], ◌++◌}
use Prim.Native.Nat.{ℕ, ◌+◌, ◌≤◌}
use native.Mathlib.Nat.{add-zero, zero-add}
use native.Mathlib.Omega.{arith}
use lib.ListN.{length, drop, length-append, take-append-drop}
use Rattle.figures.specs.Figures.{written, Wrote}
use Rattle.figures.proofs.Written.{written_next, length-written}
use Rattle.statement.specs.Writing.{Room, Fills}

-- of the bytes to be written from at₀ on, `rest` is left to write, from `at` on
pub record Left (bytes : List ℕ) (at₀ : ℕ) (text₀ : List ℕ) (at : ℕ) (text rest : List ℕ) : Type 0 where
  pub place : at + length rest ≡ at₀ + length bytes
  pub room : at₀ + length bytes ≤ length text₀
  pub same : length text ≡ length text₀
  pub whole : written text at rest ≡ written text₀ at₀ bytes

module _ {bytes : List ℕ} {at₀ : ℕ} {text₀ : List ℕ} where
  -- where nothing is written yet
  pub left_all : Room bytes at₀ text₀ → Left bytes at₀ text₀ at₀ text₀ bytes
  left_all h = record { place = refl; room = h.fits; same = refl; whole = refl }

  pub left-whole : {xs : List ℕ} → Room bytes at₀ text₀ → bytes ≡ xs → Left bytes at₀ text₀ at₀ text₀ xs
  left-whole {xs} h e = subst (Left bytes at₀ text₀ at₀ text₀) e (left_all h)

  module _ {at : ℕ} {text rest : List ℕ} (k : Left bytes at₀ text₀ at text rest) where
    -- the next part has room
    pub left-room : (xs more : List ℕ) → rest ≡ xs ++ more → Room xs at text
    left-room xs more e = record { fits = omega (arith, k.place, k.room, k.same, ap length e, length-append xs more) }

    -- the next part is written
    pub left-more : (xs more : List ℕ) {r : ℕ} {text' : List ℕ} → rest ≡ xs ++ more → Wrote xs at text text' r → Left bytes at₀ text₀ r text' more
    left-more xs more {r} {text'} e w =
        let long : length rest ≡ length xs + length more = ap length e ∙ length-append xs more in
        record {
          place = omega (arith, k.place, w.behind);
          room = k.room;
          same = ap length w.text ∙ length-written text at xs (left-room xs more e).fits ∙ k.same;
          whole = rw (w.behind, w.text) (written_next text at xs more (omega (arith, k.place, k.room, k.same)) ∙ ap (written text at) (sym e) ∙ k.whole);
        }

    -- the last part has room, and is written
    pub left-fits : {xs : List ℕ} → rest ≡ xs → Room xs at text
    left-fits e = record { fits = omega (arith, k.place, k.room, k.same, ap length e) }

    pub left-last : {xs : List ℕ} {r : ℕ} {text' : List ℕ} → rest ≡ xs → Wrote xs at text text' r → Wrote bytes at₀ text₀ text' r
    left-last e w = record { behind = w.behind ∙ ap (λ (l : List ℕ). at + length l) (sym e) ∙ k.place; text = w.text ∙ ap (written text at) (sym e) ∙ k.whole }

    -- nothing is left
    pub left-none : rest ≡ [] → Wrote bytes at₀ text₀ text at
    unfolding written
    left-none e =
        record {
          behind = omega (arith, k.place, ap length e);
          text = sym (ap (written text at) e ∙ rw add-zero (take-append-drop at text)) ∙ k.whole;
        }

-- written from the first byte on
pub fills : {bytes before : List ℕ} {r : ℕ} {after : List ℕ} → Wrote bytes 0 before after r → Fills bytes before r after
unfolding written
fills {bytes} {before} w = record { size = w.behind ∙ zero-add (length bytes); text = w.text ∙ ap (λ (n : ℕ). bytes ++ drop n before) (zero-add (length bytes)) }

-- Bytes written to a place of a lent text. Assumes nothing.
use Rattle.std.specs.Prelude.{◌≡◌, true, List, ◌∷◌, ◌++◌, map, ℕ, ◌+◌, ◌*◌, ◌≤◌, ℤ, length, drop}
use Rattle.figures.specs.Figures.{figure, commas_before}
use Rattle.plants.specs.declared.Plant.{Plant}
use Rattle.ledger.specs.Ledger.{Ledger, allotted_width, accounts_width, in_bounds}

-- figures, each with a comma before it
unfoldable pub fields_text : List ℕ → List ℕ
fields_text xs = commas_before (map figure xs)

-- how A, T and R lines begin: a letter, two figures, and a list of figures
unfoldable pub leading : ℕ → ℕ → ℕ → List ℕ → List ℕ
leading letter x y figures = letter ∷ fields_text (x ∷ y ∷ figures)

-- four figures, a net and money for each row
pub record Even (plants : List Plant) (allotted : List ℕ) (accounts : List ℤ) : Type 0 where
  pub figures : length allotted ≡ allotted_width * length plants
  pub nets : length accounts ≡ accounts_width * length plants

-- what the inner forms ask: lists of those lengths, at most 512 rows (2), every ledger figure inside its bound (19)
pub record Stateable (plants : List Plant) (l : Ledger) : Type 0 where
  pub even : Even plants l.allotted l.accounts
  pub few : length plants ≤ 512
  pub bounded : in_bounds l ≡ true

-- the text has room for the bytes from `at` on
pub record Room (bytes : List ℕ) (at : ℕ) (text : List ℕ) : Type 0 where
  pub fits : at + length bytes ≤ length text

-- 'The statement fills the front of the lent bytes and answers its length; the rest stays'
pub record Fills (statement : List ℕ) (before : List ℕ) (answer : ℕ) (after : List ℕ) : Type 0 where
  pub size : answer ≡ length statement
  pub text : after ≡ statement ++ drop (length statement) before

-- Laws of the statement's text: its lines field by field, and how long they are. Assumes nothing.
use mathlib.Core.Path.{◌≡◌, refl, sym, ap, ap₂, ◌∙◌}
use mathlib.Core.List.{List, [], ◌∷◌, ◌++◌, map, append_assoc}
use Prim.Native.Nat.{ℕ, ◌+◌, ◌-◌, ◌*◌, ◌≤◌, ◌<◌}
use native.Mathlib.Nat.{add-zero}
use native.Mathlib.Omega.{arith}
use lib.IntN.{ℤ, pos}
use lib.ListN.{length, take, drop, get_or, length-append, length-map, drop_of_length-le}
use lib.Seq.{drop-drop, get_or-drop}
use Rattle.lists.specs.Lists.{sum}
use Rattle.lists.specs.Columns.{four}
use Rattle.lists.proofs.Loops.{rest_more, rest-none, drop_more, at_drop}
use Rattle.figures.specs.Figures.{figure, signed_figure, commas_before, by_commas, figure_length, signed_figure_length}
use Rattle.plants.specs.declared.Plant.{Plant}
use Rattle.plants.specs.Plants.{none}
use Rattle.plants.specs.Table.{plants_of}
use Rattle.plants.proofs.Table.{made}
use Rattle.ledger.specs.Ledger.{Ledger, allotted_in}
use Rattle.statement.specs.Statement.{line, plant_line, plant_lines, total_line, statement_text}
use Rattle.statement.specs.Writing.{fields_text, leading}
use Rattle.statement.specs.Lengths.{fields_length, leading_length, plant_line_length, plant_lines_length, total_line_length, statement_length}

-- ---- lines, field by field

-- figures behind a line's letter, and the fields behind them
pub line_is : (letter : ℕ) (xs : List ℕ) (gs : List (List ℕ)) → line ((letter ∷ []) ∷ (map figure xs ++ gs)) ≡ (letter ∷ fields_text xs) ++ (commas_before gs ++ (10 ∷ []))
unfolding line by_commas fields_text commas_before
line_is letter xs gs = ap (λ (l : List ℕ). letter ∷ l) (behind xs)
  where
    behind : (xs : List ℕ) → commas_before (map figure xs ++ gs) ++ (10 ∷ []) ≡ commas_before (map figure xs) ++ (commas_before gs ++ (10 ∷ []))
    behind [] = refl
    behind (x ∷ xs) = ap (λ (l : List ℕ). 44 ∷ l) (append_assoc (figure x) (commas_before (map figure xs ++ gs)) (10 ∷ []) ∙ ap (λ (l : List ℕ). figure x ++ l) (behind xs) ∙ sym (append_assoc (figure x) (commas_before (map figure xs)) (commas_before gs ++ (10 ∷ []))))

-- the fields of the figures from i on
pub fields-more : (xs : List ℕ) (i : ℕ) → i < length xs → fields_text (drop i xs) ≡ (44 ∷ figure (get_or xs i 0)) ++ fields_text (drop (i + 1) xs)
unfolding fields_text commas_before
fields-more xs i h = rest_more fields_text xs i 0 h

pub fields-none : (xs : List ℕ) (i : ℕ) → length xs ≤ i → fields_text (drop i xs) ≡ []
unfolding fields_text commas_before
fields-none xs i h = rest-none fields_text xs i h

-- the parts of an A line, and of the T line
pub plant-line_is : (p : Plant) (figures : List ℕ) (net money : ℤ)
    → plant_line p figures net money ≡ leading 65 p.submarket p.number figures ++ ((44 ∷ signed_figure net) ++ ((44 ∷ signed_figure money) ++ (10 ∷ [])))
unfolding plant_line leading commas_before
plant-line_is p figures net money = line_is 65 (p.submarket ∷ p.number ∷ figures) (signed_figure net ∷ signed_figure money ∷ []) ∙ simp append_assoc

pub total-line_is : (settled plants : ℕ) (columns : List ℕ)
    → total_line settled plants columns ≡ leading 84 settled plants columns ++ ((44 ∷ figure (sum columns)) ++ (10 ∷ []))
unfolding total_line leading commas_before
total-line_is settled plants columns = line_is 84 (settled ∷ plants ∷ columns) (figure (sum columns) ∷ []) ∙ simp append_assoc

-- ---- the A lines, row by row

module _ (ps : List Plant) (al : List ℕ) (ac : List ℤ) where
  -- the lines of the rows from i on
  pub lines_from : ℕ → List ℕ
  lines_from i = plant_lines (drop i ps) (drop (4 * i) al) (drop (2 * i) ac)

  pub lines_all : plant_lines ps al ac ≡ lines_from 0
  unfolding lines_from
  lines_all = refl

  -- the line of row i, as the code lends and reads its figures, and those behind it
  pub lines_more : (i : ℕ) {net money : ℤ} → i < length ps → net ≡ get_or ac (2 * i + 0) (pos 0) → money ≡ get_or ac (2 * i + 1) (pos 0)
      → lines_from i ≡ plant_line (get_or ps i none) (take (4 * (i + 1) - 4 * i) (drop (4 * i) al)) net money ++ lines_from (i + 1)
  unfolding lines_from plant_lines
  lines_more i {net} {money} h e f =
      let four : 4 * i + 4 ≡ 4 * (i + 1) = omega arith in
      let two : 2 * i + 2 ≡ 2 * (i + 1) = omega arith in
      let part : 4 ≡ 4 * (i + 1) - 4 * i = omega arith in
      ap (λ (q : List Plant). plant_lines q (drop (4 * i) al) (drop (2 * i) ac)) (drop_more ps i none h)
      ∙ ap₂ ◌++◌
      (ap₂ (plant_line (get_or ps i none) (take 4 (drop (4 * i) al)))
      (at_drop ac (2 * i) (pos 0) ∙ ap (λ (n : ℕ). get_or ac n (pos 0)) (sym (add-zero (2 * i))) ∙ sym e) (get_or-drop (2 * i) ac 1 (pos 0) ∙ sym f)
      ∙ ap (λ (n : ℕ). plant_line (get_or ps i none) (take n (drop (4 * i) al)) net money) part)
      (ap₂ (plant_lines (drop (i + 1) ps)) (drop-drop 4 (4 * i) al ∙ ap (λ (n : ℕ). drop n al) four) (drop-drop 2 (2 * i) ac ∙ ap (λ (n : ℕ). drop n ac) two))

  pub lines_none : (i : ℕ) → length ps ≤ i → lines_from i ≡ []
  unfolding lines_from plant_lines
  lines_none i h = ap (λ (ps : List Plant). plant_lines ps (drop (4 * i) al) (drop (2 * i) ac)) (drop_of_length-le ps h)

-- only submarkets and numbers are shown
lines-shown : (ps qs : List Plant) (al : List ℕ) (ac : List ℤ) → map (λ (p : Plant). p.submarket) ps ≡ map (λ (p : Plant). p.submarket) qs
    → map (λ (p : Plant). p.number) ps ≡ map (λ (p : Plant). p.number) qs → plant_lines ps al ac ≡ plant_lines qs al ac
unfolding plant_lines plant_line
lines-shown [] [] al ac e f = refl
lines-shown [] (q ∷ qs) al ac e f = absurd (omega (arith, ap length e))
lines-shown (p ∷ ps) [] al ac e f = absurd (omega (arith, ap length e))
lines-shown (p ∷ ps) (q ∷ qs) al ac e f =
    ap₂ ◌++◌
    (ap₂ (λ (s n : ℕ). plant_line (record { submarket = s; number = n; guarantee = 0; loss = 0; availability = 0 }) (take 4 al) (get_or ac 0 (pos 0)) (get_or ac 1 (pos 0)))
    (ap (λ (l : List ℕ). get_or l 0 0) e) (ap (λ (l : List ℕ). get_or l 0 0) f))
    (lines-shown ps qs (drop 4 al) (drop 2 ac) (ap (drop 1) e) (ap (drop 1) f))

pub text-shown : (settled : ℕ) (ps qs : List Plant) (l : Ledger) → map (λ (p : Plant). p.submarket) ps ≡ map (λ (p : Plant). p.submarket) qs
    → map (λ (p : Plant). p.number) ps ≡ map (λ (p : Plant). p.number) qs → statement_text settled ps l ≡ statement_text settled qs l
unfolding statement_text
text-shown settled ps qs l e f =
    ap₂ (λ (a : List ℕ) (n : ℕ). a ++ total_line settled n (four (λ s. sum (allotted_in s l))))
    (lines-shown ps qs l.allotted l.accounts e f)
    (sym (length-map ps (λ (p : Plant). p.submarket)) ∙ (ap length e ∙ length-map qs (λ (p : Plant). p.submarket)))

numbers-columns : (ss ns gs ls vs : List ℕ) → map (λ (p : Plant). p.number) (plants_of ss ns gs ls vs) ≡ map (λ (p : Plant). p.number) (plants_of ss ns [] [] [])
unfolding plants_of
numbers-columns [] ns gs ls vs = refl
numbers-columns (s ∷ ss) ns gs ls vs = ap (λ (l : List ℕ). get_or ns 0 0 ∷ l) (numbers-columns ss (drop 1 ns) (drop 1 gs) (drop 1 ls) (drop 1 vs))

pub text-columns : (settled : ℕ) (ss ns gs ls vs : List ℕ) (l : Ledger) → statement_text settled (plants_of ss ns gs ls vs) l ≡ statement_text settled (plants_of ss ns [] [] []) l
text-columns settled ss ns gs ls vs l =
    text-shown settled (plants_of ss ns gs ls vs) (plants_of ss ns [] [] []) l
    (made.submarkets ss ns gs ls vs ∙ sym (made.submarkets ss ns [] [] []))
    (numbers-columns ss ns gs ls vs)

-- ---- lengths

pub length_fields : (xs : List ℕ) → length (fields_text xs) ≡ fields_length xs
unfolding fields_text commas_before fields_length figure_length
length_fields [] = refl
length_fields (x ∷ xs) = length-append (44 ∷ figure x) (fields_text xs) ∙ omega (arith, length_fields xs)

pub length-leading : (letter x y : ℕ) (xs : List ℕ) → length (leading letter x y xs) ≡ leading_length x y xs
unfolding leading leading_length
length-leading letter x y xs = omega (arith, length_fields (x ∷ y ∷ xs))

pub length-plant-line : (p : Plant) (figures : List ℕ) (net money : ℤ) → length (plant_line p figures net money) ≡ plant_line_length p figures net money
unfolding plant_line_length signed_figure_length
length-plant-line p figures net money = ap length (plant-line_is p figures net money) ∙ simp (length-append, length-leading) (omega arith)

pub length-total-line : (settled plants : ℕ) (columns : List ℕ) → length (total_line settled plants columns) ≡ total_line_length settled plants columns
unfolding total_line_length figure_length
length-total-line settled plants columns = ap length (total-line_is settled plants columns) ∙ simp (length-append, length-leading) (omega arith)

pub length-plant-lines : (ps : List Plant) (allotted : List ℕ) (accounts : List ℤ) → length (plant_lines ps allotted accounts) ≡ plant_lines_length ps allotted accounts
unfolding plant_lines plant_lines_length
length-plant-lines [] allotted accounts = refl
length-plant-lines (p ∷ ps) allotted accounts =
    length-append (plant_line p (take 4 allotted) (get_or accounts 0 (pos 0)) (get_or accounts 1 (pos 0))) (plant_lines ps (drop 4 allotted) (drop 2 accounts))
    ∙ ap₂ ◌+◌ (length-plant-line p (take 4 allotted) (get_or accounts 0 (pos 0)) (get_or accounts 1 (pos 0))) (length-plant-lines ps (drop 4 allotted) (drop 2 accounts))

-- the statement takes as many bytes as its length says
pub length-statement : (settled : ℕ) (plants : List Plant) (l : Ledger) → length (statement_text settled plants l) ≡ statement_length settled plants l
unfolding statement_text statement_length
length-statement settled plants l =
    let columns : List ℕ = four (λ s. sum (allotted_in s l)) in
    length-append (plant_lines plants l.allotted l.accounts) (total_line settled (length plants) columns)
    ∙ ap₂ ◌+◌ (length-plant-lines plants l.allotted l.accounts) (length-total-line settled (length plants) columns)

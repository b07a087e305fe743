-- `writing::write_statement` meets its contract. Assumes nothing.
use mathlib.Core.Path.{◌≡◌, refl, sym, ap}
use mathlib.Core.List.{List, ◌++◌}
use Prim.Native.Nat.{ℕ, ◌≤◌}
use native.Mathlib.Omega.{arith}
use lib.ListN.{length}
use Rattle.lists.specs.Lists.{sum}
use Rattle.lists.specs.Columns.{four}
use Rattle.figures.specs.Figures.{Wrote}
use Rattle.plants.specs.declared.Plant.{Plant}
use Rattle.ledger.specs.Ledger.{Ledger, allotted_in, viewed}
use Rattle.statement.specs.Statement.{plant_lines, total_line, statement_text}
use Rattle.statement.specs.Lengths.{statement_length}
use Rattle.statement.proofs.Text.{length-statement}
use Rattle.statement.proofs.Limits.{sums-asked, sums_fit}
use Rattle.statement.proofs.Parts.{Left, left_all, left-room, left-more, left-fits, left-last, fills}
use Rattle.statement.proofs.writing.write_statement.Goals as goal

module _ (settled : ℕ) (plants : List Plant) (l : Ledger) where
  abbrev total : List ℕ
  total = total_line settled (length plants) (four (λ s. sum (allotted_in s l)))

  module _ {text : List ℕ} (h : statement_length settled plants l ≤ length text) where
    at-start : Left (statement_text settled plants l) 0 text 0 text (plant_lines plants l.allotted l.accounts ++ total)
    unfolding statement_text
    at-start = left_all (record { fits = omega (arith, length-statement settled plants l) })

    at-total : {e : ℕ} {t : List ℕ} → Wrote (plant_lines plants l.allotted l.accounts) 0 text t e → Left (statement_text settled plants l) 0 text e t total
    at-total w = left-more at-start _ _ refl w

-- the T line of the sums that were worked
total-is : (settled : ℕ) (plants : List Plant) (l : Ledger) {columns : List ℕ} → columns ≡ four (λ s. sum (allotted_in s l)) → total settled plants l ≡ total_line settled (length plants) columns
total-is settled plants l e = ap (total_line settled (length plants)) (sym e)

pub column_sums-columns-requires : goal.column_sums-columns-requires
column_sums-columns-requires c = sums-asked c.requires.stateable

pub write_plant_lines-end-requires-clause-room : goal.write_plant_lines-end-requires-clause-room
write_plant_lines-end-requires-clause-room c = left-room (at-start _ _ (viewed c.args.ledger) c.requires.room) _ _ refl

pub write_total_line-requires-clause-columns_bound : goal.write_total_line-requires-clause-columns_bound
write_total_line-requires-clause-columns_bound c = sums_fit c.requires.stateable c.column_sums-columns.ensures

pub write_total_line-requires-clause-room : goal.write_total_line-requires-clause-room
write_total_line-requires-clause-room c =
    let l = viewed c.args.ledger in
    left-fits (at-total c.args.settled c.args.plants.now l c.requires.room c.write_plant_lines-end.ensures) (total-is c.args.settled c.args.plants.now l c.column_sums-columns.ensures)

pub returns : goal.returns
returns c =
    let l = viewed c.args.ledger in
    fills (left-last (at-total c.args.settled c.args.plants.now l c.requires.room c.write_plant_lines-end.ensures) (total-is c.args.settled c.args.plants.now l c.column_sums-columns.ensures) c.write_total_line.ensures)

-- `opening::open_month` meets its contract. Assumes nothing.
use Rattle.std.proofs.Common.{sym, refl}
use Rattle.std.proofs.lemmas.List.{take-append-drop}
use Rattle.file_lines.proofs.Moves.{blank_is}
use Rattle.file_lines.proofs.Opened.{opening_answered}
use Rattle.file_lines.proofs.opening.open_month.Goals as goal

pub returns-clause-moved : goal.returns-clause-moved
returns-clause-moved g c = opening_answered c.requires (blank_is c.default-month.result c.default-month.ensures) (rw (sym c.front-plants.ensures) c.open-answer.ensures) c.open-answer.auto.allotted c.open-answer.auto.accounts c.after-file.ensures

pub invariant_of-file : goal.invariant_of-file
invariant_of-file g c = record { valid = (opening_answered c.requires (blank_is c.default-month.result c.default-month.ensures) (rw (sym c.front-plants.ensures) c.open-answer.ensures) c.open-answer.auto.allotted c.open-answer.auto.accounts c.after-file.ensures).valid }

pub returns-clause-read : goal.returns-clause-read
returns-clause-read g c = (refl, take-append-drop c.args.file.now.state.periods c.args.file.now.profile.now)

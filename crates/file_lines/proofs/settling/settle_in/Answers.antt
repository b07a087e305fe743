-- `settling::settle_in` meets its contract. Assumes nothing.
use Rattle.std.proofs.Common.{sym, refl}
use Rattle.std.proofs.lemmas.List.{take-append-drop}
use Rattle.file_lines.proofs.Settled.{settling_answered}
use Rattle.file_lines.proofs.settling.settle_in.Goals as goal

pub returns-clause-moved : goal.returns-clause-moved
returns-clause-moved g c = settling_answered c.requires.stage c.args.file.now.valid c.args.metered.now c.settle-answer.result c.settle-answer.new.self {ds = c.settle-answer.new.allotment} (rw (sym c.front-plants.ensures) c.settle-answer.ensures) c.settle-answer.auto.allotted c.settle-answer.auto.accounts c.after-file.ensures

pub invariant_of-file : goal.invariant_of-file
invariant_of-file g c = record { valid = (settling_answered c.requires.stage c.args.file.now.valid c.args.metered.now c.settle-answer.result c.settle-answer.new.self {ds = c.settle-answer.new.allotment} (rw (sym c.front-plants.ensures) c.settle-answer.ensures) c.settle-answer.auto.allotted c.settle-answer.auto.accounts c.after-file.ensures).valid }

pub returns-clause-read : goal.returns-clause-read
returns-clause-read g c = (refl, take-append-drop c.args.file.now.state.month.periods c.args.file.now.profile.now)

use Prim.Native.Nat.{◌*◌}
use lib.IntN.{pos, ◌+ℤ◌}
use Rattle.signed.specs.Figures.{accounts_of}
use Rattle.ledger.specs.Ledger.{accounts_width}
use Rattle.ledger.proofs.Lists.{Joining}
use Rattle.ledger.proofs.add_accounts.Given as goal

abbrev pub invariant-loop-i : goal.invariant-loop-i
invariant-loop-i l = Joining ◌+ℤ◌ (pos 0) (accounts_of l.tariff l.nets) (accounts_width * l.i) l.initial.accounts l.accounts

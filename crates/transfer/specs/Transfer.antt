-- Document 01, step 5 of 'One hour'. Assumes nothing.
use Rattle.std.specs.Prelude.{ℕ, List, [], ◌∷◌}
use Rattle.lists.specs.Columns.{◌⊖◌, transpose}
use Rattle.sharing.specs.Sharing.{Rule}

-- amounts in turn, each shared over what is still open, which then falls (steps 5 and 6)
unfoldable pub serve : {A : Type 0} → (A → List ℕ → List ℕ) → List ℕ → List A → List (List ℕ)
serve rule open' [] = []
serve rule open' (t ∷ ts) = rule t open' ∷ serve rule (open' ⊖ rule t open') ts

-- step 5: needs in order 1 to 4, each shared over what the four still have left, which then falls; giver by receiver
unfoldable pub transfer : Rule → List ℕ → List ℕ → List (List ℕ)
transfer rule left need = transpose 0 (serve rule left need)

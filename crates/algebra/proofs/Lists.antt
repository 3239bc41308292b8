-- A law of lists that the shelf lacks. Assumes nothing.
use Rattle.std.proofs.Common.{ℕ, ◌<◌, List, length, get_or, arith}
use Rattle.std.proofs.lemmas.List.{get_or_past}

-- what holds of each element, and of what stands past the end, holds at every place
pub at_every_place : {X : Type 0} (Q : X → Type 0) (xs : List X) (d : X) → Q d → ((i : ℕ) → i < length xs → Q (get_or xs i d)) → (i : ℕ) → Q (get_or xs i d)
at_every_place Q xs d past within i = grind (arith, get_or_past)

-- A list that holds the ray numbers carried back to the pixels. Assumes nothing.
use Rattle.std.specs.Prelude.{◌≡◌, ℕ, ◌<◌, List, length, ℤ}
use Rattle.problem.specs.Scans.{ScanMeaning}
use Rattle.problem.specs.Bound.{at, back_projection}

-- w holds at each place j the sum of weight × ray number over all entries at pixel j
abbrev pub Projects : ScanMeaning → List ℤ → List ℤ → Type 0
Projects s p w = (j : ℕ) → j < length w → at w j ≡ back_projection s p j

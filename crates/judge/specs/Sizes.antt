-- How large the numbers of a fitting proposal, and what the judge makes of them, can be. Assumes nothing.
use Rattle.std.specs.Prelude.{ℕ, ◌*◌, ◌≤◌, List, take, ℤ, sum_by, slice_index, unsigned_abs}
use Rattle.problem.specs.Scans.{ScanMeaning, ray_weight_at}
use Rattle.problem.specs.Bound.{at}

-- no pixel is above 1023
abbrev pub Dense : List ℕ → Type 0
Dense u = (j : ℕ) → slice_index u j ≤ 1023

-- no number is larger than so much in size
abbrev pub Sized : ℕ → List ℤ → Type 0
Sized most p = (i : ℕ) → unsigned_abs (at p i) ≤ most

-- what the first i rays have added at each pixel: at most 2^22 for each weight
abbrev pub Light : ScanMeaning → ℕ → List ℤ → Type 0
Light s i w = (j : ℕ) → unsigned_abs (at w j) ≤ 4194304 * sum_by (ray_weight_at j) (take i s.rays)

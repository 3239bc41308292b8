-- The Lagrangian of the problem: what an image and dual numbers come to together. Assumes nothing.
use Rattle.std.specs.Prelude.{ℕ, ◌*◌, ◌/◌, ◌%◌, cond, List, length, ℤ, pos, ◌+ℤ◌, ◌-ℤ◌, ◌*ℤ◌, ◌==◌}
use Rattle.algebra.specs.Sums.{sum_to}
use Rattle.problem.specs.Setting.{pixel_count}
use Rattle.problem.specs.Scans.{ray_at}
use Rattle.problem.specs.Objective.{Problem, right_difference, down_difference, residual}
use Rattle.problem.specs.Bound.{at}
use Rattle.problem.specs.declared.settings.Settings.{Settings}

-- All differences in one row, as the slopes are: 2j is the right and 2j + 1 the down difference of pixel j.
unfoldable pub difference : Settings → List ℕ → ℕ → ℤ
difference g v k = cond (k % 2 == 0) (right_difference g v (k / 2)) (down_difference g v (k / 2))

-- 2 × d × residual × ray number of ray i, less d × d × its price
unfoldable pub ray_share : Problem → ℕ → List ℕ → List ℤ → ℕ → ℤ
ray_share P d v p i =
    pos (2 * d) *ℤ (residual d v (ray_at P.scan i) *ℤ at p i) -ℤ pos (d * d) *ℤ P.misfit.conjugate (at p i)

-- slope × difference
unfoldable pub slope_share : Settings → List ℕ → List ℤ → ℕ → ℤ
slope_share g v q k = at q k *ℤ difference g v k

-- twice the Lagrangian of the image v / d at the ray numbers p and the slopes q, times d × d
unfoldable pub lagrangian_at : Problem → ℕ → List ℕ → List ℤ → List ℤ → ℤ
lagrangian_at P d v p q =
    sum_to (length P.scan.rays) (ray_share P d v p)
    +ℤ pos (2 * d) *ℤ sum_to (2 * pixel_count P.settings) (slope_share P.settings v q)

-- twice the Lagrangian of the image u
abbrev pub lagrangian : Problem → List ℕ → List ℤ → List ℤ → ℤ
lagrangian P u p q = lagrangian_at P 1 u p q

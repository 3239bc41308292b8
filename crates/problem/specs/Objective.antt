-- The objective of an image: how badly it explains the readings, and how rough it is. Assumes nothing.
use Rattle.std.specs.Prelude.{ℕ, ◌+◌, ◌*◌, cond, List, length, ℤ, pos, ◌+ℤ◌, ◌-ℤ◌, ◌*ℤ◌, slice_index, slice_index_or, unsigned_abs}
use Rattle.algebra.specs.Sums.{sum_to}
use Rattle.problem.specs.Setting.{pixel_count, has_right, has_below}
use Rattle.problem.specs.Scans.{Ray, ScanMeaning, ray_at}
use Rattle.problem.specs.Misfits.{MisfitMeaning}
use Rattle.problem.specs.declared.settings.Settings.{Settings}

-- settings, scan and misfit: one problem of total variation
pub record Problem : Type 0 where
  pub settings : Settings
  pub scan : ScanMeaning
  pub misfit : MisfitMeaning

abbrev pub posed : Settings → ScanMeaning → MisfitMeaning → Problem
posed g s m = record { settings = g; scan = s; misfit = m }

-- The image v / d has the pixels v(j) / d: v is a list of whole numbers, and d is at least 1.

-- v(j), and 0 past the end of v
abbrev pub pixel : List ℕ → ℕ → ℤ
pixel v j = pos (slice_index v j)

-- v(j + 1) - v(j), and 0 in the last column
unfoldable pub right_difference : Settings → List ℕ → ℕ → ℤ
right_difference g v j = cond (has_right g j) (pixel v (j + 1) -ℤ pixel v j) (pos 0)

-- v(j + columns) - v(j), and 0 in the last row
unfoldable pub down_difference : Settings → List ℕ → ℕ → ℤ
down_difference g v j = cond (has_below g j) (pixel v (j + g.columns) -ℤ pixel v j) (pos 0)

unfoldable pub roughness_at : Settings → List ℕ → ℕ → ℤ
roughness_at g v j = pos (unsigned_abs (right_difference g v j)) +ℤ pos (unsigned_abs (down_difference g v j))

-- the sum of the sizes of all differences; the two differences of a pixel count separately
unfoldable pub total_variation : Settings → List ℕ → ℤ
total_variation g v = sum_to (pixel_count g) (roughness_at g v)

-- weight × pixel at the k-th entry of a ray
unfoldable pub ray_term : List ℕ → Ray → ℕ → ℤ
ray_term v r k = pos (slice_index_or r.entries k (0, 0)).1 *ℤ pixel v (slice_index_or r.entries k (0, 0)).0

-- the sum of weight × pixel along a ray
unfoldable pub ray_sum : List ℕ → Ray → ℤ
ray_sum v r = sum_to (length r.entries) (ray_term v r)

-- the ray's sum less its reading at the image v / d, times d
unfoldable pub residual : ℕ → List ℕ → Ray → ℤ
residual d v r = ray_sum v r -ℤ pos (d * r.reading)

-- the cost of ray i at the image v / d, times d × d
unfoldable pub ray_cost : MisfitMeaning → ScanMeaning → ℕ → List ℕ → ℕ → ℤ
ray_cost m s d v i = m.cost d (residual d v (ray_at s i))

unfoldable pub data_cost : MisfitMeaning → ScanMeaning → ℕ → List ℕ → ℤ
data_cost m s d v = sum_to (length s.rays) (ray_cost m s d v)

-- twice the primal value of the image v / d, times d × d
unfoldable pub objective_at : Problem → ℕ → List ℕ → ℤ
objective_at P d v =
    data_cost P.misfit P.scan d v +ℤ pos (2 * d * P.settings.strength) *ℤ total_variation P.settings v

-- twice the primal value of the image u
abbrev pub objective : Problem → List ℕ → ℤ
objective P u = objective_at P 1 u

-- The bound that ray numbers and slopes give: no image has a lower objective. Assumes nothing.
use Rattle.std.specs.Prelude.{ℕ, ◌+◌, ◌-◌, ◌*◌, cond, List, length, get_or, ℤ, pos, ◌+ℤ◌, ◌-ℤ◌, ◌*ℤ◌, neg_ℤ, ◌==◌, slice_index_or}
use Rattle.std.specs.Int.{int_min}
use Rattle.algebra.specs.Sums.{sum_to}
use Rattle.problem.specs.Setting.{pixel_count, has_left, has_above}
use Rattle.problem.specs.Scans.{Ray, ScanMeaning, ray_at}
use Rattle.problem.specs.Misfits.{MisfitMeaning}
use Rattle.problem.specs.Objective.{Problem}
use Rattle.problem.specs.declared.settings.Settings.{Settings}

-- A ray number p(i) is the dual number of ray i. The slopes q(2j) and q(2j + 1) are the dual numbers of
-- the right and the down difference of pixel j.

-- x(i), and 0 past the end of x
abbrev pub at : List ℤ → ℕ → ℤ
at xs i = slice_index_or xs i (pos 0)

-- weight × p at the k-th entry of a ray, where that is at pixel j
unfoldable pub entry_pull : ℕ → ℤ → Ray → ℕ → ℤ
entry_pull j p r k = cond ((get_or r.entries k (0, 0)).0 == j) (pos (get_or r.entries k (0, 0)).1 *ℤ p) (pos 0)

unfoldable pub ray_pull : ℕ → ℤ → Ray → ℤ
ray_pull j p r = sum_to (length r.entries) (entry_pull j p r)

unfoldable pub pull_of : ScanMeaning → List ℤ → ℕ → ℕ → ℤ
pull_of s p j i = ray_pull j (at p i) (ray_at s i)

-- the sum of weight × ray number over all entries at pixel j
unfoldable pub back_projection : ScanMeaning → List ℤ → ℕ → ℤ
back_projection s p j = sum_to (length s.rays) (pull_of s p j)

-- the right slope of the pixel to the left, and the down slope of the pixel above, 0 where there is none
unfoldable pub slope_from_left : Settings → List ℤ → ℕ → ℤ
slope_from_left g q j = cond (has_left g j) (at q (2 * (j - 1))) (pos 0)

unfoldable pub slope_from_above : Settings → List ℤ → ℕ → ℤ
slope_from_above g q j = cond (has_above g j) (at q (2 * (j - g.columns) + 1)) (pos 0)

-- x less the two slopes of pixel j, plus those that come from its neighbours
unfoldable pub with_slopes : Settings → List ℤ → ℕ → ℤ → ℤ
with_slopes g q j x = x -ℤ at q (2 * j) -ℤ at q (2 * j + 1) +ℤ slope_from_left g q j +ℤ slope_from_above g q j

-- w(j): ray numbers and slopes carried back to pixel j
unfoldable pub adjoint : Settings → ScanMeaning → List ℤ → List ℤ → ℕ → ℤ
adjoint g s p q j = with_slopes g q j (back_projection s p j)

-- the least that a density within the limits makes of w
unfoldable pub least_product : Settings → ℤ → ℤ
least_product g w = int_min (pos g.lowest *ℤ w) (pos g.highest *ℤ w)

unfoldable pub density_term : Settings → ScanMeaning → List ℤ → List ℤ → ℕ → ℤ
density_term g s p q j = least_product g (adjoint g s p q j)

unfoldable pub price_of : MisfitMeaning → List ℤ → ℕ → ℤ
price_of m p i = m.conjugate (at p i)

unfoldable pub reading_term : ScanMeaning → List ℤ → ℕ → ℤ
reading_term s p i = at p i *ℤ pos (ray_at s i).reading

unfoldable pub prices : MisfitMeaning → ScanMeaning → List ℤ → ℤ
prices m s p = sum_to (length s.rays) (price_of m p)

unfoldable pub readings_product : ScanMeaning → List ℤ → ℤ
readings_product s p = sum_to (length s.rays) (reading_term s p)

unfoldable pub density_product : Settings → ScanMeaning → List ℤ → List ℤ → ℤ
density_product g s p q = sum_to (pixel_count g) (density_term g s p q)

-- twice the dual value of the ray numbers p and the slopes q
unfoldable pub bound : Problem → List ℤ → List ℤ → ℤ
bound P p q =
    neg_ℤ (prices P.misfit P.scan p) -ℤ pos 2 *ℤ readings_product P.scan p
    +ℤ pos 2 *ℤ density_product P.settings P.scan p q

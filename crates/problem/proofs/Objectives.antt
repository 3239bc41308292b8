-- The objective over the Lagrangian. Assumes nothing.
use Rattle.std.proofs.Common.{◌≡◌, ℕ, ◌*◌, ◌<◌, ◌≤◌, List, length, get_or, ℤ, pos, ◌*ℤ◌, nat_abs, ◌≤ℤ◌, arith}
use lib.IntN.{*ℤ_comm}
use Rattle.std.specs.Int.{int_signum}
use Rattle.std.proofs.lemmas.Int.{ints}
use Rattle.std.proofs.lemmas.List.FromFn.{length-map-range_with_len, get_or-map-range_with_len}
use Rattle.std.proofs.lemmas.List.{length-map, get_or-map, get_or_past}
use Rattle.algebra.specs.Sums.{sum_to}
use Rattle.algebra.proofs.Integers.{lin, scale, mul-le, product_low, by_signed_limit, signed_limit_low}
use Rattle.algebra.proofs.Sums.{sum_to_cong, sum_to_le, mul-sum_to}
use Rattle.problem.specs.Setting.{pixel_count}
use Rattle.problem.specs.Scans.{no_ray, ray_at}
use Rattle.problem.specs.Misfits.{Reached}
use Rattle.problem.specs.Objective.{Problem, residual, ray_cost, data_cost, total_variation, objective_at, objective}
use Rattle.problem.specs.Bound.{at}
use Rattle.problem.specs.Fitting.{ImageFits, DualsFit}
use Rattle.problem.specs.Lagrangian.{difference, ray_share, slope_share, lagrangian_at, lagrangian}
use Rattle.problem.specs.Saddle.{LawfulProblem, answering_number, answering_numbers, answering_slope, answering_slopes}
use Rattle.problem.proofs.Exchange.{residual_reached}
use Rattle.problem.proofs.Differences.{variation_in_row, ends_flat, slope_limit_low}
use Rattle.problem.specs.declared.settings.Settings.{Settings}

-- strength × sizes of all differences
smoothing : (g : Settings) (v : List ℕ) → pos g.strength *ℤ total_variation g v ≡ sum_to (2 * pixel_count g) (λ k. pos g.strength *ℤ pos (nat_abs (difference g v k)))
smoothing g v = rw (variation_in_row g v, mul-sum_to)

-- slope k of those that answer an image
slope_at : (g : Settings) (u : List ℕ) (k : ℕ) → k < 2 * pixel_count g → at (answering_slopes g u) k ≡ int_signum (difference g u k) *ℤ pos g.strength
unfolding answering_slope
slope_at g u k h = get_or-map-range_with_len (answering_slope g u) 0 (2 * pixel_count g) k k (pos 0) h (omega arith)

module _ (P : Problem) (l : LawfulProblem P) where
  module _ (p q : List ℤ) (fit : DualsFit P p q) where
    -- no share of a ray is above its cost: the inequality of Fenchel and Young
    rays_le : (d : ℕ) (v : List ℕ) → 1 ≤ d → sum_to (length P.scan.rays) (ray_share P d v p) ≤ℤ data_cost P.misfit P.scan d v
    unfolding ray_share data_cost ray_cost
    rays_le d v one =
        sum_to_le (length P.scan.rays) _ _ (λ i m.
        omega (arith, lin, l.misfit_lawful.young d (residual d v (ray_at P.scan i)) (at p i) one (fit.admitted i (omega arith))))

    -- slope × difference is at most strength × size of the difference
    slopes_le : (v : List ℕ) → sum_to (2 * pixel_count P.settings) (slope_share P.settings v q) ≤ℤ (pos P.settings.strength *ℤ total_variation P.settings v)
    unfolding slope_share
    slopes_le v =
        let g = P.settings in
        rw (smoothing g v)
        (sum_to_le (2 * pixel_count g) _ _ (λ k m.
        let low : nat_abs (at q k) ≤ g.strength = omega (arith, fit.slopes_within k (omega arith), slope_limit_low g k) in
        omega (arith, lin, *ℤ_comm (at q k) (difference g v k), product_low (difference g v k) (at q k) g.strength low)))

    pub objective_above : (d : ℕ) (v : List ℕ) → 1 ≤ d → lagrangian_at P d v p q ≤ℤ objective_at P d v
    unfolding lagrangian_at objective_at
    objective_above d v one =
        let slopes = simp scale at (mul-le (2 * d) _ _ (slopes_le v)) in
        omega (arith, lin, rays_le d v one, slopes)

  module _ (u : List ℕ) (fits : ImageFits P.settings 1 u) where
    -- no pixel is above 1023
    dense : (j : ℕ) → get_or u j 0 ≤ 1023
    dense j = grind (arith, get_or_past, fits.within j, P.settings.dense)

    reached : (i : ℕ) → Reached (residual 1 u (ray_at P.scan i))
    reached = residual_reached P.scan l.scan_lawful u dense

    number_at : (i : ℕ) → i < length P.scan.rays → at (answering_numbers P u) i ≡ P.misfit.subgradient (residual 1 u (ray_at P.scan i))
    unfolding answering_number
    number_at i h = get_or-map (answering_number P u) P.scan.rays i no_ray (pos 0) h

    pub answering_duals_fit : DualsFit P (answering_numbers P u) (answering_slopes P.settings u)
    answering_duals_fit =
        let g = P.settings in
        let numbers = length-map P.scan.rays (answering_number P u) in
        let slopes = length-map-range_with_len (answering_slope g u) 0 (2 * pixel_count g) in
        record {
          ray_numbers_length = numbers;
          slopes_length = slopes;
          admitted = λ i h. rw (number_at i (omega (arith, numbers))) (l.misfit_lawful.answered (residual 1 u (ray_at P.scan i)) (reached i));
          slopes_within = λ k h. rw (slope_at g u k (omega (arith, slopes))) (grind (arith, signed_limit_low, ends_flat));
        }

    -- at its answering numbers and slopes an image's Lagrangian is its objective
    pub objective_reached : lagrangian P u (answering_numbers P u) (answering_slopes P.settings u) ≡ objective P u
    unfolding lagrangian_at objective_at ray_share slope_share data_cost ray_cost
    objective_reached =
        let g = P.settings in
        let rays : sum_to (length P.scan.rays) (ray_share P 1 u (answering_numbers P u)) ≡ data_cost P.misfit P.scan 1 u =
        sum_to_cong (length P.scan.rays) _ _ (λ i m.
        rw (number_at i m) (omega (arith, ints, l.misfit_lawful.tight (residual 1 u (ray_at P.scan i)) (reached i)))) in
        let slopes : sum_to (2 * pixel_count g) (slope_share g u (answering_slopes g u)) ≡ pos g.strength *ℤ total_variation g u =
        rw (smoothing g u)
        (sum_to_cong (2 * pixel_count g) _ _ (λ k m.
        let x = difference g u k in
        rw (slope_at g u k m) (omega (arith, lin, *ℤ_comm (int_signum x *ℤ pos g.strength) x, by_signed_limit x g.strength)))) in
        rw (rays, slopes, scale 2 g.strength (total_variation g u))

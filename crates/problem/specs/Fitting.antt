-- Which proposals fit: their lengths, and the limits of each number. Assumes nothing.
use Rattle.std.specs.Prelude.{◌≡◌, ℕ, ◌*◌, ◌/◌, ◌%◌, ◌<◌, ◌≤◌, Bool, cond, List, length, ℤ, ◌==◌, slice_index, unsigned_abs}
use Rattle.problem.specs.Setting.{pixel_count, has_right, has_below}
use Rattle.problem.specs.Misfits.{Admitted}
use Rattle.problem.specs.Objective.{Problem}
use Rattle.problem.specs.Bound.{at}
use Rattle.problem.specs.declared.settings.Settings.{Settings}

-- an image with its dual numbers
pub record Proposal : Type 0 where
  pub image : List ℕ
  pub ray_numbers : List ℤ
  pub slopes : List ℤ

abbrev pub proposed : List ℕ → List ℤ → List ℤ → Proposal
proposed u p q = record { image = u; ray_numbers = p; slopes = q }

-- whether the slope k belongs to a difference: slope 2j to the right and slope 2j + 1 to the down difference of pixel j
abbrev pub has_difference : Settings → ℕ → Bool
has_difference g k = cond (k % 2 == 0) (has_right g (k / 2)) (has_below g (k / 2))

-- the largest size of slope k: the strength, and 0 where the slice ends
abbrev pub slope_limit : Settings → ℕ → ℕ
slope_limit g k = cond (has_difference g k) g.strength 0

-- The image v / d is within the limits: a number for each pixel, from d × lowest to d × highest.
pub record ImageFits (g : Settings) (d : ℕ) (v : List ℕ) : Type 0 where
  pub length_is : length v ≡ pixel_count g
  pub within : (j : ℕ) → j < length v → (d * g.lowest ≤ slice_index v j) × (slice_index v j ≤ d * g.highest)

-- An admitted number for each ray, and for each difference a slope within its limit.
pub record DualsFit (P : Problem) (p q : List ℤ) : Type 0 where
  pub ray_numbers_length : length p ≡ length P.scan.rays
  pub slopes_length : length q ≡ 2 * pixel_count P.settings
  pub admitted : (i : ℕ) → i < length p → Admitted P.misfit (at p i)
  pub slopes_within : (k : ℕ) → k < length q → unsigned_abs (at q k) ≤ slope_limit P.settings k

-- the lengths fit, and each number is within its limits
pub record Fits (P : Problem) (x : Proposal) : Type 0 where
  pub pixels : pixel_count P.settings ≡ P.scan.pixels
  pub image_length : length x.image ≡ pixel_count P.settings
  pub ray_numbers_length : length x.ray_numbers ≡ length P.scan.rays
  pub slopes_length : length x.slopes ≡ 2 * pixel_count P.settings
  pub image_within : (j : ℕ) → j < length x.image → (P.settings.lowest ≤ slice_index x.image j) × (slice_index x.image j ≤ P.settings.highest)
  pub ray_numbers_within : (i : ℕ) → i < length x.ray_numbers → unsigned_abs (at x.ray_numbers i) ≤ P.misfit.end
  pub slopes_within : (k : ℕ) → k < length x.slopes → unsigned_abs (at x.slopes k) ≤ slope_limit P.settings k

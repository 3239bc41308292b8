-- The differences to a pixel's neighbours, and the slopes that come from them. Assumes nothing.
use Rattle.std.proofs.Common.{◌≡◌, ℕ, ◌+◌, ◌*◌, List, ℤ, pos, nat_abs, arith}
use Rattle.std.specs.Option.{option_map}
use Rattle.problem.specs.Objective.{right_difference, down_difference}
use Rattle.problem.specs.Bound.{slope_from_left, slope_from_above}
use Rattle.problem.specs.declared.settings.Settings.{Settings}
use Rattle.judge.specs.Neighbours.{pixel_right, pixel_below, pixel_left, pixel_above, step_to, slope_at}

module _ (g : Settings) (u : List ℕ) (j : ℕ) where
  pub step_right : step_to u j (pixel_right g j) ≡ pos (nat_abs (right_difference g u j))
  unfolding right_difference
  step_right = grind arith

  pub step_down : step_to u j (pixel_below g j) ≡ pos (nat_abs (down_difference g u j))
  unfolding down_difference
  step_down = grind arith

module _ (g : Settings) (q : List ℤ) (j : ℕ) where
  pub slope_left : slope_at q (option_map (λ k. 2 * k) (pixel_left g j)) ≡ slope_from_left g q j
  unfolding slope_from_left
  slope_left = grind arith

  pub slope_above : slope_at q (option_map (λ k. 2 * k + 1) (pixel_above g j)) ≡ slope_from_above g q j
  unfolding slope_from_above
  slope_above = grind arith

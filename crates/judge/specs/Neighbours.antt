-- The neighbours of a pixel, each if it is there. Assumes nothing.
use Rattle.std.specs.Prelude.{ℕ, ◌+◌, ◌-◌, cond, List, ℤ, pos, ◌-ℤ◌, Some, None, Option, unsigned_abs}
use Rattle.problem.specs.Setting.{has_right, has_below, has_left, has_above}
use Rattle.problem.specs.Objective.{pixel}
use Rattle.problem.specs.Bound.{at}
use Rattle.problem.specs.declared.settings.Settings.{Settings}

abbrev pub pixel_right : Settings → ℕ → Option ℕ
pixel_right g j = cond (has_right g j) (Some (j + 1)) None

abbrev pub pixel_below : Settings → ℕ → Option ℕ
pixel_below g j = cond (has_below g j) (Some (j + g.columns)) None

abbrev pub pixel_left : Settings → ℕ → Option ℕ
pixel_left g j = cond (has_left g j) (Some (j - 1)) None

abbrev pub pixel_above : Settings → ℕ → Option ℕ
pixel_above g j = cond (has_above g j) (Some (j - g.columns)) None

-- the size of the difference between pixel j and a neighbour, 0 where there is none
abbrev pub step_to : List ℕ → ℕ → Option ℕ → ℤ
step_to u j None = pos 0
step_to u j (Some k) = pos (unsigned_abs (pixel u k -ℤ pixel u j))

-- the slope at a place, 0 where there is none
abbrev pub slope_at : List ℤ → Option ℕ → ℤ
slope_at q None = pos 0
slope_at q (Some k) = at q k

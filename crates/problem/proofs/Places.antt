-- A slice has at most 2,304 pixels, and the neighbours of a pixel of w columns and h rows are pixels too. Assumes nothing.
use Rattle.std.proofs.Common.{ℕ, ◌+◌, ◌*◌, ◌/◌, ◌%◌, ◌<◌, ◌≤◌, mul-le-mul_left, arith}
use Rattle.std.proofs.lemmas.Nat.{div_below, mul-le}
use Rattle.problem.specs.Setting.{pixel_count}
use Rattle.problem.specs.declared.settings.Settings.{Settings}

pub few_pixels : (g : Settings) → pixel_count g ≤ 2304
few_pixels g = omega (arith, mul-le g.columns g.rows 48 48 g.sized.1 g.sized.3)

pub right_in : (w h j : ℕ) → 0 < w → j < w * h → j % w + 1 < w → j + 1 < w * h
right_in w h j z l m = omega (arith, mul-le-mul_left w (div_below j w h z (omega arith)))

pub below_in : (w h j : ℕ) → 0 < w → j / w + 1 < h → j + w < w * h
below_in w h j z m = omega (arith, mul-le-mul_left w m)

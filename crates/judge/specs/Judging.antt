-- What the judge answers to a proposal. Assumes nothing.
use Rattle.std.specs.Prelude.{ℕ, ◌*◌, Bool, cond, length, ℤ, Some, None, Ok, Err, Option, Result, ◌==◌, nat_le, unsigned_abs}
use Rattle.problem.specs.Setting.{between, pixel_count}
use Rattle.problem.specs.Search.{first_outside}
use Rattle.problem.specs.Objective.{Problem, objective}
use Rattle.problem.specs.Bound.{bound}
use Rattle.problem.specs.Fitting.{Proposal, slope_limit}
use Rattle.problem.specs.declared.settings.Settings.{Settings}
use Rattle.refusals.specs.declared.Refusal.{Refusal}
use Rattle.refusals.specs.declared.Refusal.TheVariants.{Pixels, Length, Pixel, RayNumber, Slope}
use Rattle.judge.specs.declared.verdict.Verdict.{Verdict}

-- the limits of the three lists; none of them asks for the element before
abbrev pub density_within : Settings → ℕ → Option ℕ → ℕ → Bool
density_within g place before x = between g.lowest g.highest x

abbrev pub number_within : ℕ → ℕ → Option ℤ → ℤ → Bool
number_within end place before p = nat_le (unsigned_abs p) end

abbrev pub slope_within : Settings → ℕ → Option ℤ → ℤ → Bool
slope_within g place before q = nat_le (unsigned_abs q) (slope_limit g place)

-- a refusal at the place that was found, or else the answer
abbrev pub unless : Option ℕ → (ℕ → Refusal) → Result Verdict Refusal → Result Verdict Refusal
unless None refusal answer = answer
unless (Some place) refusal answer = Err (refusal place)

abbrev pub verdict_of : Problem → Proposal → Verdict
verdict_of P x = record { objective = objective P x.image; bound = bound P x.ray_numbers x.slopes }

-- objective and bound, or the first thing that does not fit
abbrev pub judged : Problem → Proposal → Result Verdict Refusal
judged P x =
    cond (pixel_count P.settings == P.scan.pixels)
    (cond (length x.image == pixel_count P.settings)
    (cond (length x.ray_numbers == length P.scan.rays)
    (cond (length x.slopes == 2 * pixel_count P.settings)
    (unless (first_outside (density_within P.settings) x.image) Pixel
    (unless (first_outside (number_within P.misfit.end) x.ray_numbers) RayNumber
    (unless (first_outside (slope_within P.settings) x.slopes) Slope (Ok (verdict_of P x)))))
    (Err (Length 2)))
    (Err (Length 1)))
    (Err (Length 0)))
    (Err Pixels)

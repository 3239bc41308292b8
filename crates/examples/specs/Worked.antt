-- The worked examples, as one statement about the definitions. Assumes nothing.
use Rattle.std.specs.Prelude.{◌≡◌, ℕ, ◌*◌, List, [], ◌∷◌, ℤ, pos, negsuc, ◌*ℤ◌, ◌≤ℤ◌, Ok, Err, Result}
use Rattle.refusals.specs.Telling.{number_of}
use Rattle.problem.specs.Objective.{objective_at, objective}
use Rattle.problem.specs.Bound.{bound}
use Rattle.problem.specs.Fitting.{ImageFits, proposed}
use Rattle.problem.specs.Lagrangian.{lagrangian_at, lagrangian}
use Rattle.problem.specs.Saddle.{answering_numbers, answering_slopes, answering_image, NoImageBelow}
use Rattle.refusals.specs.declared.Refusal.{Refusal}
use Rattle.refusals.specs.declared.Refusal.TheVariants.{Pixel, RayNumber, Slope}
use Rattle.judge.specs.Judging.{judged}
use Rattle.judge.specs.declared.verdict.Verdict.{Verdict}
use Rattle.examples.specs.Slices.{two_settings, two_square, two_absolute, six_settings, six_square, six_absolute}

abbrev told : ℤ → ℤ → Result Verdict Refusal
told objective bound = Ok (record { objective = objective; bound = bound })

-- no ray numbers and no slopes to speak of
abbrev none : List ℤ
none = pos 0 ∷ pos 0 ∷ []

abbrev flat : List ℤ
flat = pos 0 ∷ pos 0 ∷ pos 0 ∷ pos 0 ∷ []

-- 1 and - 1 on the rays, 1 on the difference
abbrev apart : List ℤ
apart = pos 1 ∷ negsuc 0 ∷ []

abbrev rising : List ℤ
rising = pos 1 ∷ pos 0 ∷ pos 0 ∷ pos 0 ∷ []

-- two pixels, by the square: the best image, the readings themselves, and a flat image
abbrev pub BestOfTwo : Type 0
BestOfTwo = judged two_square (proposed (5 ∷ 7 ∷ []) apart rising) ≡ told (pos 6) (pos 6)

abbrev pub ReadingsOfTwo : Type 0
ReadingsOfTwo = judged two_square (proposed (4 ∷ 8 ∷ []) none flat) ≡ told (pos 8) (pos 0)

abbrev pub FlatOfTwo : Type 0
FlatOfTwo = judged two_square (proposed (6 ∷ 6 ∷ []) (pos 2 ∷ negsuc 1 ∷ []) rising) ≡ told (pos 8) (negsuc 11)

-- the same by absolute values, with the slope 3
abbrev pub AbsoluteOfTwo : Type 0
AbsoluteOfTwo =
    (judged two_absolute (proposed (6 ∷ 6 ∷ []) none flat) ≡ told (pos 24) (pos 0))
    × (judged two_absolute (proposed (4 ∷ 8 ∷ []) apart rising) ≡ told (pos 8) (pos 8))

-- a slope above the strength, a slope where the slice ends, a pixel too dense, a ray number too large
abbrev pub RefusedOfTwo : Type 0
RefusedOfTwo =
    (judged two_square (proposed (5 ∷ 7 ∷ []) none (pos 2 ∷ pos 0 ∷ pos 0 ∷ pos 0 ∷ [])) ≡ Err (Slope 0))
    × (judged two_square (proposed (5 ∷ 7 ∷ []) none (pos 0 ∷ pos 1 ∷ pos 0 ∷ pos 0 ∷ [])) ≡ Err (Slope 1))
    × (judged two_square (proposed (5 ∷ 11 ∷ []) none flat) ≡ Err (Pixel 1))
    × (judged two_square (proposed (5 ∷ 7 ∷ []) (pos 0 ∷ pos 4194305 ∷ []) flat) ≡ Err (RayNumber 1))
    × (number_of (Slope 0) ≡ 13)
    × (number_of (Pixel 1) ≡ 11)
    × (number_of (RayNumber 1) ≡ 12)

-- the largest ray number passes: its price is 4194304², and twice its product with the reading 2 × 4194304 × 8
abbrev pub AdmittedOfTwo : Type 0
AdmittedOfTwo = judged two_square (proposed (5 ∷ 7 ∷ []) (pos 0 ∷ pos 4194304 ∷ []) flat) ≡ told (pos 6) (negsuc 17592253153279)

-- the image (9/2, 15/2), times 4, against 4 times the best
abbrev pub FractionOfTwo : Type 0
FractionOfTwo =
    (objective_at two_square 2 (9 ∷ 15 ∷ []) ≡ pos 26)
    × ((pos (2 * 2) *ℤ bound two_square apart rising) ≤ℤ objective_at two_square 2 (9 ∷ 15 ∷ []))

-- The Lagrangian of the two pixels: at the best image and its dual numbers, where bound and objective meet; at the readings
-- and the dual numbers that answer them; at dual numbers and the image that answers them; and at the image in halves.
abbrev pub SaddleOfTwo : Type 0
SaddleOfTwo =
    (lagrangian two_square (5 ∷ 7 ∷ []) apart rising ≡ pos 6)
    × (answering_numbers two_square (4 ∷ 8 ∷ []) ≡ none)
    × (answering_slopes two_settings (4 ∷ 8 ∷ []) ≡ rising)
    × (lagrangian two_square (4 ∷ 8 ∷ []) none rising ≡ pos 8)
    × (answering_image two_square (pos 2 ∷ negsuc 1 ∷ []) rising ≡ 0 ∷ 10 ∷ [])
    × (lagrangian two_square (0 ∷ 10 ∷ []) (pos 2 ∷ negsuc 1 ∷ []) rising ≡ negsuc 11)
    × (lagrangian_at two_square 2 (9 ∷ 15 ∷ []) apart rising ≡ pos 24)

-- (5, 7) is an image of the two pixels with the objective 6, and no image within the limits, whole or in fractions, has a lower one
abbrev pub BestImageOfTwo : Type 0
BestImageOfTwo =
    ImageFits two_settings 1 (5 ∷ 7 ∷ []) × (objective two_square (5 ∷ 7 ∷ []) ≡ pos 6) × NoImageBelow two_square (pos 6)

-- the proposal for six pixels, and an image in thirds
abbrev six_image : List ℕ
six_image = 4 ∷ 7 ∷ 2 ∷ 9 ∷ 3 ∷ 5 ∷ []

abbrev six_thirds : List ℕ
six_thirds = 13 ∷ 20 ∷ 7 ∷ 26 ∷ 9 ∷ 14 ∷ []

abbrev six_numbers : List ℤ
six_numbers = pos 2 ∷ negsuc 2 ∷ pos 1 ∷ negsuc 0 ∷ []

abbrev six_slopes : List ℤ
six_slopes = pos 5 ∷ negsuc 1 ∷ negsuc 3 ∷ pos 6 ∷ pos 0 ∷ pos 3 ∷ negsuc 5 ∷ pos 0 ∷ pos 1 ∷ pos 0 ∷ pos 0 ∷ pos 0 ∷ []

-- six pixels, worked out by a plain program of its own
abbrev pub SixPixels : Type 0
SixPixels =
    (judged six_square (proposed six_image six_numbers six_slopes) ≡ told (pos 534) (negsuc 296))
    × (judged six_absolute (proposed six_image six_numbers six_slopes) ≡ told (pos 492) (negsuc 281))
    × (objective_at six_square 3 six_thirds ≡ pos 4194)
    × (objective_at six_absolute 3 six_thirds ≡ pos 3996)

-- their Lagrangian, and where it reaches the bound and the objective
abbrev pub SaddleOfSix : Type 0
SaddleOfSix =
    (lagrangian six_square six_image six_numbers six_slopes ≡ negsuc 14)
    × (lagrangian six_absolute six_image six_numbers six_slopes ≡ pos 0)
    × (lagrangian_at six_square 3 six_thirds six_numbers six_slopes ≡ negsuc 152)
    × (lagrangian_at six_absolute 3 six_thirds six_numbers six_slopes ≡ negsuc 17)
    × (answering_image six_square six_numbers six_slopes ≡ 2 ∷ 9 ∷ 9 ∷ 2 ∷ 9 ∷ 2 ∷ [])
    × (answering_numbers six_square six_image ≡ negsuc 7 ∷ pos 9 ∷ negsuc 6 ∷ negsuc 1 ∷ [])
    × (answering_numbers six_absolute six_image ≡ negsuc 2 ∷ pos 3 ∷ negsuc 2 ∷ negsuc 2 ∷ [])
    × (answering_slopes six_settings six_image ≡ pos 6 ∷ pos 6 ∷ negsuc 5 ∷ negsuc 5 ∷ pos 0 ∷ pos 6 ∷ negsuc 5 ∷ pos 0 ∷ pos 6 ∷ pos 0 ∷ pos 0 ∷ pos 0 ∷ [])

-- what the judge tells of the two slices
abbrev pub WorkedExamples : Type 0
WorkedExamples = BestOfTwo × ReadingsOfTwo × FlatOfTwo × AbsoluteOfTwo × RefusedOfTwo × AdmittedOfTwo × FractionOfTwo × SixPixels

-- the Lagrangian in both of them, and where it reaches bound and objective
abbrev pub SaddleExamples : Type 0
SaddleExamples = SaddleOfTwo × SaddleOfSix

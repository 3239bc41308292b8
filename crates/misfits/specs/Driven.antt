-- The proximal maps of the conjugates of the two misfits. Assumes nothing.
use Rattle.std.specs.Prelude.{◌≡◌, ℕ, pos, refl, Float}
use Rattle.std.specs.Float.{binary64}
use Rattle.std.specs.Float.Ieee.{add, div, neg, of_bits, of_int}
use Rattle.problem.specs.Misfits.{widest}
use Rattle.problem.specs.Driving.{clip}

-- x brought between - end and end
abbrev pub clip_at : ℕ → Float → Float
clip_at end x = clip (neg (of_int binary64 (pos end))) (of_int binary64 (pos end)) x

-- 1.0
abbrev pub one : Float
one = of_bits binary64 0x3ff0_0000_0000_0000

pub one_is : one ≡ of_int binary64 (pos 1)
unfolding of_bits of_int
one_is = refl

abbrev pub square_driven : Float → Float → Float
square_driven y sigma = clip_at widest (div binary64 y (add binary64 one sigma))

abbrev pub absolute_driven : ℕ → Float → Float → Float
absolute_driven slope y sigma = clip_at slope y

-- Floats brought between two ends. Assumes nothing.
use Rattle.std.specs.Prelude.{cond, Float}
use Rattle.std.specs.Float.Ieee.{lt, le}

-- the end that was passed; not-a-number gives the low end
abbrev pub clip : Float → Float → Float → Float
clip low high x = cond (lt high x) high (cond (le low x) x low)

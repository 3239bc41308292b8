-- What the two misfits mean. Assumes nothing.
use Rattle.std.specs.Prelude.{ℕ, ◌*◌, pos, ◌*ℤ◌, unsigned_abs}
use Rattle.std.specs.Int.{int_signum}
use Rattle.problem.specs.Misfits.{MisfitMeaning, widest}

-- half the square of a residual, which is its own conjugate
abbrev pub square : MisfitMeaning
square = record { cost = λ d n. n *ℤ n; end = widest; conjugate = λ p. p *ℤ p; subgradient = λ r. r; code = 1 }

-- the size of a residual times a slope
abbrev pub absolute : ℕ → MisfitMeaning
absolute slope =
    record { cost = λ d n. pos (2 * slope * d * unsigned_abs n); end = slope; conjugate = λ p. pos 0; subgradient = λ r. int_signum r *ℤ pos slope; code = 2 }

-- The first answer and the largest value over an index. Assumes nothing.
use Rattle.std.specs.Prelude.{ℕ, zero, suc, max, None, Option}
use Rattle.std.specs.Option.{option_or}

-- the first answer among f 0, f 1, .., f (n - 1)
unfoldable pub first_some : ℕ → (ℕ → Option ℕ) → Option ℕ
first_some zero f = None
first_some (suc n) f = option_or (first_some n f) (f n)

-- the largest of f 0, f 1, .., f (n - 1), and 0 for none
unfoldable pub largest : ℕ → (ℕ → ℕ) → ℕ
largest zero f = 0
largest (suc n) f = max (largest n f) (f n)

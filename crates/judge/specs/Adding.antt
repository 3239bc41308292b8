-- What a function answers to the first numbers, and the sum of it. Assumes nothing.
use Rattle.std.specs.Prelude.{◌≡◌, ℕ, ◌*◌, ◌<◌, ◌≤◌, ℤ, unsigned_abs}
use Rattle.algebra.specs.Sums.{sum_to}

-- each answer to a number below count is that of f
abbrev pub Answers : (ℕ → ℤ → Type 0) → ℕ → (ℕ → ℤ) → Type 0
Answers post count f = (i : ℕ) (x : ℤ) → i < count → post i x → x ≡ f i

-- no answer to a number below count is larger than so much in size
abbrev pub NoneLarger : (ℕ → ℤ → Type 0) → ℕ → ℕ → Type 0
NoneLarger post count most = (i : ℕ) (x : ℤ) → i < count → post i x → unsigned_abs x ≤ most

-- x is the sum of the first i answers, whatever function and whatever size they are known to have
pub record SumOf (post : ℕ → ℤ → Type 0) (count i : ℕ) (x : ℤ) : Type 0 where
  pub value : (f : ℕ → ℤ) → Answers post count f → x ≡ sum_to i f
  pub size : (most : ℕ) → NoneLarger post count most → unsigned_abs x ≤ most * i

-- One answer more of a sum, and what the whole sum comes to. Assumes nothing.
use Rattle.std.proofs.Common.{◌≡◌, ℕ, ◌+◌, ◌*◌, ◌^◌, ◌<◌, ◌≤◌, ℤ, ◌+ℤ◌, nat_abs, sym, arith, w64, SFits, to_z, of_z}
use lib.Signed.{mag}
use Rattle.algebra.specs.Sums.{sum_to}
use Rattle.algebra.proofs.Sums.{sum_to_more}
use Rattle.algebra.proofs.Integers.{lin}
use Rattle.algebra.proofs.Words.{fits_word, same_bits, same_word}
use Rattle.judge.specs.Adding.{Answers, NoneLarger, SumOf}

module _ (post : ℕ → ℤ → Type 0) (count i : ℕ) (x y : ℤ) (sum : SumOf post count i x) (there : i < count) (answer : post i y) where
  sum_more : SumOf post count (i + 1) (x +ℤ y)
  sum_more =
      record {
        value = λ f h. rw (sum.value f h, h i y there answer) (sym (sum_to_more i f));
        size = λ most h. omega (arith, lin, sum.size most h, h i y there answer);
      }

  module _ (few : count ≤ 4096) (fits : NoneLarger post count (2 ^ 50)) where
    small : nat_abs (x +ℤ y) < 2 ^ 63
    small = omega (arith, sum_more.size (2 ^ 50) fits)

    word : to_z w64 (of_z w64 y) ≡ y
    word = same_bits y (omega (arith, fits i y there answer))

    pub sum_fits : SFits w64 (x +ℤ to_z w64 (of_z w64 y))
    sum_fits = rw word (fits_word (x +ℤ y) small)

    pub sum_added : SumOf post count (i + 1) (to_z w64 (of_z w64 (x +ℤ to_z w64 (of_z w64 y))))
    sum_added = rw (word, same_bits (x +ℤ y) small) sum_more

-- the sum of all answers: what it is where they are those of f, and how large where none is larger than so much
module _ {post : ℕ → ℤ → Type 0} {count : ℕ} {x : ℤ} (sum : SumOf post count count x) (known : mag x < 2 ^ 63) where
  pub sum_is : (n : ℕ) (f : ℕ → ℤ) → Answers post count f → count ≡ n → to_z w64 (of_z w64 x) ≡ sum_to n f
  sum_is n f h e = rw (same_word x known, sym e) (sum.value f h)

  pub low_over_rays : NoneLarger post count (2 ^ 44) → count ≤ 4096 → nat_abs (to_z w64 (of_z w64 x)) ≤ 2 ^ 56
  low_over_rays h few = rw (same_word x known) (omega (arith, sum.size (2 ^ 44) h))

  pub steps_over_pixels : NoneLarger post count 2046 → count ≤ 2304 → nat_abs (to_z w64 (of_z w64 x)) ≤ 4713984
  steps_over_pixels h few = rw (same_word x known) (omega (arith, sum.size 2046 h))

  pub products_over_pixels : NoneLarger post count (1023 * (2 ^ 39 + 2 ^ 22)) → count ≤ 2304 → nat_abs (to_z w64 (of_z w64 x)) ≤ 1023 * (2 ^ 39 + 2 ^ 22) * 2304
  products_over_pixels h few = rw (same_word x known) (omega (arith, sum.size (1023 * (2 ^ 39 + 2 ^ 22)) h))

-- A signed number and its 64 bits. Assumes nothing.
use Rattle.std.proofs.Common.{◌≡◌, ◌^◌, ◌<◌, ℤ, ◌+ℤ◌, ◌-ℤ◌, ◌*ℤ◌, nat_abs, arith, w64, SFits, to_z, of_z}
use lib.Signed.{mag}
use Rattle.std.proofs.lemmas.Int.{ints}

-- a number that is below 2^63 in size fits an i64, and comes back from its bits
pub fits_word : (x : ℤ) → nat_abs x < 2 ^ 63 → SFits w64 x
fits_word x h = omega (arith, ints)

pub same_bits : (x : ℤ) → nat_abs x < 2 ^ 63 → to_z w64 (of_z w64 x) ≡ x
same_bits x h = omega (arith, ints)

-- a call's answer comes back from its bits
pub same_word : (x : ℤ) → mag x < 2 ^ 63 → to_z w64 (of_z w64 x) ≡ x
same_word x h = omega (arith, ints)

-- one operation after another: the operands are known, and the exact result fits
module _ (x' y' x y : ℤ) (ex : x' ≡ x) (ey : y' ≡ y) where
  pub add_words : nat_abs (x +ℤ y) < 2 ^ 63 → to_z w64 (of_z w64 (x' +ℤ y')) ≡ x +ℤ y
  add_words h = rw (ex, ey) (same_bits (x +ℤ y) h)

  pub add_fits : nat_abs (x +ℤ y) < 2 ^ 63 → SFits w64 (x' +ℤ y')
  add_fits h = rw (ex, ey) (fits_word (x +ℤ y) h)

  pub sub_words : nat_abs (x -ℤ y) < 2 ^ 63 → to_z w64 (of_z w64 (x' -ℤ y')) ≡ x -ℤ y
  sub_words h = rw (ex, ey) (same_bits (x -ℤ y) h)

  pub mul_words : nat_abs (x *ℤ y) < 2 ^ 63 → to_z w64 (of_z w64 (x' *ℤ y')) ≡ x *ℤ y
  mul_words h = rw (ex, ey) (same_bits (x *ℤ y) h)

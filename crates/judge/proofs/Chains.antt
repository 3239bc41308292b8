-- Several sums in a row, each read back from its 64 bits. Assumes nothing.
use Rattle.std.proofs.Common.{◌≡◌, ◌+◌, ◌*◌, ◌^◌, ◌≤◌, ℤ, pos, ◌+ℤ◌, ◌-ℤ◌, ◌*ℤ◌, neg_ℤ, nat_abs, arith, w64, SFits, to_z, of_z}
use Rattle.std.proofs.lemmas.Int.{ints}

abbrev word : ℤ → ℤ
word x = to_z w64 (of_z w64 x)

-- a pixel's share of the rays less two slopes, plus the slopes of its neighbours
module _ (x a b l : ℤ) (hx : nat_abs x ≤ 2 ^ 39) (ha : nat_abs a ≤ 1048576) (hb : nat_abs b ≤ 1048576) (hl : nat_abs l ≤ 1048576) where
  less : word (word (word x -ℤ word a) -ℤ word b) ≡ x -ℤ a -ℤ b
  less = omega (arith, ints)

  pub left_fits : SFits w64 (word (word (word x -ℤ word a) -ℤ word b) +ℤ word l)
  left_fits = omega (arith, ints, less)

  with_left : word (word (word (word x -ℤ word a) -ℤ word b) +ℤ word l) ≡ x -ℤ a -ℤ b +ℤ l
  with_left = omega (arith, ints, less)

  module _ (u : ℤ) (hu : nat_abs u ≤ 1048576) where
    pub above_fits : SFits w64 (word (word (word (word x -ℤ word a) -ℤ word b) +ℤ word l) +ℤ word u)
    above_fits = omega (arith, ints, with_left)

    pub adjoint_is : word (word (word (word (word x -ℤ word a) -ℤ word b) +ℤ word l) +ℤ word u) ≡ x -ℤ a -ℤ b +ℤ l +ℤ u
    adjoint_is = omega (arith, ints, with_left)

    pub adjoint_low : nat_abs (word (word (word (word (word x -ℤ word a) -ℤ word b) +ℤ word l) +ℤ word u)) ≤ 2 ^ 39 + 2 ^ 22
    adjoint_low = rw adjoint_is (omega (arith, ints))

-- the price, the readings and the densities
module _ (a b d : ℤ) (ha : nat_abs a ≤ 2 ^ 56) (hb : nat_abs b ≤ 2 ^ 56) (hd : nat_abs d ≤ 1023 * (2 ^ 39 + 2 ^ 22) * 2304) where
  first_two : word (word (pos 0 -ℤ word a) -ℤ word (pos 2 *ℤ word b)) ≡ pos 0 -ℤ a -ℤ pos 2 *ℤ b
  first_two = omega (arith, ints)

  pub bound_fits : SFits w64 (word (word (pos 0 -ℤ word a) -ℤ word (pos 2 *ℤ word b)) +ℤ word (pos 2 *ℤ word d))
  bound_fits = omega (arith, ints, first_two)

  pub bound_is : word (word (word (pos 0 -ℤ word a) -ℤ word (pos 2 *ℤ word b)) +ℤ word (pos 2 *ℤ word d)) ≡ neg_ℤ a -ℤ pos 2 *ℤ b +ℤ pos 2 *ℤ d
  bound_is = omega (arith, ints, first_two)

  pub bound_low : nat_abs (word (word (word (pos 0 -ℤ word a) -ℤ word (pos 2 *ℤ word b)) +ℤ word (pos 2 *ℤ word d))) ≤ 3 * 2 ^ 60
  bound_low = rw bound_is (omega (arith, ints))

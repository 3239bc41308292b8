-- The laws of the two misfits. Assumes nothing.
use Rattle.std.specs.Prelude.{◌≡◌, ℕ, ◌*◌, ◌^◌, ◌≤◌, ℤ, pos, negsuc, ◌+ℤ◌, ◌-ℤ◌, ◌*ℤ◌, FitsSigned, unsigned_abs, refl}
use Rattle.std.proofs.Common.{◌∙◌, arith}
use Rattle.std.specs.Int.{w64}
use borrow.Author.Differences.{ints}
use Rattle.std.proofs.lemmas.Nat.{mul-le as product_le}
use lib.IntN.{*ℤ_comm}
use Rattle.std.proofs.lemmas.Int.{fits_signed_mul, to_z-of_z}
use Rattle.algebra.proofs.Integers.{lin, mul_assoc, mul-sub, sub-mul, scale, mul_left_comm, mul-le, product_low, by_signed_limit, signed_limit_low}
use Rattle.problem.specs.Misfits.{LawfulMisfit, Modest, widest}
use Rattle.misfits.specs.Meanings.{square, absolute}

square_is : (a : ℤ) → a *ℤ a ≡ pos (unsigned_abs a * unsigned_abs a)
square_is (pos a) = refl
square_is (negsuc a) = refl

modest : (n : ℕ) → n ≤ 2 ^ 44 → Modest (pos n)
modest n h = (omega (arith, ints), omega (arith, ints))

square_modest : (a : ℤ) → unsigned_abs a ≤ widest → Modest (a *ℤ a)
square_modest a h = rw (square_is a) (modest (unsigned_abs a * unsigned_abs a) (product_le (unsigned_abs a) (unsigned_abs a) widest widest h h))

pub product_fits : (a b : ℤ) → unsigned_abs a ≤ widest → unsigned_abs b ≤ widest → FitsSigned w64 (a *ℤ b)
product_fits a b h k = fits_signed_mul w64 a b widest widest h k (omega arith)

-- for `grind`: such a product, read back from its bits
pub ruleset product_steps = (product_fits, to_z-of_z)

square_of : (a b : ℤ) → (a -ℤ b) *ℤ (a -ℤ b) ≡ a *ℤ a +ℤ b *ℤ b -ℤ (a *ℤ b +ℤ a *ℤ b)
square_of a b = omega (arith, lin, mul-sub (a -ℤ b) a b, sub-mul a b a, sub-mul a b b, *ℤ_comm b a)

pub square_lawful : LawfulMisfit square
square_lawful =
    record {
      end_low = omega arith;
      young = λ d n p h k.
          let t : (pos d *ℤ p) *ℤ (pos d *ℤ p) ≡ pos (d * d) *ℤ (p *ℤ p) = mul_assoc (pos d) p (pos d *ℤ p) ∙ rw (mul_left_comm p (pos d) p) (scale d d (p *ℤ p)) in
          omega (arith, ints, square_of n (pos d *ℤ p), square_is (n -ℤ pos d *ℤ p), t, mul_left_comm n (pos d) p);
      answered = λ r h. h;
      tight = λ r h. omega (arith, ints);
      cost_modest = square_modest;
      conjugate_modest = square_modest;
    }

pub absolute_lawful : (slope : ℕ) → slope ≤ 1024 → LawfulMisfit (absolute slope)
absolute_lawful slope low =
    record {
      end_low = omega arith;
      young = λ d n p h k. omega (arith, lin, mul-le (2 * d) _ _ (product_low n p slope k));
      answered = λ r h. signed_limit_low r slope;
      tight = λ r h. rw (by_signed_limit r slope) (omega (arith, ints));
      cost_modest = λ r h. modest (2 * slope * 1 * unsigned_abs r) (omega (arith, product_le slope (unsigned_abs r) 1024 widest low h));
      conjugate_modest = λ p h. modest 0 (omega arith);
    }

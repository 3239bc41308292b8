-- How large the judge's products can be. Assumes nothing.
use Rattle.std.proofs.Common.{ℕ, ◌≤◌, ◌*◌, ◌+◌, ◌^◌, ℤ, pos, ◌*ℤ◌, nat_abs, arith}
use lib.IntN.{*ℤ_comm}
use Rattle.std.specs.Int.{int_min}
use Rattle.std.proofs.lemmas.Int.{clamps, unsigned_abs-mul}
use Rattle.std.proofs.lemmas.Nat.{mul-le}
use Rattle.algebra.proofs.Integers.{lin}
use Rattle.algebra.proofs.Words.{same_bits}
use Rattle.problem.specs.Scans.{ScanMeaning, LawfulScan, ray_at}
use Rattle.problem.proofs.Rays.{lawful_ray}

-- the smaller of two densities times a number
pub smaller_low : (low high : ℕ) (w : ℤ) → low ≤ 1023 → high ≤ 1023 → nat_abs w ≤ 2 ^ 39 + 2 ^ 22 → nat_abs (int_min (pos low *ℤ w) (pos high *ℤ w)) ≤ 1023 * (2 ^ 39 + 2 ^ 22)
smaller_low low high w a b h =
    omega (arith, lin, clamps, unsigned_abs-mul (pos low) w, unsigned_abs-mul (pos high) w, mul-le low (nat_abs w) 1023 (2 ^ 39 + 2 ^ 22) a h, mul-le high (nat_abs w) 1023 (2 ^ 39 + 2 ^ 22) b h)

-- twice the strength times the roughness
pub strong_low : (k : ℕ) (t : ℤ) → k ≤ 1048576 → nat_abs t ≤ 4713984 → 2 * k * nat_abs t ≤ 2 ^ 44
strong_low k t a b = omega (arith, mul-le (2 * k) (nat_abs t) 2097152 4713984 (omega arith) b)

-- a reading times a ray number
pub reading_low : (s : ScanMeaning) (l : LawfulScan s) (i : ℕ) (x : ℤ) → nat_abs x ≤ 4194304 → (ray_at s i).reading * nat_abs x ≤ 2 ^ 44
reading_low s l i x h =
    omega (arith, mul-le (ray_at s i).reading (nat_abs x) 4194304 4194304 (omega (arith, (lawful_ray s l i).low, l.reading_cap_low)) h)

-- for `grind`: that product, from either side
pub ruleset readings = (same_bits, *ℤ_comm, reading_low)

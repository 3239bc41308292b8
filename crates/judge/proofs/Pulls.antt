-- Ray numbers carried back to the pixels, entry by entry and ray by ray. Assumes nothing.
use Rattle.std.proofs.Common.{◌≡◌, ℕ, ◌+◌, ◌*◌, ◌^◌, ◌<◌, ◌≤◌, cond, eqb, List, length, take, set, ℤ, pos, ◌+ℤ◌, ◌*ℤ◌, nat_abs, Some, sum_by, ◌∙◌, arith}
use Rattle.std.proofs.lemmas.Nat.{mul-le}
use Rattle.std.proofs.lemmas.Grind.{common_steps}
use Rattle.std.proofs.lemmas.Bool.Decides.{nat_tests}
use Rattle.std.proofs.lemmas.List.Sums.{sum_by_more, sum_by-take-le}
use Rattle.algebra.specs.Sums.{sum_to}
use Rattle.algebra.proofs.Sums.{sum_to_more}
use Rattle.std.proofs.lemmas.Int.{unsigned_abs-mul}
use Rattle.algebra.proofs.Integers.{lin}
use Rattle.problem.specs.Scans.{Ray, ScanMeaning, LawfulScan, no_ray, ray_at, entry_at, weight_at, ray_weight_at}
use Rattle.problem.specs.Bound.{at, entry_pull, ray_pull, pull_of}
use Rattle.judge.proofs.Rays.{entry_is, entry_more}

-- the first k entries of a ray with the number p have been added
abbrev pub Pulled : ℤ → Ray → ℕ → List ℤ → List ℤ → Type 0
Pulled p r k old w = (j : ℕ) → j < length old → at w j ≡ at old j +ℤ sum_to k (entry_pull j p r)

-- the weights of pixel j on the first i rays and the first k entries of ray i
abbrev pub weight_so_far : ScanMeaning → ℕ → ℕ → ℕ → ℕ
weight_so_far s i k j = sum_by (ray_weight_at j) (take i s.rays) + sum_by (weight_at j) (take k (ray_at s i).entries)

abbrev pub Lighter : ScanMeaning → ℕ → ℕ → List ℤ → Type 0
Lighter s i k w = (j : ℕ) → nat_abs (at w j) ≤ 4194304 * weight_so_far s i k j

-- the first i rays have been added
abbrev pub Projected : ScanMeaning → List ℤ → ℕ → List ℤ → Type 0
Projected s p i w = (j : ℕ) → j < length w → at w j ≡ sum_to i (pull_of s p j)

module _ (s : ScanMeaning) (l : LawfulScan s) (i : ℕ) (there : i < length s.rays) where
  ray_more : (j : ℕ) → sum_by (ray_weight_at j) (take (i + 1) s.rays) ≡ sum_by (ray_weight_at j) (take i s.rays) + ray_weight_at j (ray_at s i)
  ray_more j = sum_by_more (ray_weight_at j) s.rays i no_ray there

  -- no pixel's weights pass the law
  weight_low : (k j : ℕ) → weight_so_far s i k j ≤ 131072
  weight_low k j =
      omega (arith, ray_more j, sum_by-take-le (weight_at j) (ray_at s i).entries k, sum_by-take-le (ray_weight_at j) s.rays (i + 1), l.each_pixel j, l.pixel_cap_low)

  module _ (k x y : ℕ) (p : ℤ) (is : Some (x, y) ≡ entry_at s i k) (sized : nat_abs p ≤ 4194304) where
    weight_more : (j : ℕ) → weight_so_far s i (k + 1) j ≡ weight_so_far s i k j + cond (eqb x j) y 0
    weight_more j = omega (arith, entry_more s l i k x y is (weight_at j))

    pull_more : (j : ℕ) → sum_to (k + 1) (entry_pull j p (ray_at s i)) ≡ sum_to k (entry_pull j p (ray_at s i)) +ℤ cond (eqb x j) (pos y *ℤ p) (pos 0)
    unfolding entry_pull
    pull_more j = sum_to_more k (entry_pull j p (ray_at s i)) ∙ rw (entry_is s l i k x y is)

    entry_low : (w : List ℤ) → Lighter s i k w → nat_abs (at w x +ℤ pos y *ℤ p) ≤ 4194304 * weight_so_far s i (k + 1) x
    entry_low w h = grind (arith, lin, nat_tests, h x, weight_more x, unsigned_abs-mul (pos y) p, mul-le y (nat_abs p) y 4194304 (omega arith) sized)

    -- what is added fits
    pub entry_fits : (w : List ℤ) → Lighter s i k w → nat_abs (at w x +ℤ pos y *ℤ p) < 2 ^ 63
    entry_fits w h = omega (arith, entry_low w h, weight_low (k + 1) x)

    module _ (old w : List ℤ) (inside : x < length w) where
      lighter_more : Lighter s i k w → Lighter s i (k + 1) (set w x (at w x +ℤ pos y *ℤ p))
      lighter_more h j = grind (arith, common_steps, nat_tests, entry_low w h, weight_more j, h j)

      pulled_more : Pulled p (ray_at s i) k old w → Pulled p (ray_at s i) (k + 1) old (set w x (at w x +ℤ pos y *ℤ p))
      pulled_more h j jl = grind (arith, common_steps, nat_tests, lin, pull_more j, h j jl)

      -- one entry more
      pub entry_added : (w' : List ℤ) → w' ≡ set w x (at w x +ℤ pos y *ℤ p) → Pulled p (ray_at s i) k old w × Lighter s i k w → Pulled p (ray_at s i) (k + 1) old w' × Lighter s i (k + 1) w'
      entry_added w' e h = rw e (pulled_more h.0, lighter_more h.1)

-- one ray more
pub projected_more : (s : ScanMeaning) (p : List ℤ) (i : ℕ) (w w' : List ℤ) → length w' ≡ length w → Projected s p i w → ((j : ℕ) → j < length w → at w' j ≡ at w j +ℤ ray_pull j (at p i) (ray_at s i)) → Projected s p (i + 1) w'
unfolding pull_of
projected_more s p i w w' n h step j lt = omega (arith, lin, step j (omega arith), h j (omega arith), sum_to_more i (pull_of s p j))

-- Ray sums against what the rays carry back to the pixels, and the size of a residual. Assumes nothing.
use Rattle.std.proofs.Common.{◌≡◌, ℕ, zero, suc, ◌*◌, ◌<◌, ◌≤◌, cond, eqb, List, length, get_or, take, ℤ, pos, ◌*ℤ◌, ◌≤ℤ◌, sum_by, sym, refl, ◌∙◌, add-one, mul-le-mul_left, arith}
use lib.IntN.{zero-*ℤ, *ℤ_comm}
use Rattle.std.proofs.lemmas.List.Sums.{sum_by_more, sum_by-take-le}
use Rattle.std.proofs.lemmas.Bool.{eq-eqb, ne_eqb}
use Rattle.algebra.specs.Sums.{sum_to}
use Rattle.algebra.proofs.Integers.{lin, mul_assoc}
use Rattle.algebra.proofs.Sums.{sum_to_cong, sum_to_only, sum_to_swap, sum_to-mul, mul-sum_to}
use Rattle.problem.specs.Scans.{Ray, ScanMeaning, LawfulScan, ray_at, weight}
use Rattle.problem.specs.Misfits.{Reached}
use Rattle.problem.proofs.Rays.{lawful_ray, entry_inside}
use Rattle.problem.specs.Objective.{pixel, ray_term, ray_sum, residual}
use Rattle.problem.specs.Bound.{at, entry_pull, ray_pull, pull_of, back_projection}

module _ (v : List ℕ) (n : ℕ) where
  -- an entry's pull is met by its own pixel alone
  entry_exchange : (p : ℤ) (r : Ray) (k : ℕ) → (get_or r.entries k (0, 0)).0 < n → sum_to n (λ j. entry_pull j p r k *ℤ pixel v j) ≡ p *ℤ ray_term v r k
  unfolding entry_pull ray_term
  entry_exchange p r k h =
      let e : ℕ × ℕ = get_or r.entries k (0, 0) in
      sum_to_only n e.0 (λ j. cond (eqb e.0 j) (pos e.1 *ℤ p) (pos 0) *ℤ pixel v j) h
      (λ j l apart. rw (ne_eqb e.0 j (λ c. apart (sym c)), zero-*ℤ))
      ∙ rw (eq-eqb e.0 e.0 refl, *ℤ_comm (pos e.1) p, mul_assoc)

  ray_exchange : (p : ℤ) (r : Ray) → ((k : ℕ) → k < length r.entries → (get_or r.entries k (0, 0)).0 < n) → sum_to n (λ j. ray_pull j p r *ℤ pixel v j) ≡ p *ℤ ray_sum v r
  unfolding ray_pull ray_sum
  ray_exchange p r h =
      simp (sum_to-mul, mul-sum_to)
      (sum_to_swap n (length r.entries) (λ j k. entry_pull j p r k *ℤ pixel v j)
      ∙ sum_to_cong (length r.entries) _ _ (λ k l. entry_exchange p r k (h k l)))

-- ray number × ray sum over the rays is back projection × pixel over the pixels
pub rays_exchange : (s : ScanMeaning) → LawfulScan s → (p : List ℤ) (v : List ℕ) → sum_to s.pixels (λ j. back_projection s p j *ℤ pixel v j) ≡ sum_to (length s.rays) (λ i. at p i *ℤ ray_sum v (ray_at s i))
unfolding back_projection pull_of
rays_exchange s l p v =
    simp sum_to-mul
    (sum_to_swap s.pixels (length s.rays) (λ j i. pull_of s p j i *ℤ pixel v j)
    ∙ sum_to_cong (length s.rays) _ _ (λ i m. ray_exchange v s.pixels (at p i) (ray_at s i) (entry_inside s l i)))

-- a ray's sum is at most 1023 for each weight, where no pixel is above 1023
module _ (v : List ℕ) (r : Ray) (dense : (j : ℕ) → get_or v j 0 ≤ 1023) where
  sum_low : (k : ℕ) → k ≤ length r.entries → (pos 0 ≤ℤ sum_to k (ray_term v r)) × (sum_to k (ray_term v r) ≤ℤ pos (1023 * sum_by weight (take k r.entries)))
  unfolding ray_term
  sum_low zero h = omega (arith, lin)
  sum_low (suc k) h =
      let e : ℕ × ℕ = get_or r.entries k (0, 0) in
      let more = rw add-one at (sum_by_more weight r.entries k (0, 0) (omega arith)) in
      omega (arith, lin, sum_low k (omega arith), mul-le-mul_left e.1 (dense e.0), more)

module _ (s : ScanMeaning) (l : LawfulScan s) (v : List ℕ) (dense : (j : ℕ) → get_or v j 0 ≤ 1023) (i : ℕ) where
  -- neither the sum of a ray nor a part of it is above 1023 × 4096
  pub ray_sum_low : (k : ℕ) → k ≤ length (ray_at s i).entries → (pos 0 ≤ℤ sum_to k (ray_term v (ray_at s i))) × (sum_to k (ray_term v (ray_at s i)) ≤ℤ pos 4190208)
  ray_sum_low k h =
      let light = sum_by-take-le weight (ray_at s i).entries k in
      omega (arith, lin, sum_low v (ray_at s i) dense k h, light, (lawful_ray s l i).light, l.ray_cap_low)

  -- every residual is one that the misfit's law speaks of
  pub residual_reached : Reached (residual 1 v (ray_at s i))
  unfolding residual ray_sum
  residual_reached =
      omega (arith, lin, ray_sum_low (length (ray_at s i).entries) (omega arith), (lawful_ray s l i).low, l.reading_cap_low)

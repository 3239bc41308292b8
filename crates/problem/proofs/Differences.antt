-- Differences of neighbours against what their slopes carry back to the pixels. Assumes nothing.
use Rattle.std.proofs.Common.{◌≡◌, ℕ, ◌+◌, ◌-◌, ◌*◌, ◌<◌, ◌≤◌, Bool, true, false, cond, List, ℤ, pos, ◌+ℤ◌, ◌-ℤ◌, ◌*ℤ◌, nat_abs, ◌∙◌, mul-le-mul_left, arith}
use lib.IntN.{zero-*ℤ}
use Rattle.std.proofs.lemmas.Bool.{ltb-true}
use Rattle.std.proofs.lemmas.Bool.Decides.{nat_tests}
use Rattle.algebra.specs.Sums.{sum_to}
use Rattle.algebra.proofs.Integers.{lin, mul-sub, sub-mul, add-mul}
use Rattle.algebra.proofs.Sums.{sum_to_cong, sum_to-add, sum_to-sub, sum_to_pairs, sum_to_shift}
use Rattle.problem.specs.Setting.{pixel_count, row, has_right, has_below, has_left, has_above}
use Rattle.problem.proofs.Places.{right_in, below_in}
use Rattle.problem.specs.Objective.{pixel, right_difference, down_difference, roughness_at, total_variation}
use Rattle.problem.specs.Bound.{at, slope_from_left, slope_from_above, with_slopes}
use Rattle.problem.specs.Fitting.{has_difference, slope_limit}
use Rattle.problem.specs.Lagrangian.{difference, slope_share}
use Rattle.problem.specs.declared.settings.Settings.{Settings}

module _ (g : Settings) (v : List ℕ) where
  difference_even : (j : ℕ) → difference g v (2 * j) ≡ right_difference g v j
  unfolding difference
  difference_even j = grind (arith, nat_tests)

  difference_odd : (j : ℕ) → difference g v (2 * j + 1) ≡ down_difference g v j
  unfolding difference
  difference_odd j = grind (arith, nat_tests)

  -- the sum of the sizes of all differences in one row
  pub variation_in_row : total_variation g v ≡ sum_to (2 * pixel_count g) (λ k. pos (nat_abs (difference g v k)))
  unfolding total_variation roughness_at
  variation_in_row =
      rw sum_to_pairs (sum_to_cong (pixel_count g) _ _ (λ j l. rw (difference_even j, difference_odd j)))

  -- where the slice ends there is no difference
  pub ends_flat : (k : ℕ) → has_difference g k ≡ false → difference g v k ≡ pos 0
  unfolding difference right_difference down_difference
  ends_flat k e = grind arith

-- no slope may be larger than the strength
pub slope_limit_low : (g : Settings) (k : ℕ) → slope_limit g k ≤ g.strength
slope_limit_low g k = grind arith

-- one direction: a(j) is the slope of the difference of x(j + k) and x(j)
module _ (k n : ℕ) (a x : ℕ → ℤ) (next prev : ℕ → Bool)
    (ends : (j : ℕ) → j < n → next j ≡ false → a j ≡ pos 0)
    (last : (j : ℕ) → j < n → n ≤ j + k → next j ≡ false)
    (prev_yes : (j : ℕ) → j < n → prev j ≡ true → k ≤ j)
    (prev_no : (j : ℕ) → j < n → prev j ≡ false → k ≤ j → next (j - k) ≡ false) where
  one_way : sum_to n (λ j. a j *ℤ cond (next j) (x (j + k) -ℤ x j) (pos 0)) ≡ sum_to n (λ j. (cond (prev j) (a (j - k)) (pos 0) -ℤ a j) *ℤ x j)
  one_way =
      sum_to_cong n _ (λ j. a j *ℤ x (j + k) -ℤ a j *ℤ x j) (λ j l. grind (arith, ends, mul-sub, zero-*ℤ))
      ∙ sum_to-sub n (λ j. a j *ℤ x (j + k)) (λ j. a j *ℤ x j)
      ∙ rw (sum_to_shift k n a x (λ i l m. ends i l (last i l m)), ← sum_to-sub)
      (sum_to_cong n _ _ (λ j l. grind (arith, nat_tests, ends, prev_yes, prev_no, sub-mul)))

module _ (g : Settings) (q : List ℤ) (v : List ℕ) (within : (k : ℕ) → k < 2 * pixel_count g → nat_abs (at q k) ≤ slope_limit g k) where
  none_left : (k : ℕ) → k < 2 * pixel_count g → has_difference g k ≡ false → at q k ≡ pos 0
  none_left k l e = let z = rw e at (within k l) in omega (arith, lin, z)

  -- what the right and the down slopes carry back
  abbrev rights : ℕ → ℤ
  rights j = (slope_from_left g q j -ℤ at q (2 * j)) *ℤ pixel v j

  abbrev downs : ℕ → ℤ
  downs j = (slope_from_above g q j -ℤ at q (2 * j + 1)) *ℤ pixel v j

  right_exchange : sum_to (pixel_count g) (λ j. at q (2 * j) *ℤ right_difference g v j) ≡ sum_to (pixel_count g) rights
  unfolding right_difference slope_from_left
  right_exchange =
      one_way 1 (pixel_count g) (λ j. at q (2 * j)) (pixel v) (has_right g) (has_left g)
      (λ j l e. none_left (2 * j) (omega arith) (grind (arith, nat_tests)))
      (λ j l m. grind (arith, nat_tests, right_in g.columns g.rows j g.sized.0 l))
      (λ j l e. grind (arith, nat_tests))
      (λ j l e m. grind (arith, nat_tests, right_in g.columns (row g j) (j - 1) g.sized.0))

  down_exchange : sum_to (pixel_count g) (λ j. at q (2 * j + 1) *ℤ down_difference g v j) ≡ sum_to (pixel_count g) downs
  unfolding down_difference slope_from_above
  down_exchange =
      one_way g.columns (pixel_count g) (λ j. at q (2 * j + 1)) (pixel v) (has_below g) (has_above g)
      (λ j l e. none_left (2 * j + 1) (omega arith) (grind (arith, nat_tests)))
      (λ j l m. grind (arith, nat_tests, below_in g.columns g.rows j g.sized.0))
      (λ j l e. omega (arith, mul-le-mul_left g.columns (ltb-true 0 (row g j) e)))
      (λ j l e m. grind (arith, nat_tests))

  -- slope × difference over the differences is what the slopes carry back × pixel over the pixels
  pub slopes_exchange : sum_to (pixel_count g) (λ j. with_slopes g q j (pos 0) *ℤ pixel v j) ≡ sum_to (2 * pixel_count g) (slope_share g v q)
  unfolding with_slopes slope_share
  slopes_exchange =
      sum_to_cong (pixel_count g) _ (λ j. rights j +ℤ downs j) (λ j l. simp (sub-mul, add-mul, zero-*ℤ) (omega (arith, lin)))
      ∙ sum_to-add (pixel_count g) rights downs
      ∙ rw (← right_exchange, ← down_exchange, ← sum_to-add, sum_to_pairs)
      (sum_to_cong (pixel_count g) _ _ (λ j l. rw (difference_even g v j, difference_odd g v j)))

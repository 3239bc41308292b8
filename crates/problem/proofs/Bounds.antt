-- The Lagrangian by pixels, and the bound under it. Assumes nothing.
use Rattle.std.proofs.Common.{◌≡◌, ℕ, suc, ◌*◌, ◌<◌, ◌≤◌, cond, List, length, get_or, ℤ, pos, negsuc, ◌+ℤ◌, ◌-ℤ◌, ◌*ℤ◌, neg_ℤ, ◌≤ℤ◌, ◌∙◌, mul-le-mul_left, arith}
use lib.IntN.{zero-*ℤ, *ℤ_comm}
use lib.Signed.{non_neg}
use Rattle.std.proofs.lemmas.List.FromFn.{length-map-range_with_len, get_or-map-range_with_len}
use Rattle.std.proofs.lemmas.Int.{ints, clamps}
use Rattle.algebra.specs.Sums.{sum_to}
use Rattle.algebra.proofs.Integers.{lin, mul-add, mul-neg, mul-sub, add-mul, sub-mul, scale, mul_left_comm, mul-le}
use Rattle.algebra.proofs.Sums.{sum_to_cong, sum_to_le, sum_to-add, sum_to-sub, mul-sum_to}
use Rattle.problem.specs.Setting.{pixel_count}
use Rattle.problem.specs.Scans.{ray_at}
use Rattle.problem.specs.Objective.{Problem, pixel, ray_sum, residual}
use Rattle.problem.specs.Bound.{at, pull_of, back_projection, with_slopes, adjoint, least_product, density_term, price_of, reading_term, prices, readings_product, density_product, bound}
use Rattle.problem.specs.Fitting.{ImageFits, DualsFit}
use Rattle.problem.specs.Lagrangian.{ray_share, slope_share, lagrangian_at, lagrangian}
use Rattle.problem.specs.Saddle.{LawfulProblem, answering_density, answering_image}
use Rattle.problem.specs.declared.settings.Settings.{Settings}
use Rattle.problem.proofs.Exchange.{rays_exchange}
use Rattle.problem.proofs.Differences.{slopes_exchange}

-- w × pixel over the pixels
abbrev carried : Problem → List ℤ → List ℤ → List ℕ → ℤ
carried P p q v = sum_to (pixel_count P.settings) (λ j. adjoint P.settings P.scan p q j *ℤ pixel v j)

-- ray number × ray sum over the rays
abbrev crossed : Problem → List ℤ → List ℕ → ℤ
crossed P p v = sum_to (length P.scan.rays) (λ i. at p i *ℤ ray_sum v (ray_at P.scan i))

-- slope × difference over the differences
abbrev sloped : Problem → List ℤ → List ℕ → ℤ
sloped P q v = sum_to (2 * pixel_count P.settings) (slope_share P.settings v q)

-- the part of bound and Lagrangian that no image changes
abbrev fixed : Problem → List ℤ → ℤ
fixed P p = neg_ℤ (prices P.misfit P.scan p) -ℤ pos 2 *ℤ readings_product P.scan p

-- the shares of the rays, by their parts
rays_apart : (P : Problem) (p : List ℤ) (d : ℕ) (v : List ℕ) → sum_to (length P.scan.rays) (ray_share P d v p) ≡ pos (2 * d) *ℤ (crossed P p v -ℤ pos d *ℤ readings_product P.scan p) -ℤ pos (d * d) *ℤ prices P.misfit P.scan p
unfolding ray_share residual readings_product reading_term prices price_of
rays_apart P p d v =
    simp (mul-sum_to, ← sum_to-sub)
    (sum_to_cong (length P.scan.rays) _ _ (λ i l.
    let r = ray_at P.scan i in
    rw (*ℤ_comm (residual d v r) (at p i), mul_left_comm (pos d) (at p i) (pos r.reading), ← mul-sub)))

-- d × d × (2 × x) is 2 × d × (d × x)
twice : (d : ℕ) (x : ℤ) → pos (d * d) *ℤ (pos 2 *ℤ x) ≡ pos (2 * d) *ℤ (pos d *ℤ x)
twice d x = let e : d * d * 2 ≡ 2 * d * d = omega arith in simp (scale, e)

-- the least that a density within the limits makes of w, and the density that does
smaller : (g : Settings) (w : ℤ) → least_product g w ≡ w *ℤ pos (cond (non_neg w) g.lowest g.highest)
unfolding least_product
smaller g w = grind (arith, ints, clamps, g.dense)

module _ (P : Problem) (p q : List ℤ) where
  -- no image within the limits makes less of w than the density limits allow
  carried_low : (d : ℕ) (v : List ℕ) → ImageFits P.settings d v → (pos d *ℤ density_product P.settings P.scan p q) ≤ℤ carried P p q v
  unfolding density_product density_term
  carried_low d v i =
      let g = P.settings in
      rw mul-sum_to
      (sum_to_le (pixel_count g) _ _ (λ j m.
      let w = adjoint g P.scan p q j in
      let h = i.within j (omega arith) in
      rw (smaller g w) (pixel_le d g.lowest g.highest (get_or v j 0) w h.0 h.1)))
    where
      pixel_le : (d low high x : ℕ) (w : ℤ) → d * low ≤ x → x ≤ d * high → (pos d *ℤ (w *ℤ pos (cond (non_neg w) low high))) ≤ℤ (w *ℤ pos x)
      pixel_le d low high x (pos n) h k = omega (arith, lin, mul-le-mul_left n h)
      pixel_le d low high x (negsuc n) h k = omega (arith, lin, mul-neg (pos d) (pos (suc n * high)), mul-le-mul_left (suc n) k)

  -- the answering image is within the limits, and makes the least of w
  dense_at : (j : ℕ) → j < pixel_count P.settings → get_or (answering_image P p q) j 0 ≡ answering_density P p q j
  dense_at j h = get_or-map-range_with_len (answering_density P p q) 0 (pixel_count P.settings) j j 0 h (omega arith)

  pub answering_image_fits : ImageFits P.settings 1 (answering_image P p q)
  unfolding answering_density
  answering_image_fits =
      let g = P.settings in
      let size = length-map-range_with_len (answering_density P p q) 0 (pixel_count g) in
      record { length_is = size; within = λ j h. rw (dense_at j (omega (arith, size))) (grind (arith, g.dense)) }

  answering_carried : carried P p q (answering_image P p q) ≡ density_product P.settings P.scan p q
  unfolding density_product density_term answering_density
  answering_carried =
      let g = P.settings in
      sum_to_cong (pixel_count g) _ _ (λ j m. rw (dense_at j m, smaller g (adjoint g P.scan p q j)))

module _ (P : Problem) (l : LawfulProblem P) (p q : List ℤ) (fit : DualsFit P p q) where
  -- both exchanges of sums together: w is what carries rays and slopes to the pixels
  exchange : (v : List ℕ) → carried P p q v ≡ crossed P p v +ℤ sloped P q v
  unfolding adjoint with_slopes back_projection pull_of
  exchange v =
      let g = P.settings in
      rw (← rays_exchange P.scan l.scan_lawful p v, ← slopes_exchange g q v (λ k m. fit.slopes_within k (omega arith)), ← l.pixels, ← sum_to-add)
      (sum_to_cong (pixel_count g) _ _ (λ j m. simp (sub-mul, add-mul, zero-*ℤ) (omega (arith, lin))))

  -- the Lagrangian by pixels
  by_pixels : (d : ℕ) (v : List ℕ) → lagrangian_at P d v p q ≡ pos (2 * d) *ℤ carried P p q v +ℤ pos (d * d) *ℤ fixed P p
  unfolding lagrangian_at
  by_pixels d v = rw (rays_apart P p d v, exchange v) (simp (mul-add, mul-neg, twice) (omega (arith, lin)))

  -- the bound is under the Lagrangian of every image within the limits
  pub bound_below : (d : ℕ) (v : List ℕ) → ImageFits P.settings d v → (pos (d * d) *ℤ bound P p q) ≤ℤ lagrangian_at P d v p q
  unfolding bound
  bound_below d v i =
      rw (by_pixels d v) (simp (mul-add, mul-neg, twice) (omega (arith, lin, mul-le (2 * d) _ _ (carried_low P p q d v i))))

  -- the answering image reaches it
  pub bound_reached : lagrangian P (answering_image P p q) p q ≡ bound P p q
  unfolding bound
  bound_reached = by_pixels 1 (answering_image P p q) ∙ rw (answering_carried P p q) (omega (arith, ints))

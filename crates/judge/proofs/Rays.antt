-- What the law of scans gives of one ray, and the steps of a sum along it. Assumes nothing.
use Rattle.std.proofs.Common.{◌≡◌, ℕ, ◌+◌, ◌*◌, ◌<◌, ◌≤◌, List, [], ◌∷◌, length, get_or, take, pos, ◌-ℤ◌, nat_abs, Some, None, sum_by, sym, ◌∙◌, arith}
use Rattle.std.specs.List.{slice_get, AllByRecursion}
use Rattle.std.proofs.lemmas.Grind.{common_steps}
use Rattle.std.proofs.lemmas.Option.{gets, slice_get-get_or, slice_get_within, get_or_from_slice_get}
use Rattle.std.proofs.lemmas.List.Sums.{sum_by-cons, sum_by_more, sum_by-take-le}
use Rattle.problem.specs.Scans.{ScanMeaning, LawfulScan, ray_at, entry_at, weight}
use Rattle.problem.proofs.Rays.{lawful_ray, entry_inside as inside}
use Rattle.algebra.proofs.Integers.{lin}
use Rattle.problem.specs.Objective.{ray_term, ray_sum, residual}
use Rattle.problem.proofs.Exchange.{residual_reached}
use Rattle.judge.specs.Sizes.{Dense}

-- a place within a ray has an entry
pub not_missing : (es : List (ℕ × ℕ)) (k : ℕ) → k < length es → None ≡ slice_get es k → ⊥
not_missing es k h is = cc (slice_get-get_or es k (0, 0) h)

module _ (s : ScanMeaning) (l : LawfulScan s) (i k p w : ℕ) (is : Some (p, w) ≡ entry_at s i k) where
  within : k < length (ray_at s i).entries
  within = slice_get_within (ray_at s i).entries k (p, w) (sym is)

  -- the k-th entry of the ray
  pub entry_is : get_or (ray_at s i).entries k (0, 0) ≡ (p, w)
  entry_is = get_or_from_slice_get (ray_at s i).entries k (p, w) (0, 0) (sym is)

  pub entry_inside : p < s.pixels
  entry_inside = rw entry_is at (inside s l i k within)

  -- one entry more of a sum of weights
  pub entry_more : (f : ℕ × ℕ → ℕ) → sum_by f (take (k + 1) (ray_at s i).entries) ≡ sum_by f (take k (ray_at s i).entries) + f (p, w)
  entry_more f = sum_by_more f (ray_at s i).entries k (0, 0) within ∙ rw entry_is

  pub weight_low : w ≤ 4096
  weight_low =
      omega (arith, entry_more weight, sum_by-take-le weight (ray_at s i).entries (k + 1), (lawful_ray s l i).light, l.ray_cap_low)

  -- the entry's share of the ray's sum
  pub ray_term_is : (u : List ℕ) → ray_term u (ray_at s i) k ≡ pos (w * get_or u p 0)
  unfolding ray_term
  ray_term_is u = rw entry_is

-- past the last entry there is no share
pub ray_term_past : (s : ScanMeaning) (i k : ℕ) (u : List ℕ) → None ≡ entry_at s i k → ray_term u (ray_at s i) k ≡ pos 0
unfolding ray_term
ray_term_past s i k u is = grind (arith, common_steps, gets)

-- weights are at least 1, so there are no more entries than weight
each_weighs : (es : List (ℕ × ℕ)) → AllByRecursion (λ e. 1 ≤ e.1) es → length es ≤ sum_by weight es
each_weighs [] h = omega arith
each_weighs (e ∷ es) h = omega (arith, h.0, each_weighs es h.1, sum_by-cons weight e es)

pub entries_few : (s : ScanMeaning) → LawfulScan s → (i : ℕ) → length (ray_at s i).entries ≤ 4096
entries_few s l i =
    let r = lawful_ray s l i in
    omega (arith, each_weighs (ray_at s i).entries r.weighty, r.light, l.ray_cap_low)

-- what is left of a ray's sum when its reading is taken off
pub residual_low : (s : ScanMeaning) (l : LawfulScan s) (u : List ℕ) (dense : Dense u) (i : ℕ) → nat_abs (ray_sum u (ray_at s i) -ℤ pos (ray_at s i).reading) ≤ 4194304
unfolding residual
residual_low s l u dense i = omega (arith, lin, residual_reached s l u dense i)

-- What the law of scans gives of one ray. Assumes nothing.
use Rattle.std.proofs.Common.{ℕ, ◌<◌, length, get_or, rules}
use Rattle.std.proofs.ByRecursion.{All-get_or}
use Rattle.algebra.proofs.Lists.{at_every_place}
use Rattle.problem.specs.Scans.{ScanMeaning, LawfulRay, LawfulScan, no_ray, ray_at}

module _ (s : ScanMeaning) (l : LawfulScan s) (i : ℕ) where
  -- a ray that is not there is lawful too
  pub lawful_ray : LawfulRay s (ray_at s i)
  lawful_ray =
      at_every_place (LawfulRay s) s.rays no_ray (search rules) (λ k h. All-get_or (LawfulRay s) s.rays k no_ray h l.each_ray) i

  pub entry_inside : (k : ℕ) → k < length (ray_at s i).entries → (get_or (ray_at s i).entries k (0, 0)).0 < s.pixels
  entry_inside k h = All-get_or (λ e. e.0 < s.pixels) (ray_at s i).entries k (0, 0) h lawful_ray.inside

-- What a scan means, and the law of scans. Assumes nothing.
use Rattle.std.specs.Prelude.{ℕ, ◌<◌, ◌≤◌, cond, List, [], length, sum_by, Option, ◌==◌, slice_index_or}
use Rattle.std.specs.List.{slice_get, AllByRecursion}

-- the pixels that a ray crosses, each with its weight, and what the detector read
pub record Ray : Type 0 where
  pub entries : List (ℕ × ℕ)
  pub reading : ℕ

-- the rays of a slice of so many pixels, and three caps: no ray's weights, no pixel's weights
-- over all rays and no reading add up to more
pub record ScanMeaning : Type 0 where
  pub pixels : ℕ
  pub rays : List Ray
  pub ray_cap : ℕ
  pub pixel_cap : ℕ
  pub reading_cap : ℕ

-- a ray that is not there has no entries and the reading 0
abbrev pub no_ray : Ray
no_ray = record { entries = []; reading = 0 }

abbrev pub ray_at : ScanMeaning → ℕ → Ray
ray_at s i = slice_index_or s.rays i no_ray

abbrev pub entry_at : ScanMeaning → ℕ → ℕ → Option (ℕ × ℕ)
entry_at s i k = slice_get (ray_at s i).entries k

abbrev pub weight : ℕ × ℕ → ℕ
weight e = e.1

-- an entry's weight if it is at pixel j, else 0
abbrev pub weight_at : ℕ → ℕ × ℕ → ℕ
weight_at j e = cond (e.0 == j) e.1 0

abbrev pub ray_weight : Ray → ℕ
ray_weight r = sum_by weight r.entries

-- the weights of pixel j on one ray
abbrev pub ray_weight_at : ℕ → Ray → ℕ
ray_weight_at j r = sum_by (weight_at j) r.entries

-- the weights of pixel j over all rays
abbrev pub pixel_weight : ScanMeaning → ℕ → ℕ
pixel_weight s j = sum_by (ray_weight_at j) s.rays

pub record LawfulRay (s : ScanMeaning) (r : Ray) : Type 0 where
  pub weighty : AllByRecursion (λ e. 1 ≤ e.1) r.entries
  pub inside : AllByRecursion (λ e. e.0 < s.pixels) r.entries
  pub light : ray_weight r ≤ s.ray_cap
  pub low : r.reading ≤ s.reading_cap

pub record LawfulScan (s : ScanMeaning) : Type 0 where
  pub some_pixels : 1 ≤ s.pixels
  pub few_pixels : s.pixels ≤ 2304
  pub few_rays : length s.rays ≤ 4096
  pub ray_cap_low : s.ray_cap ≤ 4096
  pub pixel_cap_low : s.pixel_cap ≤ 131072
  pub reading_cap_low : s.reading_cap ≤ 4194303
  pub each_ray : AllByRecursion (LawfulRay s) s.rays
  pub each_pixel : (j : ℕ) → pixel_weight s j ≤ s.pixel_cap

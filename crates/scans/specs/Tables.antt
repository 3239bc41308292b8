-- What a table of rays in compressed rows means. Assumes nothing.
use Rattle.std.specs.Prelude.{ℕ, ◌*◌, List, [], map, length, slice_index}
use Rattle.std.specs.List.{range_with_len}
use Rattle.problem.specs.Scans.{Ray, ScanMeaning}
use Rattle.scans.specs.Choosing.{largest}
use Rattle.scans.specs.Loading.{ray_count, ray_entries}

abbrev pub table_ray : List ℕ → List (ℕ × ℕ) → List ℕ → ℕ → Ray
table_ray starts entries readings i = record { entries = ray_entries starts entries i; reading = slice_index readings i }

abbrev pub largest_count : ℕ → List ℕ → ℕ
largest_count rays starts = largest rays (ray_count starts)

abbrev pub largest_reading : List ℕ → ℕ
largest_reading readings = largest (length readings) (λ i. slice_index readings i)

-- No weight is above 31, and no ray crosses a pixel twice: so the caps.
abbrev pub table_meaning : ℕ → List ℕ → List (ℕ × ℕ) → List ℕ → ScanMeaning
table_meaning pixels starts entries readings = record {
  pixels = pixels;
  rays = map (table_ray starts entries readings) (range_with_len 0 (length readings));
  ray_cap = 31 * largest_count (length readings) starts;
  pixel_cap = 31 * length readings;
  reading_cap = largest_reading readings;
}

-- a slice with no rays yet
abbrev pub no_rays : ℕ → ScanMeaning
no_rays pixels = record { pixels = pixels; rays = []; ray_cap = 0; pixel_cap = 0; reading_cap = 0 }

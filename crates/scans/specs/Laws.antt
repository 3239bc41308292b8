-- A table of rays with no fault keeps the law of scans. Assumes nothing.
use Rattle.std.proofs.Common.{ℕ, ◌+◌, ◌*◌, ◌<◌, ◌≤◌, List, map, length, get_or, None, sum_by, arith}
use Rattle.std.specs.List.{range_with_len, AllByRecursion}
use Rattle.std.proofs.lemmas.List.FromFn.{get_or-map-range_with_len, length-map-range_with_len}
use Rattle.std.proofs.ByRecursion.{All-from_get_or, sum_by_le}
use Rattle.std.proofs.lemmas.Bool.{leb-true}
use Rattle.problem.specs.Scans.{LawfulRay, LawfulScan, weight, ray_weight_at}
use Rattle.problem.proofs.Searching.{admitted_from_none}
use Rattle.scans.specs.Loading.{ray_count, ray_entries, reading_within}
use Rattle.scans.specs.Tables.{table_ray, table_meaning}
use Rattle.scans.specs.Crossings.{each_entry, crossed_once}
use Rattle.scans.specs.Faultless.{Faultless, starts_end, counts_low, count_is}
use Rattle.scans.specs.Firsts.{le_largest, largest_le}

all_made : {X : Type 0} (P : X → Type 0) (f : ℕ → X) (n : ℕ) → ((i : ℕ) → i < n → P (f i)) → AllByRecursion P (map f (range_with_len 0 n))
all_made P f n h =
    All-from_get_or P (map f (range_with_len 0 n)) (f 0) (λ i lt.
    let in' : i < n = omega (arith, length-map-range_with_len f 0 n) in
    rw (get_or-map-range_with_len f 0 n i i (f 0) in' (omega arith)) (h i in'))

module _ (pixels : ℕ) (starts : List ℕ) (entries : List (ℕ × ℕ)) (readings : List ℕ) (ok : Faultless pixels starts entries readings) where
  pub ray_lawful : (i : ℕ) → i < length readings → LawfulRay (table_meaning pixels starts entries readings) (table_ray starts entries readings i)
  ray_lawful i lt =
      let clean = ok.no_entry i lt in
      let inner = starts_end (length readings) (length entries) starts ok.no_start (i + 1) (omega arith) in
      record {
        weighty = each_entry pixels (λ e. 1 ≤ e.1) (λ _ e ok. ok.weighty) 0 None (ray_entries starts entries i) clean;
        inside = each_entry pixels (λ e. e.0 < pixels) (λ _ e ok. ok.inside) 0 None (ray_entries starts entries i) clean;
        light = omega (arith, sum_by_le weight 31 (ray_entries starts entries i) (each_entry pixels (λ e. weight e ≤ 31) (λ _ e ok. ok.light) 0 None (ray_entries starts entries i) clean), count_is starts entries i inner, le_largest (ray_count starts) (length readings) i lt);
        low = le_largest (λ k. get_or readings k 0) (length readings) i lt;
      }

  pixel_light : (j : ℕ) → sum_by (ray_weight_at j) (map (table_ray starts entries readings) (range_with_len 0 (length readings))) ≤ 31 * length readings
  pixel_light j =
      omega (arith, sum_by_le (ray_weight_at j) 31 (map (table_ray starts entries readings) (range_with_len 0 (length readings))) (all_made (λ r. ray_weight_at j r ≤ 31) (table_ray starts entries readings) (length readings) (λ i lt. crossed_once pixels j 0 None (ray_entries starts entries i) (ok.no_entry i lt))), length-map-range_with_len (table_ray starts entries readings) 0 (length readings))

  reading_low : (i : ℕ) → i < length readings → get_or readings i 0 ≤ 4194303
  reading_low i lt =
      leb-true (get_or readings i 0) 4194303 (admitted_from_none reading_within 0 0 None readings ok.no_reading i lt)

  pub table_lawful : 1 ≤ pixels → pixels ≤ 2304 → LawfulScan (table_meaning pixels starts entries readings)
  table_lawful some_pixels few_pixels = record {
    some_pixels = some_pixels;
    few_pixels = few_pixels;
    few_rays = omega (arith, length-map-range_with_len (table_ray starts entries readings) 0 (length readings), ok.few);
    ray_cap_low = omega (arith, counts_low (length readings) (length entries) starts ok.no_start);
    pixel_cap_low = omega (arith, ok.few);
    reading_cap_low = largest_le (λ k. get_or readings k 0) (length readings) 4194303 reading_low;
    each_ray = all_made (LawfulRay (table_meaning pixels starts entries readings)) (table_ray starts entries readings) (length readings) ray_lawful;
    each_pixel = pixel_light;
  }

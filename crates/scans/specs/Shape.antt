-- The rays of a stored scan. Assumes nothing.
use Rattle.std.specs.Prelude.{◌≡◌, ℕ, ◌+◌, ◌-◌, ◌<◌, ◌≤◌, length, Some, vec_items, vec_len, nat_lt, slice_index_or}
use Rattle.std.specs.List.{slice_get}
use Rattle.std.proofs.Common.{sym, ap, ◌∙◌, arith}
use Rattle.std.proofs.lemmas.List.{get_or_past, get_or-take, get_or-drop, get_or_default, get_or_read_under}
use Rattle.std.proofs.lemmas.List.FromFn.{get_or-map-range_with_len, length-map-range_with_len}
use Rattle.std.proofs.lemmas.Bool.{cond-true, cond-false, lt-ltb, le-ltb}
use Rattle.std.proofs.lemmas.Option.{slice_get-get_or, slice_get_past}
use Rattle.problem.specs.Scans.{Ray, no_ray, ray_at, entry_at}
use Rattle.scans.specs.Loading.{start_of}
use Rattle.scans.specs.Tables.{table_ray}
use Rattle.scans.specs.Faultless.{starts_length, starts_rise, starts_end, count_is}
use Rattle.scans.specs.Stored.{stored_meaning, kept, stored_span, table_entry, Spans, Counts}
use Rattle.scans.specs.declared.stored.StoredScan.{StoredScan}

abbrev pub start : StoredScan → ℕ → ℕ
start s i = start_of (vec_items s.starts) i

pub shape : (s : StoredScan) → vec_len s.starts ≡ vec_len s.readings + 1
shape s =
    omega (arith, starts_length _ _ (vec_items s.starts) (kept s).no_start, s.readings.ok.0, s.starts.ok.0)

-- what a read of a start gives
pub read_start : (s : StoredScan) (i x : ℕ) → i < vec_len s.readings + 1 → x ≡ slice_index_or (vec_items s.starts) i x → x ≡ start s i
read_start s i x lt e = get_or_read_under (vec_items s.starts) i (vec_len s.starts) x 0 e (omega (arith, shape s)) s.starts.ok.0

pub rays_kept : (s : StoredScan) → length (stored_meaning s).rays ≡ vec_len s.readings
rays_kept s =
    omega (arith, length-map-range_with_len (table_ray (vec_items s.starts) (vec_items s.entries) (vec_items s.readings)) 0 (length (vec_items s.readings)), s.readings.ok.0)

module _ (s : StoredScan) (i : ℕ) (lt : i < vec_len s.readings) where
  inside : i < length (vec_items s.readings)
  inside = omega (arith, s.readings.ok.0)

  pub ray_is : ray_at (stored_meaning s) i ≡ table_ray (vec_items s.starts) (vec_items s.entries) (vec_items s.readings) i
  ray_is =
      get_or-map-range_with_len (table_ray (vec_items s.starts) (vec_items s.entries) (vec_items s.readings)) 0 (length (vec_items s.readings)) i i no_ray inside (omega arith)

  ends_at : start s (i + 1) ≤ length (vec_items s.entries)
  ends_at = starts_end _ _ (vec_items s.starts) (kept s).no_start (i + 1) (omega (arith, inside))

  count_at : length (ray_at (stored_meaning s) i).entries ≡ start s (i + 1) - start s i
  count_at = ap (λ (r : Ray). length r.entries) ray_is ∙ count_is (vec_items s.starts) (vec_items s.entries) i ends_at

  entry_is : (k : ℕ) → k < start s (i + 1) - start s i → entry_at (stored_meaning s) i k ≡ Some (table_entry s (start s i + k))
  entry_is k in' =
      slice_get-get_or (ray_at (stored_meaning s) i).entries k (0, 0) (omega (arith, count_at))
      ∙ ap (λ (r : Ray). Some (slice_index_or r.entries k (0, 0))) ray_is
      ∙ ap Some (get_or-take _ _ k (0, 0) in' ∙ get_or-drop (start s i) (vec_items s.entries) k (0, 0))

  pub spans_there : Spans s i (start s i, start s (i + 1))
  unfolding stored_span
  spans_there = record {
    is = sym (cond-true (nat_lt i (vec_len s.readings)) _ _ (lt-ltb i (vec_len s.readings) lt));
    rises = starts_rise _ _ (vec_items s.starts) (kept s).no_start i inside;
    ends = omega (arith, ends_at, s.entries.ok.0);
    count = count_at;
    there = entry_is;
    gone = λ k le. slice_get_past (ray_at (stored_meaning s) i).entries k (omega (arith, count_at));
  }

pub ray_gone : (s : StoredScan) (i : ℕ) → vec_len s.readings ≤ i → ray_at (stored_meaning s) i ≡ no_ray
ray_gone s i le = get_or_past (stored_meaning s).rays i no_ray (omega (arith, rays_kept s))

pub spans_nowhere : (s : StoredScan) (i : ℕ) → vec_len s.readings ≤ i → Spans s i (0, 0)
unfolding stored_span
spans_nowhere s i past = record {
  is = sym (cond-false (nat_lt i (vec_len s.readings)) _ _ (le-ltb i (vec_len s.readings) past));
  rises = omega arith;
  ends = omega arith;
  count = ap (λ (r : Ray). length r.entries) (ray_gone s i past);
  there = λ k lt. absurd (omega arith);
  gone = λ k le. ap (λ (r : Ray). slice_get r.entries k) (ray_gone s i past);
}

pub counts : (s : StoredScan) (n : ℕ) → n ≡ vec_len s.readings → Counts s n
counts s n e = record {
  is = omega (arith, rays_kept s);
  kept = omega (arith, s.readings.ok.0);
  few = omega (arith, (kept s).few, s.readings.ok.0);
  there = λ i d lt.
      get_or_default (vec_items s.readings) i d 0 (inside s i (omega arith)) ∙ sym (ap (λ (r : Ray). r.reading) (ray_is s i (omega arith)));
  gone = λ i le. ap (λ (r : Ray). r.reading) (ray_gone s i (omega arith));
}

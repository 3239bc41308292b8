-- What a stored scan means: a scan that keeps the law of scans; and where it keeps its rays. Assumes nothing.
use Rattle.std.specs.Prelude.{◌≡◌, ℕ, ◌+◌, ◌-◌, ◌<◌, ◌≤◌, cond, length, Some, None, vec_items, vec_len, nat_lt, slice_index_or}
use Rattle.problem.specs.Scans.{ScanMeaning, LawfulScan, ray_at, entry_at}
use Rattle.scans.specs.Faultless.{Faultless, faultless_since}
use Rattle.scans.specs.Laws.{table_lawful}
use Rattle.scans.specs.Loading.{start_of}
use Rattle.scans.specs.Tables.{table_meaning}
use Rattle.scans.specs.declared.stored.StoredScan.{StoredScan}

abbrev pub stored_meaning : StoredScan → ScanMeaning
stored_meaning s = table_meaning s.pixels (vec_items s.starts) (vec_items s.entries) (vec_items s.readings)

pub kept : (s : StoredScan) → Faultless s.pixels (vec_items s.starts) (vec_items s.entries) (vec_items s.readings)
kept s = faultless_since s.pixels (vec_items s.starts) (vec_items s.entries) (vec_items s.readings) s.checked

pub lawful_of : (s : StoredScan) → LawfulScan (stored_meaning s)
lawful_of s =
    table_lawful s.pixels (vec_items s.starts) (vec_items s.entries) (vec_items s.readings) (kept s) s.sized.0 s.sized.1

-- where the entries of ray i begin and end in the table; nowhere for a ray that is not there
unfoldable pub stored_span : StoredScan → ℕ → ℕ × ℕ
stored_span s i =
    cond (nat_lt i (vec_len s.readings)) (start_of (vec_items s.starts) i, start_of (vec_items s.starts) (i + 1)) (0, 0)

abbrev pub table_entry : StoredScan → ℕ → ℕ × ℕ
table_entry s position = slice_index_or (vec_items s.entries) position (0, 0)

-- the entries of ray i are those of the table in the span
pub record Spans (s : StoredScan) (i : ℕ) (span : ℕ × ℕ) : Type 0 where
  pub is : span ≡ stored_span s i
  pub rises : span.0 ≤ span.1
  pub ends : span.1 ≤ vec_len s.entries
  pub count : length (ray_at (stored_meaning s) i).entries ≡ span.1 - span.0
  pub there : (k : ℕ) → k < span.1 - span.0 → entry_at (stored_meaning s) i k ≡ Some (table_entry s (span.0 + k))
  pub gone : (k : ℕ) → span.1 - span.0 ≤ k → entry_at (stored_meaning s) i k ≡ None

-- the scan has so many rays, with a reading for each
pub record Counts (s : StoredScan) (rays : ℕ) : Type 0 where
  pub is : rays ≡ length (stored_meaning s).rays
  pub kept : rays ≡ length (vec_items s.readings)
  pub few : rays ≤ 4096
  pub there : (i d : ℕ) → i < rays → slice_index_or (vec_items s.readings) i d ≡ (ray_at (stored_meaning s) i).reading
  pub gone : (i : ℕ) → rays ≤ i → (ray_at (stored_meaning s) i).reading ≡ 0

-- The entries of a ray of a stored scan, and its reading. Assumes nothing.
use Rattle.std.proofs.Common.{◌≡◌, ℕ, ◌+◌, ◌<◌, length, get_or, vec_items, vec_len, sym, refl, ◌∙◌, inl, inr, arith}
use Rattle.std.proofs.lemmas.Bool.{cases_lt}
use Rattle.std.proofs.lemmas.List.{get_or_past}
use Rattle.problem.specs.Scans.{ray_at}
use Rattle.scans.proofs.Parts.{Part, part_at}
use Rattle.scans.specs.Stored.{stored_meaning, kept}
use Rattle.scans.specs.Shape.{read_start, counts}
use Rattle.scans.specs.declared.stored.StoredScan.{StoredScan}

pub reading_is : (s : StoredScan) (i : ℕ) → (ray_at (stored_meaning s) i).reading ≡ get_or (vec_items s.readings) i 0
reading_is s i =
    let c = counts s (vec_len s.readings) refl in
    elim (cases_lt i (vec_len s.readings)) [
      | inl lt ↦ sym (c.there i 0 lt)
      | inr le ↦ c.gone i le ∙ sym (get_or_past (vec_items s.readings) i 0 (omega (arith, c.kept)))
    ]

-- where the entries of ray i stand
pub row_there : (s : StoredScan) (i from to : ℕ) → i < vec_len s.readings → from ≡ get_or (vec_items s.starts) i from → to ≡ get_or (vec_items s.starts) (i + 1) to → Part (vec_items s.starts) (vec_items s.entries) i from to
row_there s i from to lt first last =
    part_at (length (vec_items s.readings)) (vec_items s.starts) (vec_items s.entries) (kept s).no_start i from to (omega (arith, s.readings.ok.0)) (read_start s i from (omega arith) first) (read_start s (i + 1) to (omega arith) last)

-- The first fault of a table of rays in compressed rows. Assumes nothing.
use Rattle.std.specs.Prelude.{ℕ, ◌+◌, ◌-◌, Bool, true, cond, not, ◌&&◌, ◌||◌, List, length, take, drop, Some, None, Option, ◌==◌, nat_le, nat_lt, slice_index}
use Rattle.std.specs.Option.{option_map, option_or}
use Rattle.problem.specs.Search.{first_outside}
use Rattle.problem.specs.Setting.{between}
use Rattle.refusals.specs.declared.Refusal.{Refusal}
use Rattle.refusals.specs.declared.Refusal.TheVariants.{Rays, Starts, Entry, Reading}
use Rattle.scans.specs.Choosing.{first_some}

-- The entries of ray i are those from starts(i) up to starts(i + 1), of all rays' entries.

abbrev pub start_of : List ℕ → ℕ → ℕ
start_of starts i = slice_index starts i

abbrev pub ray_count : List ℕ → ℕ → ℕ
ray_count starts i = start_of starts (i + 1) - start_of starts i

abbrev pub ray_entries : List ℕ → List (ℕ × ℕ) → ℕ → List (ℕ × ℕ)
ray_entries starts entries i = take (ray_count starts i) (drop (start_of starts i) entries)

-- the first start is 0, no start is below the one before it, and a ray has at most 128 entries
abbrev pub start_follows : Option ℕ → ℕ → Bool
start_follows None start = start == 0
start_follows (Some before) start = nat_le before start && nat_le (start - before) 128

-- whether a start may stand at this position; the one past the last ray is the number of entries
abbrev pub start_within : ℕ → ℕ → ℕ → Option ℕ → ℕ → Bool
start_within rays entries position before start =
    start_follows before start && nat_le start 65536 && (not (position == rays) || start == entries)

-- whether the pixel is above the pixel before it on the ray
abbrev pub pixel_rises : Option (ℕ × ℕ) → ℕ → Bool
pixel_rises None pixel = true
pixel_rises (Some before) pixel = nat_lt before.0 pixel

-- whether an entry may stand on a ray after the entry before it
abbrev pub entry_within : ℕ → ℕ → Option (ℕ × ℕ) → ℕ × ℕ → Bool
entry_within pixels position before entry =
    nat_lt entry.0 pixels && between 1 31 entry.1 && pixel_rises before entry.0

abbrev pub reading_within : ℕ → Option ℕ → ℕ → Bool
reading_within ray before reading = nat_le reading 4194303

-- the first wrong start, 0 where there are too few or too many
unfoldable pub starts_fault : ℕ → ℕ → List ℕ → Option ℕ
starts_fault rays entries starts =
    cond (length starts == rays + 1) (first_outside (start_within rays entries) starts) (Some 0)

-- the first wrong entry of ray i, counted in the whole list
unfoldable pub ray_fault : ℕ → List ℕ → List (ℕ × ℕ) → ℕ → Option ℕ
ray_fault pixels starts entries i =
    option_map (λ k. start_of starts i + k) (first_outside (entry_within pixels) (ray_entries starts entries i))

-- the first wrong entry, ray by ray
unfoldable pub entries_fault : ℕ → ℕ → List ℕ → List (ℕ × ℕ) → Option ℕ
entries_fault rays pixels starts entries = first_some rays (ray_fault pixels starts entries)

unfoldable pub readings_fault : List ℕ → Option ℕ
readings_fault readings = first_outside reading_within readings

-- the first fault of starts, entries and readings over so many pixels
abbrev pub load_fault : ℕ → List ℕ → List (ℕ × ℕ) → List ℕ → Option Refusal
load_fault pixels starts entries readings =
    cond (nat_lt 4096 (length readings)) (Some Rays)
    (option_or (option_map Starts (starts_fault (length readings) (length entries) starts))
    (option_or (option_map Entry (entries_fault (length readings) pixels starts entries))
    (option_map Reading (readings_fault readings))))

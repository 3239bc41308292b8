-- Which numbers make settings, and the pixels of a slice. Assumes nothing.
use Rattle.std.specs.Prelude.{◌≡◌, ℕ, ◌+◌, ◌*◌, ◌/◌, ◌%◌, Bool, cond, ◌&&◌, Some, None, Option, nat_le, nat_lt}
use Rattle.refusals.specs.declared.Refusal.{Refusal}
use Rattle.refusals.specs.declared.Refusal.TheVariants.{Size, Density, Strength, Setting}
use Rattle.problem.specs.declared.settings.Settings.{Settings}

-- whether low ≤ x ≤ high
abbrev pub between : ℕ → ℕ → ℕ → Bool
between low high x = nat_le low x && nat_le x high

-- the first rule that the numbers break, if any
abbrev pub settings_fault : ℕ → ℕ → ℕ → ℕ → ℕ → ℕ → Option Refusal
settings_fault columns rows lowest highest strength tolerance =
    cond (between 1 48 columns && between 1 48 rows)
    (cond (nat_le lowest highest && nat_le highest 1023)
    (cond (nat_le strength 1048576)
    (cond (nat_le tolerance 1000000000000) None (Some Setting))
    (Some Strength))
    (Some Density))
    (Some Size)

-- settings that hold these numbers
pub record Holds (columns rows lowest highest strength tolerance : ℕ) (s : Settings) : Type 0 where
  pub columns_is : s.columns ≡ columns
  pub rows_is : s.rows ≡ rows
  pub lowest_is : s.lowest ≡ lowest
  pub highest_is : s.highest ≡ highest
  pub strength_is : s.strength ≡ strength
  pub tolerance_is : s.tolerance ≡ tolerance

-- pixel j is in row j / columns and column j % columns
abbrev pub pixel_count : Settings → ℕ
pixel_count g = g.columns * g.rows

abbrev pub row : Settings → ℕ → ℕ
row g j = j / g.columns

abbrev pub column : Settings → ℕ → ℕ
column g j = j % g.columns

-- whether pixel j has a pixel to its right, below it, to its left, above it
abbrev pub has_right : Settings → ℕ → Bool
has_right g j = nat_lt (column g j + 1) g.columns

abbrev pub has_below : Settings → ℕ → Bool
has_below g j = nat_lt (row g j + 1) g.rows

abbrev pub has_left : Settings → ℕ → Bool
has_left g j = nat_lt 0 (column g j)

abbrev pub has_above : Settings → ℕ → Bool
has_above g j = nat_lt 0 (row g j)

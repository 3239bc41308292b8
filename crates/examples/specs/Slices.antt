-- Two small slices with their scans. Assumes nothing.
use Rattle.std.specs.Prelude.{ℕ, List, [], ◌∷◌}
use Rattle.std.proofs.Common.{lit≤}
use Rattle.problem.specs.Scans.{Ray, ScanMeaning}
use Rattle.problem.specs.Objective.{Problem, posed}
use Rattle.problem.specs.declared.settings.Settings.{Settings}
use Rattle.misfits.specs.Meanings.{square, absolute}

abbrev ray : List (ℕ × ℕ) → ℕ → Ray
ray entries reading = record { entries = entries; reading = reading }

-- two pixels side by side, densities 0 to 10, strength 1
abbrev pub two_settings : Settings
two_settings = record {
  columns = 2;
  rows = 1;
  lowest = 0;
  highest = 10;
  strength = 1;
  tolerance = 0;
  sized = (lit≤ tt, lit≤ tt, lit≤ tt, lit≤ tt);
  dense = (lit≤ tt, lit≤ tt);
  strong = lit≤ tt;
  tolerant = lit≤ tt;
}

-- each crossed by a ray of its own, with the readings 4 and 8
abbrev pub two_rays : ScanMeaning
two_rays = record {
  pixels = 2;
  rays = ray ((0, 1) ∷ []) 4 ∷ ray ((1, 1) ∷ []) 8 ∷ [];
  ray_cap = 31;
  pixel_cap = 62;
  reading_cap = 8;
}

abbrev pub two_square : Problem
two_square = posed two_settings two_rays square

abbrev pub two_absolute : Problem
two_absolute = posed two_settings two_rays (absolute 3)

-- three columns and two rows, so that each kind of slope term occurs, densities 2 to 9, strength 6
abbrev pub six_settings : Settings
six_settings = record {
  columns = 3;
  rows = 2;
  lowest = 2;
  highest = 9;
  strength = 6;
  tolerance = 0;
  sized = (lit≤ tt, lit≤ tt, lit≤ tt, lit≤ tt);
  dense = (lit≤ tt, lit≤ tt);
  strong = lit≤ tt;
  tolerant = lit≤ tt;
}

-- one of the four rays crosses nothing
abbrev pub six_rays : ScanMeaning
six_rays = record {
  pixels = 6;
  rays =
      ray ((0, 3) ∷ (1, 1) ∷ (2, 2) ∷ []) 31
      ∷ ray ((1, 2) ∷ (4, 5) ∷ []) 20
      ∷ ray [] 7
      ∷ ray ((2, 1) ∷ (3, 4) ∷ (5, 1) ∷ []) 45
      ∷ [];
  ray_cap = 93;
  pixel_cap = 124;
  reading_cap = 45;
}

abbrev pub six_square : Problem
six_square = posed six_settings six_rays square

abbrev pub six_absolute : Problem
six_absolute = posed six_settings six_rays (absolute 3)

-- The two tables of the program have no fault, and mean the scans of the worked examples. Assumes nothing.
use Rattle.std.proofs.Common.{◌≡◌, ℕ, ◌*◌, List, [], ◌∷◌, None, Ok, Err, Result, MatchResult, sym, subst, ◌∙◌}
use Rattle.refusals.specs.declared.Refusal.{Refusal}
use Rattle.refusals.specs.declared.Refusal.TheVariants.{OutOfMemory}
use Rattle.problem.specs.Setting.{Holds, pixel_count}
use Rattle.problem.specs.Scans.{ScanMeaning}
use Rattle.problem.specs.declared.settings.Settings.{Settings}
use Rattle.scans.specs.Choosing.{first_some, largest}
use Rattle.scans.specs.Loading.{load_fault, starts_fault, ray_fault, entries_fault, readings_fault}
use Rattle.scans.specs.Tables.{table_meaning}
use Rattle.scans.specs.Stored.{stored_meaning}
use Rattle.examples.specs.Slices.{two_rays, six_rays}
use Rattle.reconstruct.specs.declared.slices.Slice.{Slice}

pub pixels_of : (w h lowest highest strength tolerance : ℕ) (g : Settings) → Holds w h lowest highest strength tolerance g → pixel_count g ≡ w * h
pixels_of w h lowest highest strength tolerance g k = rw (k.columns_is, k.rows_is)

-- what is known of the settings and of the table's meaning is known of the slice
pub loaded : (P : Settings → Type 0) (g : Settings) (m n : ScanMeaning) (r : Result Slice Refusal) → P g → m ≡ n → MatchResult r (λ s. (s.settings ≡ g) × (stored_meaning s.scan ≡ m)) (λ e. e ≡ OutOfMemory) → MatchResult r (λ s. P s.settings × (stored_meaning s.scan ≡ n)) (λ e. e ≡ OutOfMemory)
loaded P g m n (Ok s) p e h = (subst P (sym h.0) p, h.1 ∙ e)
loaded P g m n (Err x) p e h = h

module _ (n : ℕ) (is : n ≡ 2) where
  pub two_loads : load_fault n (0 ∷ 1 ∷ 2 ∷ []) ((0, 1) ∷ (1, 1) ∷ []) (4 ∷ 8 ∷ []) ≡ None
  unfolding first_some starts_fault ray_fault entries_fault readings_fault
  two_loads = rw is

  pub two_means : table_meaning n (0 ∷ 1 ∷ 2 ∷ []) ((0, 1) ∷ (1, 1) ∷ []) (4 ∷ 8 ∷ []) ≡ two_rays
  unfolding largest
  two_means = rw is

abbrev six_entries : List (ℕ × ℕ)
six_entries = (0, 3) ∷ (1, 1) ∷ (2, 2) ∷ (1, 2) ∷ (4, 5) ∷ (2, 1) ∷ (3, 4) ∷ (5, 1) ∷ []

module _ (n : ℕ) (is : n ≡ 6) where
  pub six_loads : load_fault n (0 ∷ 3 ∷ 5 ∷ 5 ∷ 8 ∷ []) six_entries (31 ∷ 20 ∷ 7 ∷ 45 ∷ []) ≡ None
  unfolding first_some starts_fault ray_fault entries_fault readings_fault
  six_loads = rw is

  pub six_means : table_meaning n (0 ∷ 3 ∷ 5 ∷ 5 ∷ 8 ∷ []) six_entries (31 ∷ 20 ∷ 7 ∷ 45 ∷ []) ≡ six_rays
  unfolding largest
  six_means = rw is

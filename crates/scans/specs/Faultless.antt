-- What a table of rays with no fault keeps to. Assumes nothing.
use Rattle.std.proofs.Common.{◌≡◌, ℕ, zero, suc, ◌+◌, ◌-◌, ◌<◌, ◌≤◌, Bool, true, false, cond, eqb, ltb, List, [], ◌∷◌, length, is_some, Some, None, Option, refl, ap, add-one, arith, rules, tests, length-drop, length-take}
use Rattle.std.specs.Option.{option_map, IsNone}
use Rattle.std.proofs.lemmas.Bool.{and_parts, eqb-true, ltb-false}
use Rattle.problem.specs.Search.{first_outside, before_at}
use Rattle.refusals.specs.declared.Refusal.TheVariants.{Rays, Starts, Entry, Reading}
use Rattle.problem.proofs.Searching.{admitted_from_none, first_none}
use Rattle.scans.specs.Loading.{start_of, ray_count, ray_entries, start_follows, start_within, entry_within, reading_within, starts_fault, ray_fault, entries_fault, readings_fault, load_fault}
use Rattle.scans.specs.Choosing.{first_some}
use Rattle.scans.specs.Tables.{largest_count}
use Rattle.scans.specs.Firsts.{both_none, mapped_none, none_before, none_from_unset, largest_le}

-- a test that must fail for there to be no answer
pub other_none : {X : Type 0} (b : Bool) (x : X) (o : Option X) → cond b (Some x) o ≡ None → (b ≡ false) × (o ≡ None)
other_none true x o e = absurd cc
other_none false x o e = (refl, e)

-- Starts with no fault.
module _ (rays entries : ℕ) (starts : List ℕ) (none : starts_fault rays entries starts ≡ None) where
  pub starts_length : length starts ≡ rays + 1
  unfolding starts_fault
  starts_length = eqb-true (length starts) (rays + 1) (first_none (eqb (length starts) (rays + 1)) _ 0 none).0

  admitted : (i : ℕ) → i < rays + 1 → start_within rays entries (0 + i) (before_at None starts i 0) (start_of starts i) ≡ true
  unfolding starts_fault
  admitted i lt =
      admitted_from_none (start_within rays entries) 0 0 None starts (first_none (eqb (length starts) (rays + 1)) _ 0 none).1 i (omega (arith, starts_length))

  follows_at : (i : ℕ) → i < rays + 1 → start_follows (before_at None starts i 0) (start_of starts i) ≡ true
  follows_at i lt = (and_parts _ _ (and_parts _ _ (admitted i lt)).0).0

  pub start_low : (i : ℕ) → i < rays + 1 → start_of starts i ≤ 65536
  start_low i lt = let h = admitted i lt in search (rules, tests)

  follows_last : (i : ℕ) → i < rays → (start_of starts i ≤ start_of starts (i + 1)) × (start_of starts (i + 1) - start_of starts i ≤ 128)
  follows_last i lt =
      let h = follows_at (suc i) (omega arith) in rw add-one (search (rules, tests))

  pub starts_rise : (i : ℕ) → i < rays → start_of starts i ≤ start_of starts (i + 1)
  starts_rise i lt = (follows_last i lt).0

  pub count_low : (i : ℕ) → i < rays → ray_count starts i ≤ 128
  count_low i lt = (follows_last i lt).1

  pub counts_low : largest_count rays starts ≤ 128
  counts_low = largest_le (ray_count starts) rays 128 count_low

  pub last_start : start_of starts rays ≡ entries
  last_start = let h = admitted rays (omega arith) in let same : 0 + rays ≡ rays = omega arith in search (rules, tests)

  from_end : (k i : ℕ) → i + k ≡ rays → start_of starts i ≤ entries
  from_end zero i e = let same : i ≡ rays = omega arith in omega (arith, last_start, ap (start_of starts) same)
  from_end (suc k) i e = omega (arith, starts_rise i (omega arith), from_end k (i + 1) (omega arith))

  pub starts_end : (i : ℕ) → i ≤ rays → start_of starts i ≤ entries
  starts_end i le = from_end (rays - i) i (omega arith)

-- as many entries as the starts tell
pub count_is : (starts : List ℕ) (entries : List (ℕ × ℕ)) (i : ℕ) → start_of starts (i + 1) ≤ length entries → length (ray_entries starts entries i) ≡ ray_count starts i
count_is starts entries i le = simp (length-take, length-drop) (omega arith)

-- A table with no fault.
pub record Faultless (pixels : ℕ) (starts : List ℕ) (entries : List (ℕ × ℕ)) (readings : List ℕ) : Type 0 where
  pub few : length readings ≤ 4096
  pub no_start : starts_fault (length readings) (length entries) starts ≡ None
  pub no_entry : (i : ℕ) → i < length readings → first_outside (entry_within pixels) (ray_entries starts entries i) ≡ None
  pub no_reading : first_outside reading_within readings ≡ None

-- a table of no rays has no fault
pub none_checked : (pixels : ℕ) (starts : List ℕ) (entries : List (ℕ × ℕ)) (readings : List ℕ) → starts ≡ 0 ∷ [] → entries ≡ [] → readings ≡ [] → is_some (load_fault pixels starts entries readings) ≡ false
unfolding starts_fault entries_fault readings_fault first_some
none_checked pixels starts entries readings a b c = rw (a, b, c)

module _ (pixels : ℕ) (starts : List ℕ) (entries : List (ℕ × ℕ)) (readings : List ℕ) where
  pub faultless : load_fault pixels starts entries readings ≡ None → Faultless pixels starts entries readings
  unfolding entries_fault ray_fault readings_fault
  faultless e =
      let a = other_none (ltb 4096 (length readings)) Rays _ e in
      let b = both_none (option_map Starts (starts_fault (length readings) (length entries) starts)) _ a.1 in
      let c = both_none (option_map Entry (entries_fault (length readings) pixels starts entries)) (option_map Reading (readings_fault readings)) b.1 in
      record {
        few = ltb-false 4096 (length readings) a.0;
        no_start = mapped_none Starts _ b.0;
        no_entry = λ i lt. mapped_none (λ k. start_of starts i + k) _ (none_before (ray_fault pixels starts entries) (length readings) i (mapped_none Entry _ c.0) lt);
        no_reading = mapped_none Reading _ c.1;
      }

  pub faultless_since : IsNone (load_fault pixels starts entries readings) → Faultless pixels starts entries readings
  faultless_since e = faultless (none_from_unset (load_fault pixels starts entries readings) e)

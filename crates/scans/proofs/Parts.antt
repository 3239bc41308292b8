-- The part of a table's entries that a ray has, and the first answer of a walk. Assumes nothing.
use Rattle.std.proofs.Common.{◌≡◌, ℕ, zero, suc, ◌+◌, ◌-◌, ◌<◌, ◌≤◌, List, length, get_or, take, drop, Some, None, Option, Bor, sym, refl, ap, ◌∙◌, inl, inr, add-one, arith}
use Rattle.std.specs.Iterator.{Yields}
use Rattle.std.specs.Option.{option_map, option_or}
use Rattle.std.specs.Slice.Iter.{windows_rest, windows_size}
use Rattle.std.specs.Slice.ArrayWindows.{array_windows_parts, array_windows_steps}
use Rattle.std.specs.declared.slice.ArrayWindows.{ArrayWindows}
use Rattle.std.proofs.lemmas.Iterator.Consumers.{YieldsList-turn}
use Rattle.problem.specs.Search.{first_outside}
use Rattle.std.proofs.lemmas.Bool.{cases_eq}
use Rattle.scans.specs.Choosing.{first_some}
use Rattle.scans.specs.Loading.{start_of, ray_entries, entry_within, ray_fault, starts_fault}
use Rattle.scans.specs.Faultless.{starts_length, starts_rise, starts_end}
use Rattle.scans.proofs.Neighbours.{neighbours_road, neighbours_at}

pub record Part (starts : List ℕ) (entries : List (ℕ × ℕ)) (i from to : ℕ) : Type 0 where
  pub inside : i + 1 < length starts
  pub first : from ≡ start_of starts i
  pub rises : from ≤ to
  pub ends : to ≤ length entries
  pub is : take (to - from) (drop from entries) ≡ ray_entries starts entries i

module _ (rays : ℕ) (starts : List ℕ) (entries : List (ℕ × ℕ)) (clean : starts_fault rays (length entries) starts ≡ None) where
  pub part_at : (i from to : ℕ) → i < rays → from ≡ start_of starts i → to ≡ start_of starts (i + 1) → Part starts entries i from to
  part_at i from to lt first last =
      rw (first, last) record {
        inside = omega (arith, starts_length _ _ starts clean);
        first = refl;
        rises = starts_rise _ _ starts clean i lt;
        ends = starts_end _ _ starts clean (i + 1) (omega arith);
        is = refl;
      }

  -- the part of one turn of a walk over the starts
  pub part_turn : (s : ArrayWindows ℕ 2) → windows_size (array_windows_parts s) ≡ 2 → windows_rest (array_windows_parts s) ≡ starts → (ws : List (Bor (List ℕ))) (t : ArrayWindows ℕ 2) → Yields (array_windows_steps {A = ℕ} {n = 2}) s ws t → (r : Option (Bor (List ℕ))) (u : ArrayWindows ℕ 2) (w : Bor (List ℕ)) → r ≡ Some w → array_windows_steps {A = ℕ} {n = 2} t r u → Part starts entries (length ws) (get_or w.now 0 0) (get_or w.now 1 0)
  part_turn s two rest ws t y r u w is step =
      let at = neighbours_at starts (length ws) _ (YieldsList-turn (neighbours_road s starts two rest) ws t y r u w is step) in
      part_at (length ws) _ _ (omega (arith, at.inside, starts_length _ _ starts clean)) at.first at.second

-- the fault of a ray, told by its part
pub fault_is : (pixels : ℕ) (starts : List ℕ) (entries : List (ℕ × ℕ)) (i from to : ℕ) → Part starts entries i from to → (r : Option ℕ) → r ≡ first_outside (entry_within pixels) (take (to - from) (drop from entries)) → ray_fault pixels starts entries i ≡ option_map (λ k. from + k) r
unfolding ray_fault
fault_is pixels starts entries i from to part r e =
    ap (λ es. option_map (λ k. start_of starts i + k) (first_outside (entry_within pixels) es)) (sym part.is)
    ∙ ap (option_map (λ k. start_of starts i + k)) (sym e)
    ∙ ap (λ n. option_map (λ k. n + k) r) (sym part.first)

module _ (f : ℕ → Option ℕ) where
  pub first_some_more : (i : ℕ) → first_some i f ≡ None → f i ≡ None → first_some (i + 1) f ≡ None
  unfolding first_some
  first_some_more i e h = rw (add-one, e) h

  pub first_some_found : (i x n : ℕ) → first_some i f ≡ None → f i ≡ Some x → i < n → first_some n f ≡ Some x
  unfolding first_some
  first_some_found i x zero e h lt = absurd (omega arith)
  first_some_found i x (suc n) e h lt =
      elim (cases_eq i n) [
        | inl same ↦ ap (λ o. option_or o (f n)) (sym (ap (λ k. first_some k f) same) ∙ e) ∙ sym (ap f same) ∙ h
        | inr apart ↦ ap (λ o. option_or o (f n)) (first_some_found i x n e h (omega arith))
      ]

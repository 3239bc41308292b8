-- Each element of a list beside the next, as windows of two give them, and the largest of a list. Assumes nothing.
use Rattle.std.proofs.Common.{◌≡◌, ℕ, zero, suc, ◌+◌, ◌-◌, ◌<◌, ◌≤◌, max, Option, List, [], ◌∷◌, length, get_or, take, drop, map, fold, unwrap_or, Bor, sym, refl, ap, ◌∙◌, add-one, length-drop, arith}
use Rattle.std.specs.List.{zip, reduce}
use Rattle.std.specs.Ordering.{nat_cmp, max_by_ordering}
use Rattle.std.specs.Slice.Iter.{windows_rest, windows_size}
use Rattle.std.specs.Slice.ArrayWindows.{array_windows_parts, array_windows_steps}
use Rattle.std.specs.declared.slice.ArrayWindows.{ArrayWindows}
use Rattle.std.proofs.lemmas.Iterator.{YieldsList}
use Rattle.std.proofs.lemmas.Iterator.Splits.{YieldsList-from_shown_while}
use Rattle.std.proofs.lemmas.List.{get_or-drop, get_or-map, get_or_default, length-map, map-id, take_all}
use Rattle.std.proofs.lemmas.List.Folds.{max_of_map}
use Rattle.std.proofs.lemmas.List.Sums.{fold_more}
use Rattle.std.proofs.lemmas.Slice.Zip.{length-zip, get_or-zip}
use Rattle.scans.specs.Choosing.{largest}
use Rattle.scans.specs.Loading.{ray_count}

abbrev pub neighbours : List ℕ → List (ℕ × ℕ)
neighbours xs = zip xs (drop 1 xs)

abbrev pub pair_of : Bor (List ℕ) → ℕ × ℕ
pair_of w = (get_or w.now 0 0, get_or w.now 1 0)

-- the pair that a step gives, and what it leaves of the list
shown_more : (n : ℕ) (w : Bor (List ℕ)) (xs ys : List ℕ) → n ≡ 2 → n ≤ length xs → w.now ≡ take n xs → ys ≡ drop 1 xs → neighbours xs ≡ pair_of w ∷ neighbours ys
shown_more n w [] ys two le is rest = absurd (omega arith)
shown_more n w (x ∷ []) ys two le is rest = absurd (omega arith)
shown_more n w (x ∷ y ∷ xs) ys two le is rest = rw (rest, is, two)

pub length-neighbours : (xs : List ℕ) → length (neighbours xs) ≡ length xs - 1
length-neighbours xs = omega (arith, length-zip xs (drop 1 xs), length-drop 1 xs)

pub neighbours_road : (s : ArrayWindows ℕ 2) (xs : List ℕ) → windows_size (array_windows_parts s) ≡ 2 → windows_rest (array_windows_parts s) ≡ xs → YieldsList (array_windows_steps {A = ℕ} {n = 2}) pair_of s (neighbours xs)
neighbours_road s xs two rest =
    rw (← rest) (YieldsList-from_shown_while (array_windows_steps {A = ℕ} {n = 2}) pair_of (λ t. neighbours (windows_rest (array_windows_parts t))) (λ t. windows_size (array_windows_parts t) ≡ 2)
    (λ t u h k. omega (arith, length-neighbours (windows_rest (array_windows_parts t)), k.1.0))
    (λ t w u h k. (k.0 ∙ h, shown_more _ w _ _ h k.1.0 k.1.1 k.1.2))
    s two)

-- the pair p at place i
pub record Neighbours (xs : List ℕ) (i : ℕ) (p : ℕ × ℕ) : Type 0 where
  pub inside : i + 1 < length xs
  pub first : p.0 ≡ get_or xs i 0
  pub second : p.1 ≡ get_or xs (i + 1) 0

pub neighbours_at : (xs : List ℕ) (i : ℕ) (p : ℕ × ℕ) → (i < length (neighbours xs)) × (p ≡ get_or (neighbours xs) i p) → Neighbours xs i p
neighbours_at xs i p (lt, is) =
    let inside : i + 1 < length xs = omega (arith, length-neighbours xs) in
    let next : 1 + i ≡ i + 1 = omega arith in
    let e = is ∙ get_or-zip xs (drop 1 xs) i p (omega arith) (omega (arith, length-drop 1 xs)) in
    record {
      inside = inside;
      first = ap (λ q. q.0) e ∙ get_or_default xs i p.0 0 (omega arith);
      second = ap (λ q. q.1) e ∙ get_or-drop 1 xs i p.1 ∙ ap (λ k. get_or xs k p.1) next ∙ get_or_default xs (i + 1) p.1 0 inside;
    }

module _ (ys : List ℕ) (f : ℕ → ℕ) (same : (i : ℕ) → i < length ys → get_or ys i 0 ≡ f i) where
  fold-largest : (n : ℕ) → n ≤ length ys → fold (λ a x. max a x) 0 (take n ys) ≡ largest n f
  unfolding largest
  fold-largest zero le = refl
  fold-largest (suc n) le =
      rw (← add-one n) (fold_more (λ a x. max a x) 0 ys n 0 (omega arith) ∙ omega (arith, fold-largest n (omega arith), same n (omega arith)))

  -- `max().unwrap_or(0)` of a list, by place
  pub max_is_largest : (r : Option ℕ) (n : ℕ) → r ≡ reduce (λ p z. max_by_ordering (nat_cmp p z) p z) ys → length ys ≡ n → unwrap_or r 0 ≡ largest n f
  max_is_largest r n is long =
      let best = λ (zs : List ℕ). unwrap_or (reduce (λ p z. max_by_ordering (nat_cmp p z) p z) zs) 0 in
      ap (λ o. unwrap_or o 0) is
      ∙ ap best (sym (map-id ys))
      ∙ max_of_map (λ (x : ℕ). x) ys
      ∙ ap (fold (λ a x. max a x) 0) (sym (take_all n ys (omega arith)))
      ∙ fold-largest n (omega arith)

-- the steps from each element to the next
abbrev gaps : List ℕ → List ℕ
gaps xs = map (λ p. p.1 - p.0) (neighbours xs)

length-gaps : (xs : List ℕ) → length (gaps xs) ≡ length xs - 1
length-gaps xs = simp length-map (length-neighbours xs)

get_or-gaps : (xs : List ℕ) (i : ℕ) → i < length (gaps xs) → get_or (gaps xs) i 0 ≡ ray_count xs i
get_or-gaps xs i lt =
    let inside : i < length (neighbours xs) = omega (arith, length-gaps xs, length-neighbours xs) in
    let p = get_or (neighbours xs) i (0, 0) in
    let at = neighbours_at xs i p (inside, get_or_default (neighbours xs) i (0, 0) p inside) in
    get_or-map (λ (q : ℕ × ℕ). q.1 - q.0) (neighbours xs) i (0, 0) 0 inside ∙ omega (arith, at.first, at.second)

-- the largest step from an element to the next
pub largest_gap : (xs : List ℕ) (r : Option ℕ) (n : ℕ) → length xs ≡ n + 1 → r ≡ reduce (λ p z. max_by_ordering (nat_cmp p z) p z) (gaps xs) → unwrap_or r 0 ≡ largest n (ray_count xs)
largest_gap xs r n long is =
    max_is_largest (gaps xs) (ray_count xs) (get_or-gaps xs) r n is (omega (arith, length-gaps xs))

-- A ray with no wrong entry: its weights, in all and at one pixel. Assumes nothing.
use Rattle.std.proofs.Common.{◌≡◌, ℕ, suc, ◌<◌, ◌≤◌, true, List, [], ◌∷◌, Some, None, sum_by, Option, refl, inl, inr, arith, rules, tests}
use Rattle.std.specs.List.{AllByRecursion}
use Rattle.std.proofs.lemmas.List.Sums.{sum_by-cons}
use Rattle.std.proofs.lemmas.Bool.Decides.{nat_tests}
use Rattle.std.proofs.lemmas.Bool.{ltb-true, cases_eq}
use Rattle.problem.specs.Search.{first_from}
use Rattle.problem.specs.Scans.{weight_at}
use Rattle.scans.specs.Loading.{entry_within, pixel_rises}
use Rattle.problem.proofs.Searching.{first_none}

module _ (pixels : ℕ) where
  -- nothing wrong from place i on, after `before`
  abbrev Clean : ℕ → Option (ℕ × ℕ) → List (ℕ × ℕ) → Type 0
  Clean i before es = first_from (entry_within pixels) i before es ≡ None

  pub record Sound (before : Option (ℕ × ℕ)) (e : ℕ × ℕ) : Type 0 where
    pub inside : e.0 < pixels
    pub weighty : 1 ≤ e.1
    pub light : e.1 ≤ 31
    pub rises : pixel_rises before e.0 ≡ true

  sound : (i : ℕ) (before : Option (ℕ × ℕ)) (e : ℕ × ℕ) → entry_within pixels i before e ≡ true → Sound before e
  sound i before e h = search (rules, tests)

  first : (i : ℕ) (before : Option (ℕ × ℕ)) (e : ℕ × ℕ) (es : List (ℕ × ℕ)) → Clean i before (e ∷ es) → Sound before e
  first i before e es h = sound i before e (first_none (entry_within pixels i before e) _ i h).0

  rest : (i : ℕ) (before : Option (ℕ × ℕ)) (e : ℕ × ℕ) (es : List (ℕ × ℕ)) → Clean i before (e ∷ es) → Clean (suc i) (Some e) es
  rest i before e es h = (first_none (entry_within pixels i before e) _ i h).1

  -- what holds of a sound entry holds of each
  pub each_entry : (P : ℕ × ℕ → Type 0) → ((before : Option (ℕ × ℕ)) (e : ℕ × ℕ) → Sound before e → P e) → (i : ℕ) (before : Option (ℕ × ℕ)) (es : List (ℕ × ℕ)) → Clean i before es → AllByRecursion P es
  each_entry P give i before [] h = tt
  each_entry P give i before (e ∷ es) h =
      (give before e (first i before e es h), each_entry P give (suc i) (Some e) es (rest i before e es h))

  -- the pixels that follow are above pixel j
  passed : (j i : ℕ) (last : ℕ × ℕ) (es : List (ℕ × ℕ)) → j ≤ last.0 → Clean i (Some last) es → sum_by (weight_at j) es ≡ 0
  passed j i last [] le h = refl
  passed j i last (e ∷ es) le h =
      let up : last.0 < e.0 = ltb-true last.0 e.0 (first i (Some last) e es h).rises in
      let w : weight_at j e ≡ 0 = grind (arith, nat_tests) in
      omega (arith, sum_by-cons (weight_at j) e es, w, passed j (suc i) e es (omega arith) (rest i (Some last) e es h))

  -- a ray crosses a pixel once at most
  pub crossed_once : (j i : ℕ) (before : Option (ℕ × ℕ)) (es : List (ℕ × ℕ)) → Clean i before es → sum_by (weight_at j) es ≤ 31
  crossed_once j i before [] h = omega arith
  crossed_once j i before (e ∷ es) h =
      elim (cases_eq e.0 j) [
        | inl same ↦
            let w : weight_at j e ≡ e.1 = grind (arith, nat_tests) in
            omega (arith, sum_by-cons (weight_at j) e es, w, (first i before e es h).light, passed j (suc i) e es (omega arith) (rest i before e es h))
        | inr apart ↦
            let w : weight_at j e ≡ 0 = grind (arith, nat_tests) in
            omega (arith, sum_by-cons (weight_at j) e es, w, crossed_once j (suc i) (Some e) es (rest i before e es h))
      ]

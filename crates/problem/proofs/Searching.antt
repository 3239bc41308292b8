-- Laws of the search for the first element outside its limits. Assumes nothing.
use Rattle.std.proofs.Common.{◌≡◌, ℕ, zero, suc, ◌+◌, ◌<◌, ◌≤◌, Bool, true, false, cond, List, [], ◌∷◌, length, get_or, drop, drop-cons, Some, None, Option, sym, refl, ◌∙◌, inl, inr, zero-add, add-zero, add-suc, suc-add, add-one, arith}
use Rattle.std.proofs.lemmas.List.{at_drop_all}
use Rattle.std.proofs.lemmas.Bool.{cases_Bool}
use Rattle.problem.specs.Search.{first_from, first_outside, before_at, TellsFirstOutside}

module _ {X : Type 0} (admits : ℕ → Option X → X → Bool) (xs : List X) (i : ℕ) (before : Option X) where
  -- the answer is that for what is left of the list
  abbrev pub Left : Type 0
  Left = first_outside admits xs ≡ first_from admits i before (drop i xs)

  pub search_found : (x : X) → Left → i < length xs → x ≡ get_or xs i x → admits i before x ≡ false → first_outside admits xs ≡ Some i
  search_found x left lt read bad = left ∙ rw (drop-cons xs i x, ← read, bad)

  pub search_none : Left → length xs ≤ i → first_outside admits xs ≡ None
  search_none left past = left ∙ at_drop_all (first_from admits i before) xs i past

pub search_more : {X : Type 0} (admits : ℕ → Option X → X → Bool) (xs : List X) (i : ℕ) (before : Option X) (x : X) → Left admits xs i before → i < length xs → x ≡ get_or xs i x → admits i before x ≡ true → Left admits xs (i + 1) (Some x)
search_more admits xs i before x left lt read good = left ∙ rw (add-one, drop-cons xs i x, ← read, good)

-- a test that must pass for there to be no answer
pub first_none : {X : Type 0} (b : Bool) (o : Option X) (x : X) → cond b o (Some x) ≡ None → (b ≡ true) × (o ≡ None)
first_none true o x e = (refl, e)
first_none false o x e = absurd (cc)

module _ {X : Type 0} (admits : ℕ → Option X → X → Bool) (d : X) where
  -- what the limits say i places from place j, where xs begins after `before`
  abbrev verdict : ℕ → Option X → List X → ℕ → Bool
  verdict j before xs i = admits (j + i) (before_at before xs i d) (get_or xs i d)

  -- each of the first n elements is admitted at its place
  abbrev pub Admitted : ℕ → ℕ → Option X → List X → Type 0
  Admitted n j before xs = (i : ℕ) → i < n → verdict j before xs i ≡ true

  -- the verdict is the same from one place further on
  one_on : (j : ℕ) (before : Option X) (x : X) (xs : List X) (i : ℕ) → verdict j before (x ∷ xs) (suc i) ≡ verdict (suc j) (Some x) xs i
  one_on j before x xs zero = rw (add-one, add-zero)
  one_on j before x xs (suc i) = simp (add-suc, suc-add)

  -- one more element at the front
  admitted_more : (n j : ℕ) (before : Option X) (x : X) (xs : List X) → admits j before x ≡ true → Admitted n (suc j) (Some x) xs → Admitted (suc n) j before (x ∷ xs)
  admitted_more n j before x xs good h zero l = rw add-zero good
  admitted_more n j before x xs good h (suc i) l = one_on j before x xs i ∙ h i (omega arith)

  pub admitted_from_none : (j : ℕ) (before : Option X) (xs : List X) → first_from admits j before xs ≡ None → Admitted (length xs) j before xs
  admitted_from_none j before [] e = λ i l. absurd (omega arith)
  admitted_from_none j before (x ∷ xs) e =
      let h = first_none (admits j before x) _ j e in
      admitted_more (length xs) j before x xs h.0 (admitted_from_none (suc j) (Some x) xs h.1)

  pub none_from_admitted : (j : ℕ) (before : Option X) (xs : List X) → Admitted (length xs) j before xs → first_from admits j before xs ≡ None
  none_from_admitted j before [] h = refl
  none_from_admitted j before (x ∷ xs) h =
      let now = rw add-zero at (h 0 (omega arith)) in
      rw now (none_from_admitted (suc j) (Some x) xs (λ i l. sym (one_on j before x xs i) ∙ h (suc i) (omega arith)))

  -- the element that was found, i places from where the search began
  record Found (j : ℕ) (before : Option X) (xs : List X) (k i : ℕ) : Type 0 where
    at_place : k ≡ j + i
    inside : i < length xs
    outside : verdict j before xs i ≡ false
    within : Admitted i j before xs

  found_at : (j : ℕ) (before : Option X) (xs : List X) (k : ℕ) → first_from admits j before xs ≡ Some k → (i : ℕ) × Found j before xs k i
  found_at j before [] k e = absurd (cc)
  found_at j before (x ∷ xs) k e =
      elim (cases_Bool (admits j before x)) [
        | inl good ↦
            let f = found_at (suc j) (Some x) xs k (rw good at e) in (
              suc f.0,
              record {
                at_place = omega (arith, f.1.at_place);
                inside = omega (arith, f.1.inside);
                outside = one_on j before x xs f.0 ∙ f.1.outside;
                within = admitted_more f.0 j before x xs good f.1.within;
              },
            )
        | inr bad ↦
            let h = rw bad at e in
            (0, record { at_place = rw add-zero (cc); inside = omega arith; outside = rw add-zero bad; within = λ m l. absurd (omega arith) })
      ]

-- the first place outside its limits is a place of the list
pub found_inside : {X : Type 0} (admits : ℕ → Option X → X → Bool) (i : ℕ) (before : Option X) (xs : List X) (k : ℕ) → first_from admits i before xs ≡ Some k → k < i + length xs
found_inside admits i before [] k e = absurd (cc)
found_inside admits i before (x ∷ xs) k e = let f = found_at admits x i before (x ∷ xs) k e in omega (arith, f.1.at_place, f.1.inside)

-- what the search tells
pub tells_first : {X : Type 0} (admits : ℕ → Option X → X → Bool) (xs : List X) (r : Option ℕ) → r ≡ first_outside admits xs → TellsFirstOutside admits xs r
tells_first admits xs None e = λ k d l. rw zero-add at (admitted_from_none admits d 0 None xs (sym e) k l)
tells_first admits xs (Some k) e = record {
  inside = omega (arith, found_inside admits 0 None xs k (sym e));
  outside = λ d.
      let f = found_at admits d 0 None xs k (sym e) in
      let n : f.0 ≡ k = omega (arith, f.1.at_place) in
      rw (zero-add, n) at f.1.outside;
  within = λ m d l.
      let f = found_at admits d 0 None xs k (sym e) in
      rw zero-add at (f.1.within m (omega (arith, f.1.at_place)));
}

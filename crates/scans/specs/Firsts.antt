-- Laws of answers that may be missing, of the first of them and of the largest value over an index. Assumes nothing.
use Rattle.std.proofs.Common.{◌≡◌, ℕ, zero, suc, ◌+◌, ◌<◌, ◌≤◌, max, false, is_some, Some, None, Option, refl, ap, ◌∙◌, inl, inr, add-one, arith}
use Rattle.std.specs.Option.{option_or, option_map}
use Rattle.std.proofs.lemmas.Bool.{cases_eq}
use Rattle.scans.specs.Choosing.{first_some, largest}

pub none_from_unset : {X : Type 0} (o : Option X) → is_some o ≡ false → o ≡ None
none_from_unset None e = refl
none_from_unset (Some x) e = absurd cc

-- no answer in either place
pub both_none : {X : Type 0} (o p : Option X) → option_or o p ≡ None → (o ≡ None) × (p ≡ None)
both_none None p e = (refl, e)
both_none (Some x) p e = absurd cc

pub mapped_none : {X Y : Type 0} (f : X → Y) (o : Option X) → option_map f o ≡ None → o ≡ None
mapped_none f None e = refl
mapped_none f (Some x) e = absurd cc

module _ (f : ℕ → Option ℕ) where
  pub first_some_start : first_some 0 f ≡ None
  unfolding first_some
  first_some_start = refl

  pub none_before : (n i : ℕ) → first_some n f ≡ None → i < n → f i ≡ None
  unfolding first_some
  none_before zero i e lt = absurd (omega arith)
  none_before (suc n) i e lt =
      let p = both_none (first_some n f) (f n) e in
      elim (cases_eq i n) [
        | inl same ↦ ap f same ∙ p.1
        | inr apart ↦ none_before n i p.0 (omega arith)
      ]

module _ (f : ℕ → ℕ) where
  pub largest_start : largest 0 f ≡ 0
  unfolding largest
  largest_start = refl

  pub largest_more : (i : ℕ) → largest (i + 1) f ≡ max (largest i f) (f i)
  unfolding largest
  largest_more i = rw add-one

  pub le_largest : (n i : ℕ) → i < n → f i ≤ largest n f
  unfolding largest
  le_largest zero i lt = absurd (omega arith)
  le_largest (suc n) i lt =
      elim (cases_eq i n) [
        | inl same ↦ omega (arith, ap f same)
        | inr apart ↦ omega (arith, le_largest n i (omega arith))
      ]

  pub largest_le : (n m : ℕ) → ((i : ℕ) → i < n → f i ≤ m) → largest n f ≤ m
  unfolding largest
  largest_le zero m h = omega arith
  largest_le (suc n) m h = omega (arith, h n (omega arith), largest_le n m (λ i lt. h i (omega arith)))

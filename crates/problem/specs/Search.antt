-- The first element of a list that is outside its limits. Assumes nothing.
use Rattle.std.specs.Prelude.{◌≡◌, ℕ, zero, suc, ◌<◌, Bool, true, false, cond, List, [], ◌∷◌, length, Some, None, Option, MatchOption, slice_index_or}

-- Limits say of an element whether it may stand at a place, after the element before it.

-- the first place from i on whose element the limits do not admit; `before` stands right before place i
abbrev pub first_from : {X : Type 0} → (ℕ → Option X → X → Bool) → ℕ → Option X → List X → Option ℕ
first_from admits i before [] = None
first_from admits i before (x ∷ xs) = cond (admits i before x) (first_from admits (suc i) (Some x) xs) (Some i)

-- the first place whose element the limits do not admit, or none
abbrev pub first_outside : {X : Type 0} → (ℕ → Option X → X → Bool) → List X → Option ℕ
first_outside admits xs = first_from admits 0 None xs

-- the element before place i, where `before` stands before place 0; d stands for what is not there
abbrev pub before_at : {X : Type 0} → Option X → List X → ℕ → X → Option X
before_at before xs zero d = before
before_at before xs (suc i) d = Some (slice_index_or xs i d)

-- what the limits say of the element at place i
abbrev pub admitted_at : {X : Type 0} → (ℕ → Option X → X → Bool) → List X → ℕ → X → Bool
admitted_at admits xs i d = admits i (before_at None xs i d) (slice_index_or xs i d)

-- the limits do not admit the element at place i, and admit every one before it
pub record FirstOutside {X : Type 0} (admits : ℕ → Option X → X → Bool) (xs : List X) (i : ℕ) : Type 0 where
  pub inside : i < length xs
  pub outside : (d : X) → admitted_at admits xs i d ≡ false
  pub within : (k : ℕ) (d : X) → k < i → admitted_at admits xs k d ≡ true

-- none exactly when all are within their limits, else the first that is not
abbrev pub TellsFirstOutside : {X : Type 0} → (ℕ → Option X → X → Bool) → List X → Option ℕ → Type 0
TellsFirstOutside {X} admits xs r =
    MatchOption r ((k : ℕ) (d : X) → k < length xs → admitted_at admits xs k d ≡ true) (FirstOutside admits xs)

-- Laws of finite sums, and one turn of a loop that adds up an i64. Assumes nothing.
use Rattle.std.proofs.Common.{◌≡◌, ℕ, zero, suc, ◌+◌, ◌-◌, ◌*◌, ◌^◌, ◌<◌, ◌≤◌, cond, leb, ℤ, pos, ◌+ℤ◌, ◌-ℤ◌, ◌*ℤ◌, nat_abs, ◌≤ℤ◌, sym, refl, ap, ◌∙◌, inl, inr, add-zero, add-suc, add_comm, add-one, arith, w64, SFits, to_z, of_z}
use lib.IntN.{+ℤ_idr, *ℤ-zero, zero-*ℤ}
use Rattle.std.proofs.lemmas.Bool.{cases_eq}
use Rattle.std.proofs.lemmas.Bool.Decides.{nat_tests}
use Rattle.algebra.specs.Sums.{sum_to}
use Rattle.algebra.proofs.Integers.{lin, mul-add, add-mul}
use Rattle.algebra.proofs.Words.{fits_word, same_bits}

-- one term more
pub sum_to_more : (i : ℕ) (f : ℕ → ℤ) → sum_to (i + 1) f ≡ sum_to i f +ℤ f i
sum_to_more i f = rw add-one

-- one turn of a loop over i that adds the answer x to the i64 a, with no term larger than K in size
pub record Added (f : ℕ → ℤ) (i K : ℕ) (a x : ℤ) : Type 0 where
  pub fits : SFits w64 (a +ℤ to_z w64 (of_z w64 x))
  pub value : to_z w64 (of_z w64 (a +ℤ to_z w64 (of_z w64 x))) ≡ sum_to (i + 1) f
  pub size : nat_abs (to_z w64 (of_z w64 (a +ℤ to_z w64 (of_z w64 x)))) ≤ K * (i + 1)

pub added : (f : ℕ → ℤ) (i K : ℕ) (a x : ℤ) → a ≡ sum_to i f → nat_abs a ≤ K * i → x ≡ f i → nat_abs x ≤ K → K * (i + 1) < 2 ^ 63 → Added f i K a x
added f i K a x ea sa ex sx room =
    let same = same_bits x (omega arith) in
    let size : nat_abs (a +ℤ x) ≤ K * (i + 1) = omega (arith, lin) in
    let back = same_bits (a +ℤ x) (omega arith) in
    record {
      fits = rw same (fits_word (a +ℤ x) (omega arith));
      value = rw (same, back, sum_to_more i f, ea, ex);
      size = rw (same, back) size;
    }

-- sums of equal terms
pub sum_to_cong : (n : ℕ) (f g : ℕ → ℤ) → ((i : ℕ) → i < n → f i ≡ g i) → sum_to n f ≡ sum_to n g
sum_to_cong zero f g h = refl
sum_to_cong (suc n) f g h = rw (sum_to_cong n f g (λ i l. h i (omega arith)), h n (omega arith))

pub sum_to_le : (n : ℕ) (f g : ℕ → ℤ) → ((i : ℕ) → i < n → f i ≤ℤ g i) → sum_to n f ≤ℤ sum_to n g
sum_to_le zero f g h = omega (arith, lin)
sum_to_le (suc n) f g h = omega (arith, lin, sum_to_le n f g (λ i l. h i (omega arith)), h n (omega arith))

pub sum_to-zero : (n : ℕ) (f : ℕ → ℤ) → ((i : ℕ) → i < n → f i ≡ pos 0) → sum_to n f ≡ pos 0
sum_to-zero zero f h = refl
sum_to-zero (suc n) f h = omega (arith, lin, sum_to-zero n f (λ i l. h i (omega arith)), h n (omega arith))

pub sum_to-add : (n : ℕ) (f g : ℕ → ℤ) → sum_to n (λ i. f i +ℤ g i) ≡ sum_to n f +ℤ sum_to n g
sum_to-add zero f g = refl
sum_to-add (suc n) f g = omega (arith, lin, sum_to-add n f g)

pub sum_to-sub : (n : ℕ) (f g : ℕ → ℤ) → sum_to n (λ i. f i -ℤ g i) ≡ sum_to n f -ℤ sum_to n g
sum_to-sub zero f g = refl
sum_to-sub (suc n) f g = omega (arith, lin, sum_to-sub n f g)

-- a factor comes out of a sum, on the left and on the right
pub mul-sum_to : (n : ℕ) (c : ℤ) (f : ℕ → ℤ) → c *ℤ sum_to n f ≡ sum_to n (λ i. c *ℤ f i)
mul-sum_to zero c f = *ℤ-zero c
mul-sum_to (suc n) c f = rw (mul-add, mul-sum_to n c f)

pub sum_to-mul : (n : ℕ) (f : ℕ → ℤ) (c : ℤ) → sum_to n f *ℤ c ≡ sum_to n (λ i. f i *ℤ c)
sum_to-mul zero f c = zero-*ℤ c
sum_to-mul (suc n) f c = rw (add-mul, sum_to-mul n f c)

-- a table's rows and columns add up to the same
pub sum_to_swap : (m n : ℕ) (f : ℕ → ℕ → ℤ) → sum_to m (λ i. sum_to n (λ j. f i j)) ≡ sum_to n (λ j. sum_to m (λ i. f i j))
sum_to_swap zero n f = sym (sum_to-zero n _ (λ i l. refl))
sum_to_swap (suc m) n f = rw (sum_to_swap m n f, sum_to-add n (λ j. sum_to m (λ i. f i j)) (f m))

-- the terms two by two
pub sum_to_pairs : (n : ℕ) (f : ℕ → ℤ) → sum_to (2 * n) f ≡ sum_to n (λ j. f (2 * j) +ℤ f (2 * j + 1))
sum_to_pairs zero f = refl
sum_to_pairs (suc n) f =
    let two : 2 * suc n ≡ suc (suc (2 * n)) = omega arith in
    rw two (omega (arith, lin, sum_to_pairs n f, ap f (add-one (2 * n))))

-- all terms but one are 0
pub sum_to_only : (n k : ℕ) (f : ℕ → ℤ) → k < n → ((i : ℕ) → i < n → (i ≡ k → ⊥) → f i ≡ pos 0) → sum_to n f ≡ f k
sum_to_only zero k f h z = absurd (omega arith)
sum_to_only (suc n) k f h z =
    elim (cases_eq k n) [
      | inl e ↦ rw e (omega (arith, lin, sum_to-zero n f (λ i l. z i (omega arith) (λ c. omega arith))))
      | inr e ↦
          omega (arith, lin, sum_to_only n k f (omega arith) (λ i l. z i (omega arith)), z n (omega arith) (λ c. e (sym c)))
    ]

pub sum_to_split : (k n : ℕ) (f : ℕ → ℤ) → sum_to (k + n) f ≡ sum_to k f +ℤ sum_to n (λ i. f (k + i))
sum_to_split k zero f = rw (add-zero, +ℤ_idr)
sum_to_split k (suc n) f = rw add-suc (omega (arith, lin, sum_to_split k n f))

-- what is k places back, and 0 before there is such a place
abbrev pub back : ℕ → (ℕ → ℤ) → ℕ → ℤ
back k a j = cond (leb k j) (a (j - k)) (pos 0)

-- a(i) × x(i + k), added up by the place of x; the last k of a are 0
pub sum_to_shift : (k n : ℕ) (a x : ℕ → ℤ) → ((i : ℕ) → i < n → n ≤ i + k → a i ≡ pos 0) → sum_to n (λ i. a i *ℤ x (i + k)) ≡ sum_to n (λ j. back k a j *ℤ x j)
sum_to_shift k n a x ends =
    let f : ℕ → ℤ = λ j. back k a j *ℤ x j in
    let moved = sum_to_cong n (λ i. a i *ℤ x (i + k)) (λ i. f (k + i)) (λ i l. grind (arith, nat_tests)) in
    let before = sum_to-zero k f (λ i l. grind (arith, nat_tests, zero-*ℤ)) in
    let past = sum_to-zero k (λ i. f (n + i)) (λ i l. grind (arith, nat_tests, ends, zero-*ℤ)) in
    moved
    ∙ omega (arith, lin, sum_to_split k n f, sum_to_split n k f, ap (λ m. sum_to m f) (add_comm n k), before, past)

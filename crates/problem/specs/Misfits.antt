-- What a misfit means, and the law of misfits. Assumes nothing.
use Rattle.std.specs.Prelude.{◌≡◌, ℕ, ◌*◌, ◌^◌, ◌≤◌, cond, ℤ, pos, ◌+ℤ◌, ◌*ℤ◌, ◌≤ℤ◌, nat_le, unsigned_abs}

-- All costs are doubled.
pub record MisfitMeaning : Type 0 where
  -- the cost of a residual: cost d n is that of the fraction n / d, times d × d
  pub cost : ℕ → ℤ → ℤ
  -- the admitted ray numbers are those from - end to end
  pub end : ℕ
  -- the price of an admitted ray number: the convex conjugate of the cost
  pub conjugate : ℤ → ℤ
  -- the ray number that answers a residual: a subgradient of the cost
  pub subgradient : ℤ → ℤ
  pub code : ℕ

-- the largest residual that is asked for
abbrev pub widest : ℕ
widest = 4194304

abbrev pub Admitted : MisfitMeaning → ℤ → Type 0
Admitted m p = unsigned_abs p ≤ m.end

abbrev pub Reached : ℤ → Type 0
Reached r = unsigned_abs r ≤ widest

-- from 0 to 2^44
abbrev pub Modest : ℤ → Type 0
Modest x = (pos 0 ≤ℤ x) × (x ≤ℤ pos (2 ^ 44))

pub record LawfulMisfit (m : MisfitMeaning) : Type 0 where
  pub end_low : m.end ≤ widest
  -- the inequality of Fenchel and Young
  pub young : (d : ℕ) (n p : ℤ) → 1 ≤ d → Admitted m p → (pos (2 * d) *ℤ (n *ℤ p)) ≤ℤ (m.cost d n +ℤ pos (d * d) *ℤ m.conjugate p)
  -- it is an equality at the subgradient, which is admitted
  pub answered : (r : ℤ) → Reached r → Admitted m (m.subgradient r)
  pub tight : (r : ℤ) → Reached r → m.cost 1 r +ℤ m.conjugate (m.subgradient r) ≡ pos 2 *ℤ (r *ℤ m.subgradient r)
  pub cost_modest : (r : ℤ) → Reached r → Modest (m.cost 1 r)
  pub conjugate_modest : (p : ℤ) → Admitted m p → Modest (m.conjugate p)

-- what a misfit answers: 0 where it is asked outside its ends
abbrev pub cost_answer : MisfitMeaning → ℤ → ℤ
cost_answer m r = cond (nat_le (unsigned_abs r) widest) (m.cost 1 r) (pos 0)

abbrev pub conjugate_answer : MisfitMeaning → ℤ → ℤ
conjugate_answer m p = cond (nat_le (unsigned_abs p) m.end) (m.conjugate p) (pos 0)

abbrev pub subgradient_answer : MisfitMeaning → ℤ → ℤ
subgradient_answer m r = cond (nat_le (unsigned_abs r) widest) (m.subgradient r) (pos 0)

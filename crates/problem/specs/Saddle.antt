-- What objective and bound are: the primal and the dual value of one saddle-point problem. Assumes nothing.
use Rattle.std.specs.Prelude.{◌≡◌, ℕ, ◌*◌, ◌≤◌, cond, List, map, ℤ, pos, ◌-ℤ◌, ◌*ℤ◌, ◌≤ℤ◌}
use Rattle.std.specs.Int.Signed.{non_neg}
use Rattle.std.specs.List.{range_with_len}
use Rattle.std.specs.Int.{int_signum}
use Rattle.problem.specs.Setting.{pixel_count}
use Rattle.problem.specs.Scans.{Ray, LawfulScan}
use Rattle.problem.specs.Misfits.{LawfulMisfit}
use Rattle.problem.specs.Objective.{Problem, residual, objective_at, objective}
use Rattle.problem.specs.Bound.{adjoint, bound}
use Rattle.problem.specs.Fitting.{Proposal, ImageFits, DualsFit}
use Rattle.problem.specs.Lagrangian.{difference, lagrangian_at, lagrangian}
use Rattle.problem.specs.declared.settings.Settings.{Settings}

-- scan and misfit keep their laws, and settings and scan have one number of pixels
pub record LawfulProblem (P : Problem) : Type 0 where
  pub pixels : pixel_count P.settings ≡ P.scan.pixels
  pub scan_lawful : LawfulScan P.scan
  pub misfit_lawful : LawfulMisfit P.misfit

-- The dual numbers that answer an image u, those at which the Lagrangian is highest.

-- the subgradient at the residual of each ray
unfoldable pub answering_number : Problem → List ℕ → Ray → ℤ
answering_number P u r = P.misfit.subgradient (residual 1 u r)

abbrev pub answering_numbers : Problem → List ℕ → List ℤ
answering_numbers P u = map (answering_number P u) P.scan.rays

-- the sign of each difference × strength, which is 0 where the slice ends
unfoldable pub answering_slope : Settings → List ℕ → ℕ → ℤ
answering_slope g u k = int_signum (difference g u k) *ℤ pos g.strength

abbrev pub answering_slopes : Settings → List ℕ → List ℤ
answering_slopes g u = map (answering_slope g u) (range_with_len 0 (2 * pixel_count g))

-- The image that answers ray numbers and slopes, the one at which the Lagrangian is lowest:
-- the lowest density where w is not negative, and the highest elsewhere.
unfoldable pub answering_density : Problem → List ℤ → List ℤ → ℕ → ℕ
answering_density P p q j = cond (non_neg (adjoint P.settings P.scan p q j)) P.settings.lowest P.settings.highest

abbrev pub answering_image : Problem → List ℤ → List ℤ → List ℕ
answering_image P p q = map (answering_density P p q) (range_with_len 0 (pixel_count P.settings))

-- x is twice the primal value of the image u: the highest value of the Lagrangian over all dual numbers that fit
pub record PrimalValue (P : Problem) (u : List ℕ) (x : ℤ) : Type 0 where
  pub none_higher : (p q : List ℤ) → DualsFit P p q → lagrangian P u p q ≤ℤ x
  pub answer_fits : DualsFit P (answering_numbers P u) (answering_slopes P.settings u)
  pub reached : lagrangian P u (answering_numbers P u) (answering_slopes P.settings u) ≡ x

-- x is twice the dual value of p and q: the lowest value of the Lagrangian over all images within the limits,
-- whole or in fractions
pub record DualValue (P : Problem) (p q : List ℤ) (x : ℤ) : Type 0 where
  pub none_lower : (d : ℕ) (v : List ℕ) → 1 ≤ d → ImageFits P.settings d v → (pos (d * d) *ℤ x) ≤ℤ lagrangian_at P d v p q
  pub answer_fits : ImageFits P.settings 1 (answering_image P p q)
  pub reached : lagrangian P (answering_image P p q) p q ≡ x

-- at every image within the limits, whole or in fractions, the Lagrangian lies from x to the objective
abbrev pub LagrangianBetween : Problem → List ℤ → List ℤ → ℤ → Type 0
LagrangianBetween P p q x =
    (d : ℕ) (v : List ℕ) →
    1 ≤ d →
    ImageFits P.settings d v →
    ((pos (d * d) *ℤ x) ≤ℤ lagrangian_at P d v p q) × (lagrangian_at P d v p q ≤ℤ objective_at P d v)

-- no image within the limits, whole or in fractions, has an objective below x
abbrev pub NoImageBelow : Problem → ℤ → Type 0
NoImageBelow P x = (d : ℕ) (v : List ℕ) → 1 ≤ d → ImageFits P.settings d v → (pos (d * d) *ℤ x) ≤ℤ objective_at P d v

-- no image within the limits, whole or in fractions, is better than u by more than so much
abbrev pub NoImageBetterByMore : Problem → List ℕ → ℤ → Type 0
NoImageBetterByMore P u distance = NoImageBelow P (objective P u -ℤ distance)

-- the saddle theorem of one problem
pub record Saddle (P : Problem) : Type 0 where
  pub lagrangian_between : (p q : List ℤ) → DualsFit P p q → LagrangianBetween P p q (bound P p q)
  pub objective_is_primal_value : (u : List ℕ) → ImageFits P.settings 1 u → PrimalValue P u (objective P u)
  pub bound_is_dual_value : (p q : List ℤ) → DualsFit P p q → DualValue P p q (bound P p q)
  pub no_image_below_bound : (p q : List ℤ) → DualsFit P p q → NoImageBelow P (bound P p q)

abbrev pub SaddleTheorem : Type 0
SaddleTheorem = (P : Problem) → LawfulProblem P → Saddle P

-- what objective and bound say of a proposal that fits
pub record Weighed (P : Problem) (x : Proposal) (objective bound : ℤ) : Type 0 where
  pub primal : PrimalValue P x.image objective
  pub dual : DualValue P x.ray_numbers x.slopes bound
  pub between : LagrangianBetween P x.ray_numbers x.slopes bound
  pub none_below : NoImageBelow P bound
  -- the distance
  pub none_better : NoImageBetterByMore P x.image (objective -ℤ bound)

-- The saddle theorem. Assumes nothing.
use Rattle.std.proofs.Common.{◌≡◌, List, ℤ, ◌-ℤ◌, arith}
use Rattle.algebra.proofs.Integers.{lin}
use Rattle.problem.specs.Objective.{Problem, objective}
use Rattle.problem.specs.Bound.{bound}
use Rattle.problem.specs.Fitting.{Proposal, Fits, ImageFits, DualsFit}
use Rattle.problem.specs.Saddle.{LawfulProblem, PrimalValue, DualValue, LagrangianBetween, NoImageBelow, SaddleTheorem, Weighed}
use Rattle.problem.proofs.Bounds.{bound_below, answering_image_fits, bound_reached}
use Rattle.problem.proofs.Objectives.{objective_above, answering_duals_fit, objective_reached}

-- the two parts of what fits
module _ (P : Problem) (x : Proposal) (f : Fits P x) where
  pub image_fits : ImageFits P.settings 1 x.image
  image_fits = record { length_is = f.image_length; within = λ j h. omega (arith, f.image_within j h) }

  pub duals_fit : DualsFit P x.ray_numbers x.slopes
  duals_fit = record {
    ray_numbers_length = f.ray_numbers_length;
    slopes_length = f.slopes_length;
    admitted = f.ray_numbers_within;
    slopes_within = f.slopes_within;
  }

module _ (P : Problem) (l : LawfulProblem P) where
  module _ (p q : List ℤ) (fit : DualsFit P p q) where
    between : LagrangianBetween P p q (bound P p q)
    between d v one i = (bound_below P l p q fit d v i, objective_above P l p q fit d v one)

    none_below : NoImageBelow P (bound P p q)
    none_below d v one i = omega (arith, lin, between d v one i)

    dual : DualValue P p q (bound P p q)
    dual = record {
      none_lower = λ d v one i. bound_below P l p q fit d v i;
      answer_fits = answering_image_fits P p q;
      reached = bound_reached P l p q fit;
    }

  primal : (u : List _) → ImageFits P.settings 1 u → PrimalValue P u (objective P u)
  primal u i = record {
    none_higher = λ p q fit. objective_above P l p q fit 1 u (omega arith);
    answer_fits = answering_duals_fit P l u i;
    reached = objective_reached P l u i;
  }

  -- a proposal that fits learns it of its own numbers
  pub weighed : (x : Proposal) → Fits P x → Weighed P x (objective P x.image) (bound P x.ray_numbers x.slopes)
  weighed x f =
      let fit = duals_fit P x f in
      let low = none_below x.ray_numbers x.slopes fit in
      record {
        primal = primal x.image (image_fits P x f);
        dual = dual x.ray_numbers x.slopes fit;
        between = between x.ray_numbers x.slopes fit;
        none_below = low;
        none_better = rw cancelled low;
      }
    where
      cancelled : (a b : ℤ) → a -ℤ (a -ℤ b) ≡ b
      cancelled a b = omega (arith, lin)

pub saddle_theorem : SaddleTheorem
saddle_theorem P l = record {
  lagrangian_between = between P l;
  objective_is_primal_value = primal P l;
  bound_is_dual_value = dual P l;
  no_image_below_bound = none_below P l;
}

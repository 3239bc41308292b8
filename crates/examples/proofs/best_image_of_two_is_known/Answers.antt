use Rattle.std.proofs.Common.{◌≡◌, rules, [], ◌∷◌, pos, negsuc, refl, subst}
use Rattle.std.proofs.lemmas.Bool.Decides.{nat_tests}
use Rattle.misfits.specs.Laws.{square_lawful}
use Rattle.problem.specs.Objective.{objective_at, data_cost, ray_cost, residual, ray_sum, ray_term, total_variation, roughness_at, right_difference, down_difference, objective}
use Rattle.problem.specs.Bound.{bound, prices, price_of, readings_product, reading_term, density_product, density_term, least_product, adjoint, with_slopes, slope_from_left, slope_from_above, back_projection, pull_of, ray_pull, entry_pull}
use Rattle.problem.specs.Fitting.{Fits, proposed}
use Rattle.problem.specs.Saddle.{LawfulProblem, NoImageBelow}
use Rattle.problem.proofs.Saddle.{image_fits, duals_fit}
use Rattle.judge.proofs.Accepting.{fits_if_accepted}
use Rattle.examples.specs.Slices.{two_square}
use Rattle.examples.proofs.best_image_of_two_is_known.Goals as goal

two_lawful : LawfulProblem two_square
two_lawful = search (rules, nat_tests, square_lawful)

best_fits : Fits two_square (proposed (5 ∷ 7 ∷ []) (pos 1 ∷ negsuc 0 ∷ []) (pos 1 ∷ pos 0 ∷ pos 0 ∷ pos 0 ∷ []))
best_fits = fits_if_accepted two_square _ refl

best_objective : objective two_square (5 ∷ 7 ∷ []) ≡ pos 6
unfolding objective_at data_cost ray_cost residual ray_sum ray_term total_variation roughness_at right_difference down_difference
best_objective = refl

best_bound : bound two_square (pos 1 ∷ negsuc 0 ∷ []) (pos 1 ∷ pos 0 ∷ pos 0 ∷ pos 0 ∷ []) ≡ pos 6
unfolding bound prices price_of readings_product reading_term density_product density_term least_product adjoint with_slopes slope_from_left slope_from_above back_projection pull_of ray_pull entry_pull
best_bound = refl

pub returns : goal.returns
returns c =
    (image_fits two_square _ best_fits, best_objective, subst (NoImageBelow two_square) best_bound ((c.saddle_theorem.ensures two_square two_lawful).no_image_below_bound _ _ (duals_fit two_square _ best_fits)))

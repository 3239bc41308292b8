use Rattle.std.proofs.Common.{rules}
use Rattle.problem.specs.Objective.{objective_at, data_cost, ray_cost, residual, ray_sum, ray_term, total_variation, roughness_at, right_difference, down_difference}
use Rattle.problem.specs.Bound.{bound, prices, price_of, readings_product, reading_term, density_product, density_term, least_product, adjoint, with_slopes, slope_from_left, slope_from_above, back_projection, pull_of, ray_pull, entry_pull}
use Rattle.problem.specs.Lagrangian.{lagrangian_at, ray_share, slope_share, difference}
use Rattle.problem.specs.Saddle.{answering_number, answering_slope, answering_density}
use Rattle.examples.proofs.worked_examples_stand.Goals as goal

pub returns : goal.returns
unfolding objective_at data_cost ray_cost residual ray_sum ray_term total_variation roughness_at right_difference down_difference bound prices price_of readings_product reading_term density_product density_term least_product adjoint with_slopes slope_from_left slope_from_above back_projection pull_of ray_pull entry_pull lagrangian_at ray_share slope_share difference answering_number answering_slope answering_density
returns c = record { judged = search rules; saddle = search rules }

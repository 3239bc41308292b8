use Rattle.std.proofs.Common.{rules, ◌≡◌, ◌+◌, ◌*◌, arith}
use Rattle.std.specs.Option.{option_map}
use Rattle.problem.specs.Bound.{with_slopes}
use Rattle.judge.proofs.Beside.{slope_left, slope_above}
use Rattle.judge.proofs.Chains.{adjoint_is}
use Rattle.judge.proofs.fitting.Fitting.adjoint.Goals as goal

pub returns-clause-value : goal.returns-clause-value
unfolding with_slopes
returns-clause-value g c =
    let f = c.args.self.now in
    let from_left : c.map.result ≡ option_map (λ i. 2 * i) c.left_of.result = search rules in
    let from_above : c.map-2.result ≡ option_map (λ i. 2 * i + 1) c.above.result = search rules in
    grind (arith, adjoint_is, slope_left f.problem.settings.now f.proposal.slopes.now c.args.j, slope_above f.problem.settings.now f.proposal.slopes.now c.args.j)

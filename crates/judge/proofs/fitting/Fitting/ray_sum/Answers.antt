use Rattle.std.proofs.Common.{rules, length, arith}
use Rattle.algebra.proofs.Integers.{lin}
use Rattle.problem.specs.Scans.{ray_at}
use Rattle.problem.specs.Objective.{ray_sum}
use Rattle.problem.proofs.Exchange.{ray_sum_low}
use Rattle.judge.proofs.Rays.{entries_few}
use Rattle.judge.proofs.Adding.{sum_is}
use Rattle.judge.proofs.fitting.Fitting.ray_sum.Goals as goal

pub total-requires-clause-few : goal.total-requires-clause-few
total-requires-clause-few g c =
    omega (arith, entries_few _ (g.met.S.Scan.lawful c.args.self.now.problem.scan.now) c.args.ray)

pub returns-clause-value : goal.returns-clause-value
unfolding ray_sum
returns-clause-value g c = search (rules, sum_is)

pub returns-clause-size : goal.returns-clause-size
unfolding ray_sum
returns-clause-size g c =
    let f = c.args.self.now in
    omega (arith, lin, returns-clause-value g c, ray_sum_low _ (g.met.S.Scan.lawful f.problem.scan.now) f.proposal.image.now f.dense c.args.ray (length (ray_at (g.S.Scan.meaning f.problem.scan.now) c.args.ray).entries) (omega arith))

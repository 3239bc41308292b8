use Rattle.problem.specs.Scans.{ray_at}
use Rattle.problem.specs.Bound.{at}
use Rattle.judge.proofs.Pulls.{Pulled, Lighter}
use Rattle.judge.proofs.fitting.Fitting.add_ray.Given as goal

abbrev pub invariant-loop-k : goal.invariant-loop-k
invariant-loop-k g l =
    let s = g.S.Scan.meaning l.self.problem.scan.now in
    Pulled (at l.self.proposal.ray_numbers.now l.ray) (ray_at s l.ray) l.k l.initial.w l.w × Lighter s l.ray l.k l.w

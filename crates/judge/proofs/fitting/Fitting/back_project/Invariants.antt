use Rattle.judge.specs.Sizes.{Light}
use Rattle.judge.proofs.Pulls.{Projected}
use Rattle.judge.proofs.fitting.Fitting.back_project.Given as goal

abbrev pub invariant-loop-ray : goal.invariant-loop-ray
invariant-loop-ray g l =
    let s = g.S.Scan.meaning l.self.problem.scan.now in
    Projected s l.self.proposal.ray_numbers.now l.ray l.w × Light s l.ray l.w

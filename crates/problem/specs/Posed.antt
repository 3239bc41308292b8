-- What a problem and a proposal of the code mean. Assumes nothing.
use Rattle.problem.specs.Scans.{ScanMeaning}
use Rattle.problem.specs.Misfits.{MisfitMeaning}
use Rattle.problem.specs.Objective.{Problem, posed}
use Rattle.problem.specs.Fitting.{Proposal, proposed}
use Rattle.problem.specs.declared.posed.Problem.{Problem as Posed}
use Rattle.problem.specs.declared.proposal.Proposal.{Proposal as Listed}

-- the problem that settings, scan and misfit pose, where `scanned` and `costed` say what a scan and a misfit mean
abbrev pub problem_of : {S M : Type 0} → (S → ScanMeaning) → (M → MisfitMeaning) → Posed S M → Problem
problem_of scanned costed p = posed p.settings.now (scanned p.scan.now) (costed p.misfit.now)

abbrev pub proposal_of : Listed → Proposal
proposal_of x = proposed x.image.now x.ray_numbers.now x.slopes.now

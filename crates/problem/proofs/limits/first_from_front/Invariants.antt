use Rattle.problem.proofs.Searching.{Left}
use Rattle.problem.proofs.limits.first_from_front.Given as goal

abbrev pub invariant-loop-place : goal.invariant-loop-place
invariant-loop-place g l = Left (g.L.Limits.within l.limits) l.items l.place l.before

use Rattle.judge.specs.Adding.{SumOf}
use Rattle.judge.proofs.sums.total.Given as goal

abbrev pub invariant-loop-i : goal.invariant-loop-i
invariant-loop-i g l = SumOf (goal.F-post g l.term) l.count l.i l.sum

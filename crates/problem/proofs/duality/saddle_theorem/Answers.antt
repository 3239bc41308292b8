use Rattle.problem.proofs.Saddle.{saddle_theorem}
use Rattle.problem.proofs.duality.saddle_theorem.Goals as goal

pub returns : goal.returns
returns c = saddle_theorem

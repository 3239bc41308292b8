use Rattle.std.proofs.Common.{arith}
use Rattle.std.proofs.lemmas.Int.{to_z-of_z}
use Rattle.examples.proofs.distance.distance_told.Goals as goal

pub returns-clause-promised : goal.returns-clause-promised
returns-clause-promised g c = grind (arith, to_z-of_z)

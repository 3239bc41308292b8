use Rattle.std.proofs.Common.{◌*◌, ◌≤◌, mul-le-mul, arith}
use Rattle.problem.proofs.Places.{few_pixels}
use Rattle.scans.proofs.stored.StoredScan.new.Goals as goal

pub invariant_of-result-clause-sized : goal.invariant_of-result-clause-sized
invariant_of-result-clause-sized c =
    let g = c.args.settings.now in
    let low : 1 ≤ g.columns * g.rows = mul-le-mul {n₁ = 1} {m₁ = 1} {n₂ = g.columns} {m₂ = g.rows} g.sized.0 g.sized.2 in
    (omega arith, omega (arith, few_pixels g))

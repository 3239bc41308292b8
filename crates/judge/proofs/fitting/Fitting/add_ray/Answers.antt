use Rattle.std.proofs.Common.{◌≡◌, ◌<◌, ◌≤◌, length, set, ℤ, pos, ◌+ℤ◌, ◌*ℤ◌, nat_abs, arith}
use Rattle.std.proofs.lemmas.Int.{to_z-of_z}
use Rattle.problem.specs.Scans.{ray_at}
use Rattle.problem.specs.Bound.{at}
use Rattle.judge.proofs.Rays.{entry_inside, not_missing}
use Rattle.judge.proofs.Pulls.{entry_added}
use Rattle.judge.proofs.fitting.Fitting.add_ray.Goals as goal
use Rattle.judge.proofs.fitting.Fitting.add_ray.Goals.{in-Some, in_default}

pub loop-k-preserved : goal.loop-k-preserved
loop-k-preserved g c =
    let f = c.args.self.now in
    let s = g.S.Scan.meaning f.problem.scan.now in
    let l = g.met.S.Scan.lawful f.problem.scan.now in
    let i = c.args.ray in
    let k = c.loop-k.k in
    let p : ℤ = at f.proposal.ray_numbers.now i in
    let small : nat_abs p ≤ 4194304 = omega (arith, f.admitted i, (g.met.M.Misfit.lawful f.problem.misfit.now).end_low) in
    elim c.match-entry.branch [
      | in-Some w ↦
          let x = w.in-Some.pixel in
          let y = w.in-Some.weight in
          let is = w.in-Some.ensures in
          let inside : x < length c.loop-k.w = omega (arith, entry_inside s l i k x y is) in
          let after : c.match-entry.w ≡ set c.loop-k.w x (at c.loop-k.w x +ℤ pos y *ℤ p) = grind (arith, to_z-of_z) in
          entry_added s l i c.requires.there k x y p is small c.args.w.now c.loop-k.w inside c.match-entry.w after c.loop-k.invariant
      | in_default w ↦
          absurd (not_missing (ray_at s i).entries k (omega arith) w.in_default.ensures)
    ]

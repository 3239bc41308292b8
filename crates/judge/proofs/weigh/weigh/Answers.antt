use Rattle.std.proofs.Common.{rules, is_ok, ap, refl}
use Rattle.judge.proofs.Accepting.{accepted_exactly, fits_if_accepted}
use Rattle.judge.proofs.Meaning.{weighed_if_accepted}
use Rattle.judge.proofs.weigh.weigh.Goals as goal

pub returns-in_err-fitting-clause-accepted : goal.returns-in_err-fitting-clause-accepted
returns-in_err-fitting-clause-accepted g c = accepted_exactly _ _ c.from_residual.result (search rules)

pub returns-clause-accepted : goal.returns-clause-accepted
returns-clause-accepted g c = (λ _. fits_if_accepted _ _ (ap is_ok c.in_ok-fitting.ensures.accepted), λ _. refl)

pub returns-clause-weighed : goal.returns-clause-weighed
returns-clause-weighed g c =
    let problem = c.args.problem.now in
    weighed_if_accepted _ _ (g.met.S.Scan.lawful problem.scan.now) (g.met.M.Misfit.lawful problem.misfit.now) _ _ (search rules)

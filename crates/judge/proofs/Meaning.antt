-- What a verdict means. Assumes nothing.
use Rattle.std.proofs.Common.{◌≡◌, is_ok, ℤ, Ok, Result, IfOk, sym, ap, ◌∙◌, subst}
use Rattle.problem.specs.Scans.{LawfulScan}
use Rattle.problem.specs.Misfits.{LawfulMisfit}
use Rattle.problem.specs.Objective.{Problem}
use Rattle.problem.specs.Fitting.{Proposal}
use Rattle.problem.specs.Saddle.{Weighed}
use Rattle.problem.proofs.Saddle.{weighed}
use Rattle.refusals.specs.declared.Refusal.{Refusal}
use Rattle.judge.specs.declared.verdict.Verdict.{Verdict}
use Rattle.judge.specs.Judging.{judged}
use Rattle.judge.proofs.Accepting.{fits_if_accepted, accepted_if_fits}

pub weighed_if_accepted : (P : Problem) (x : Proposal) → LawfulScan P.scan → LawfulMisfit P.misfit → (o b : ℤ) → Ok (record { objective = o; bound = b }) ≡ judged P x → Weighed P x o b
weighed_if_accepted P x s m o b told =
    let f = fits_if_accepted P x (ap is_ok (sym told)) in
    subst (λ (r : Result Verdict Refusal). IfOk r (λ v. Weighed P x v.objective v.bound)) (sym (told ∙ accepted_if_fits P x f)) (weighed P (record { pixels = f.pixels; scan_lawful = s; misfit_lawful = m }) x f)

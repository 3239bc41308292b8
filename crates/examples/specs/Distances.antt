-- The distance in a judge's answer. Assumes nothing.
use Rattle.std.specs.Prelude.{ℤ, ◌-ℤ◌, Ok, Err, Result}
use Rattle.refusals.specs.declared.Refusal.{Refusal}
use Rattle.judge.specs.declared.verdict.Verdict.{Verdict}

-- objective less bound, or the same refusal
abbrev pub distance_in : Result Verdict Refusal → Result ℤ Refusal
distance_in (Ok v) = Ok (v.objective -ℤ v.bound)
distance_in (Err e) = Err e

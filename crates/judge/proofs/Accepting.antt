-- A proposal is accepted exactly when it fits. Assumes nothing.
use Rattle.std.proofs.Common.{rules, ◌≡◌, ℕ, ◌<◌, ◌≤◌, Bool, true, false, cond, List, length, get_or, ℤ, pos, nat_abs, is_ok, Some, None, Ok, Decides, Option, Result, sym, refl, ap, ◌∙◌, zero-add}
use Rattle.std.proofs.lemmas.Bool.{eqb-true, eq-eqb}
use Rattle.problem.specs.Search.{first_outside, before_at}
use Rattle.problem.specs.Objective.{Problem}
use Rattle.problem.specs.Fitting.{Proposal, Fits, slope_limit}
use Rattle.problem.specs.declared.settings.Settings.{Settings}
use Rattle.refusals.specs.declared.Refusal.{Refusal}
use Rattle.problem.proofs.Searching.{tells_first, none_from_admitted}
use Rattle.judge.specs.Judging.{density_within, number_within, slope_within, unless, verdict_of, judged}
use Rattle.judge.specs.declared.verdict.Verdict.{Verdict}

-- a search for the first element outside its limits, where it is known what a limit says
module _ {X : Type 0} (admits : ℕ → Option X → X → Bool) (Within : ℕ → X → Type 0) (decides : (i : ℕ) (before : Option X) (x : X) → Decides (admits i before x) (Within i x)) (d : X) (xs : List X) where
  each_within : first_outside admits xs ≡ None → (i : ℕ) → i < length xs → Within i (get_or xs i d)
  each_within e i h = (decides i (before_at None xs i d) (get_or xs i d)).0 (tells_first admits xs None (sym e) i d h)

  none_outside : ((i : ℕ) → i < length xs → Within i (get_or xs i d)) → first_outside admits xs ≡ None
  none_outside h =
      none_from_admitted admits d 0 None xs (λ i l. rw zero-add ((decides i (before_at None xs i d) (get_or xs i d)).1 (h i l)))

density_decides : (g : Settings) (j : ℕ) (before : Option ℕ) (x : ℕ) → Decides (density_within g j before x) ((g.lowest ≤ x) × (x ≤ g.highest))
density_decides g j before x = search rules

number_decides : (end i : ℕ) (before : Option ℤ) (x : ℤ) → Decides (number_within end i before x) (nat_abs x ≤ end)
number_decides end i before x = search rules

slope_decides : (g : Settings) (k : ℕ) (before : Option ℤ) (x : ℤ) → Decides (slope_within g k before x) (nat_abs x ≤ slope_limit g k)
slope_decides g k before x = search rules

-- the chain of checks

both : (b : Bool) (r s : Result Verdict Refusal) → is_ok s ≡ false → is_ok (cond b r s) ≡ true → (b ≡ true) × (is_ok r ≡ true)
both true r s n h = (refl, h)
both false r s n h = absurd (cc)

passes : (o : Option ℕ) (f : ℕ → Refusal) (r : Result Verdict Refusal) → is_ok (unless o f r) ≡ true → (o ≡ None) × (is_ok r ≡ true)
passes None f r h = (refl, h)
passes (Some k) f r h = absurd (cc)

module _ (P : Problem) (x : Proposal) where
  pub fits_if_accepted : is_ok (judged P x) ≡ true → Fits P x
  fits_if_accepted h =
      let a = both _ _ _ refl h in
      let b = both _ _ _ refl a.1 in
      let c = both _ _ _ refl b.1 in
      let d = both _ _ _ refl c.1 in
      let e = passes _ _ _ d.1 in
      let f = passes _ _ _ e.1 in
      let i = passes _ _ _ f.1 in
      record {
        pixels = eqb-true _ _ a.0;
        image_length = eqb-true _ _ b.0;
        ray_numbers_length = eqb-true _ _ c.0;
        slopes_length = eqb-true _ _ d.0;
        image_within = each_within _ _ (density_decides P.settings) 0 x.image e.0;
        ray_numbers_within = each_within _ _ (number_decides P.misfit.end) (pos 0) x.ray_numbers f.0;
        slopes_within = each_within _ _ (slope_decides P.settings) (pos 0) x.slopes i.0;
      }

  pub accepted_if_fits : Fits P x → judged P x ≡ Ok (verdict_of P x)
  accepted_if_fits f =
      rw (
        eq-eqb _ _ f.pixels,
        eq-eqb _ _ f.image_length,
        eq-eqb _ _ f.ray_numbers_length,
        eq-eqb _ _ f.slopes_length,
        none_outside _ _ (density_decides P.settings) 0 x.image f.image_within,
        none_outside _ _ (number_decides P.misfit.end) (pos 0) x.ray_numbers f.ray_numbers_within,
        none_outside _ _ (slope_decides P.settings) (pos 0) x.slopes f.slopes_within,
      )

  pub accepted_exactly : (r : Result Verdict Refusal) → r ≡ judged P x → Decides (is_ok r) (Fits P x)
  accepted_exactly r e =
      (λ h. fits_if_accepted (ap is_ok (sym e) ∙ h), λ f. ap is_ok (e ∙ accepted_if_fits f))

-- What `==` of refusals keeps to. Assumes nothing.
use Rattle.std.specs.Cmp.{IsPartialEquivalence, IsEquivalence, and_per, on_per, and_equiv, on_equiv, partial_equiv_from_equiv, nat_eq_equiv}
use Rattle.refusals.specs.Telling.{number_of, place_of, same}

-- one number and one place are shared both ways round, and along a chain
pub same_laws : IsPartialEquivalence same
same_laws =
    and_per (on_per number_of (partial_equiv_from_equiv nat_eq_equiv)) (on_per place_of (partial_equiv_from_equiv nat_eq_equiv))

-- and a refusal shares them with itself
pub same_itself : IsEquivalence same
same_itself = and_equiv (on_equiv number_of nat_eq_equiv) (on_equiv place_of nat_eq_equiv)

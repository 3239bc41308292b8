use Rattle.std.proofs.Common.{Some, None, sym}
use Rattle.problem.proofs.Searching.{search_found, search_more, search_none, tells_first}
use Rattle.problem.proofs.limits.first_from_front.Goals as goal

pub returns-then-not-admits : goal.returns-then-not-admits
returns-then-not-admits g c =
    let e = sym (search_found _ _ _ _ _ c.loop-place.invariant c.loop-place-test.true c.index-items-place.is (sym c.if-not-admits.ensures)) in
    record { value = e; first = tells_first _ _ (Some c.loop-place.place) e }

pub loop-place-preserved : goal.loop-place-preserved
loop-place-preserved g c =
    search_more _ _ _ _ _ c.loop-place.invariant c.loop-place-test.true c.index-items-place.is (sym c.if-not-admits.ensures)

pub returns : goal.returns
returns g c =
    let e = sym (search_none _ _ _ _ c.loop-place.invariant c.loop-place-test.false) in
    record { value = e; first = tells_first _ _ None e }

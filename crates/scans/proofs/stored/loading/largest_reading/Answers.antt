use Rattle.std.proofs.Common.{get_or, refl, ◌∙◌}
use Rattle.std.specs.Ordering.{nat_cmp, max_by_ordering}
use Rattle.std.proofs.lemmas.Iterator.{YieldsList-from_slice}
use Rattle.std.proofs.lemmas.Iterator.Consumers.{YieldsList-from_copied, reduce_from_yields_List}
use Rattle.scans.proofs.Neighbours.{max_is_largest}
use Rattle.scans.proofs.stored.loading.largest_reading.Goals as goal

pub returns : goal.returns
returns c =
    let readings = c.args.readings.now in
    let best = reduce_from_yields_List (λ p z. max_by_ordering (nat_cmp p z) p z) c.copied.result c.max.result c.max.ensures.ran (YieldsList-from_copied (YieldsList-from_slice readings cc)) in
    c.unwrap_or.ensures ∙ max_is_largest readings (λ i. get_or readings i 0) (λ i lt. refl) c.max.result _ best refl

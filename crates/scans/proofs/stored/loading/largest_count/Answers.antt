use Rattle.std.proofs.Common.{◌-◌, Some, refl, ◌∙◌, arith, rules}
use Rattle.std.specs.Ordering.{nat_cmp, max_by_ordering}
use Rattle.std.proofs.lemmas.Iterator.{YieldsList-from_map}
use Rattle.std.proofs.lemmas.Iterator.Consumers.{reduce_from_yields_List}
use Rattle.scans.specs.Faultless.{starts_length, counts_low}
use Rattle.scans.proofs.Neighbours.{neighbours_road, largest_gap}
use Rattle.scans.proofs.Parts.{part_turn}
use Rattle.scans.proofs.stored.loading.largest_count.Goals as goal

pub max-requires-clause-can : goal.max-requires-clause-can
max-requires-clause-can c = (
  search rules,
  record { at = λ xs t q x u y _ step. let part = part_turn _ _ _ c.requires c.map.result.iter (cc) (cc) xs t y (Some x) u x refl step in search rules },
)

pub returns-clause-value : goal.returns-clause-value
returns-clause-value c =
    c.unwrap_or.ensures
    ∙ largest_gap c.args.table.now.starts.now c.max.result _ (starts_length _ _ _ c.requires) (reduce_from_yields_List (λ p z. max_by_ordering (nat_cmp p z) p z) c.map.result c.max.result c.max.ensures.ran (YieldsList-from_map _ (λ p. p.1 - p.0) (neighbours_road c.map.result.iter c.args.table.now.starts.now (cc) (cc)) c.map.ensures.closure (λ x r q k. search rules)))

pub returns-clause-low : goal.returns-clause-low
returns-clause-low c =
    let value = returns-clause-value c in omega (arith, counts_low _ _ c.args.table.now.starts.now c.requires)

use Rattle.std.proofs.Common.{◌≡◌, ◌<◌, length, get_or, sym, ap, ◌∙◌, arith}
use Rattle.std.specs.Option.{option_map}
use Rattle.std.proofs.lemmas.Iterator.Consumers.{YieldsList-end}
use Rattle.std.proofs.lemmas.List.{length_push}
use Rattle.refusals.specs.declared.Refusal.TheVariants.{Entry}
use Rattle.scans.specs.Choosing.{first_some}
use Rattle.scans.specs.Loading.{ray_fault, entries_fault}
use Rattle.scans.specs.Faultless.{starts_length}
use Rattle.scans.proofs.Neighbours.{neighbours_road, length-neighbours}
use Rattle.scans.proofs.Parts.{Part, part_turn, fault_is, first_some_more, first_some_found}
use Rattle.scans.proofs.table.Table.check_entries.Goals as goal
use Rattle.scans.proofs.table.Table.check_entries.Goals.{In-Some}

-- the part of this turn's ray
part : (c : In-Some) → Part c.args.self.now.starts.now c.args.self.now.entries.now (length c.loop-from.yielded) (get_or c.in-Some.field-0.now 0 0) (get_or c.in-Some.field-0.now 1 0)
part c =
    part_turn (length c.args.self.now.readings.now) _ _ c.requires c.into_iter-from-iterator.result (cc) (cc) _ _ c.loop-from.yielded_by _ _ _ c.in-Some.is c.next.ensures.steps

pub offset_bounds-self-from : goal.offset_bounds-self-from
offset_bounds-self-from c = let p = part (goal.at.offset_bounds-self-from c).In-Some in omega arith

pub slice_bounds-first_outside-count : goal.slice_bounds-first_outside-count
slice_bounds-first_outside-count c = (part (goal.at.slice_bounds-first_outside-count c).In-Some).rises

pub slice_bounds-first_outside-start : goal.slice_bounds-first_outside-start
slice_bounds-first_outside-start c = (part (goal.at.slice_bounds-first_outside-start c).In-Some).rises

pub slice_bounds-first_outside-end : goal.slice_bounds-first_outside-end
slice_bounds-first_outside-end c = (part (goal.at.slice_bounds-first_outside-end c).In-Some).ends

pub returns-in-Some-first_outside : goal.returns-in-Some-first_outside
unfolding entries_fault
returns-in-Some-first_outside c =
    let p = part (goal.at.returns-in-Some-first_outside c).In-Some in
    let place : length c.loop-from.yielded < length c.args.self.now.readings.now = omega (arith, p.inside, starts_length _ _ _ c.requires) in
    sym (ap (option_map Entry) (first_some_found _ _ _ _ c.loop-from.invariant (fault_is c.args.pixels _ _ _ _ _ p _ c.in-Some-first_outside.ensures.value) place))

pub loop-from-preserved : goal.loop-from-preserved
loop-from-preserved c =
    let p = part (goal.at.loop-from-preserved c).In-Some in
    rw length_push (first_some_more _ _ c.loop-from.invariant (fault_is c.args.pixels _ _ _ _ _ p _ c.in_default.ensures.value))

pub returns : goal.returns
unfolding entries_fault
returns c =
    let starts = c.args.self.now.starts.now in
    let all = YieldsList-end (neighbours_road c.into_iter-from-iterator.result starts (cc) (cc)) _ _ c.loop-from.yielded_by _ _ c.in-None.is c.next.ensures.steps in
    let same : length c.args.self.now.readings.now ≡ length c.loop-from.yielded = omega (arith, all.1, length-neighbours starts, starts_length _ _ starts c.requires) in
    sym (ap (option_map Entry) (ap (λ n. first_some n (ray_fault c.args.pixels c.args.self.now.starts.now c.args.self.now.entries.now)) same ∙ c.loop-from.invariant))

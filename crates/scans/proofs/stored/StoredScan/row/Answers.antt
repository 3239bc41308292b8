use Rattle.std.proofs.Common.{vec_items, length, ap, sym, ◌∙◌, arith}
use Rattle.problem.specs.Scans.{Ray}
use Rattle.scans.proofs.Parts.{Part}
use Rattle.scans.specs.Shape.{shape, ray_is, ray_gone}
use Rattle.scans.proofs.Rows.{row_there}
use Rattle.scans.proofs.stored.StoredScan.row.Goals as goal
use Rattle.scans.proofs.stored.StoredScan.row.Goals.{After-index-then-ray-len}

-- the part of this ray
part : (c : After-index-then-ray-len) → Part (vec_items c.args.self.now.starts) (vec_items c.args.self.now.entries) c.args.ray c.index.result.now c.index-then-ray-len.result.now
part c = row_there c.args.self.now c.args.ray _ _ (omega arith) c.index.ensures c.index-then-ray-len.ensures

pub index-requires : goal.index-requires
index-requires c = omega (arith, shape c.args.self.now)

pub index-requires-then-ray-len : goal.index-requires-then-ray-len
index-requires-then-ray-len c = omega (arith, shape c.args.self.now)

pub offset_bounds-deref-index : goal.offset_bounds-deref-index
offset_bounds-deref-index c =
    let p = part (goal.at.offset_bounds-deref-index c).After-index-then-ray-len in omega (arith, ap length c.deref.ensures.value)

pub slice_bounds-result-count : goal.slice_bounds-result-count
slice_bounds-result-count c = (part (goal.at.slice_bounds-result-count c).After-index-then-ray-len).rises

pub slice_bounds-result-start : goal.slice_bounds-result-start
slice_bounds-result-start c = (part (goal.at.slice_bounds-result-start c).After-index-then-ray-len).rises

pub slice_bounds-result-end : goal.slice_bounds-result-end
slice_bounds-result-end c =
    let p = part (goal.at.slice_bounds-result-end c).After-index-then-ray-len in omega (arith, ap length c.deref.ensures.value)

pub returns-then-ray-len : goal.returns-then-ray-len
returns-then-ray-len c =
    let p = part (goal.at.returns-then-ray-len c).After-index-then-ray-len in
    rw c.deref.ensures.value (p.is ∙ ap (λ (r : Ray). r.entries) (sym (ray_is c.args.self.now c.args.ray (omega arith))))

pub returns-else-ray-len : goal.returns-else-ray-len
returns-else-ray-len c = ap (λ (r : Ray). r.entries) (sym (ray_gone c.args.self.now c.args.ray (omega arith)))

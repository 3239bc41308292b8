use Rattle.std.proofs.Common.{◌≡◌, None, length}
use Rattle.scans.specs.Choosing.{first_some}
use Rattle.scans.specs.Loading.{ray_fault}
use Rattle.scans.proofs.table.Table.check_entries.Given as goal

abbrev pub invariant-loop-from : goal.invariant-loop-from
invariant-loop-from l =
    first_some (length l.yielded) (ray_fault l.pixels l.self.starts.now l.self.entries.now) ≡ None

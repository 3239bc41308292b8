-- A table as it is handed over: its first fault, and what it means. Assumes nothing.
use Rattle.std.specs.Prelude.{ℕ, Option}
use Rattle.refusals.specs.declared.Refusal.{Refusal}
use Rattle.problem.specs.Scans.{ScanMeaning}
use Rattle.scans.specs.Loading.{load_fault}
use Rattle.scans.specs.Tables.{table_meaning}
use Rattle.scans.specs.declared.table.Table.{Table}

abbrev pub table_fault : ℕ → Table → Option Refusal
table_fault pixels t = load_fault pixels t.starts.now t.entries.now t.readings.now

abbrev pub scan_of : ℕ → Table → ScanMeaning
scan_of pixels t = table_meaning pixels t.starts.now t.entries.now t.readings.now

-- After f turns f entries have the versions of the others.
use Rattle.records.specs.Version.{as_read}
use Rattle.decision.proofs.Storing.{Stored}
use Rattle.table.specs.TableStep.{entry_of}
use Rattle.restore.specs.Reading.{with_version}
use Rattle.restore.proofs.reading.with_versions.Given as goal

abbrev pub invariant-loop-f : goal.invariant-loop-f
invariant-loop-f l =
    Stored l.count (λ k. k) (λ k. with_version (entry_of l.fn.files k) (as_read (entry_of l.others k).version)) l.fn.files l.files l.f

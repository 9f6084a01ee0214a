use Rattle.std.proofs.Common.{◌-◌, length, drop}
use Rattle.jobfile.specs.Reading.{read_fields}
use Rattle.jobfile.specs.Readers.{front_of}
use Rattle.jobfile.proofs.FieldLoops.{SoFar}
use Rattle.jobfile.proofs.reader.Reader.read_fields.Given as goal

abbrev pub invariant-loop-self : goal.invariant-loop-self
invariant-loop-self l =
    let r = l.initial.self in
    SoFar r.file.now (read_fields (length r.file.now) (front_of r) (drop r.at r.file.now) r.at) l.self

abbrev pub decreases-loop-self : goal.decreases-loop-self
decreases-loop-self l = length l.initial.self.file.now - l.self.at

-- The worked files, computed. Assumes nothing.
use Rattle.std.proofs.Common.{refl}
use Rattle.rules.specs.Records.{asked}
use Rattle.jobfile.specs.Reading.{numbers_in, read}
use Rattle.jobfile.specs.Examples.{FilesHold}

pub files_hold : FilesHold
unfolding asked numbers_in read
files_hold = (refl, (refl, (refl, (refl, (refl, (refl, (refl, (refl, (refl, (refl, (refl, tt)))))))))))

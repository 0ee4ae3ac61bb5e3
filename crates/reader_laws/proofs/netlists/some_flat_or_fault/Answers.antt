use Rattle.reader_laws.proofs.BlifSound.{sound_design}
use Rattle.reader_laws.proofs.FlatExists.{some_flat}
use Rattle.reader_laws.proofs.netlists.some_flat_or_fault.Goals as goal

pub returns-clause-sound : goal.returns-clause-sound
returns-clause-sound c = some_flat

pub returns-clause-read : goal.returns-clause-read
returns-clause-read c = λ text design model read. some_flat design model (sound_design text design read)

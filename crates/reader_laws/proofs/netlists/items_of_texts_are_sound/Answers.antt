use Rattle.reader_laws.proofs.BlifSound.{sound_design}
use Rattle.reader_laws.proofs.netlists.items_of_texts_are_sound.Goals as goal

pub returns : goal.returns
returns c = sound_design

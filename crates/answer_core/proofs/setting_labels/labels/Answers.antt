use Rattle.answer_core.proofs.setting_labels.labels.Goals as goal

pub labels_for-requires : goal.labels_for-requires
labels_for-requires g c = record { words = rw (c.k.ensures, c.words.ensures) c.requires.words; names = rw c.words.ensures c.requires.names }

pub returns : goal.returns
returns g c = rw (c.k.ensures, c.words.ensures) at c.labels_for.ensures

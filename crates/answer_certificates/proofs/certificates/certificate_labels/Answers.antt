use Rattle.std.proofs.Common.{◌∙◌, sym}
use Rattle.answer_certificates.proofs.certificates.certificate_labels.Goals as goal

pub circuit_labels_for-requires : goal.circuit_labels_for-requires
circuit_labels_for-requires g c = record {
  words = rw (c.k.ensures, c.words.ensures) c.requires.ready.words;
  names = rw c.words.ensures c.requires.ready.names;
  bits = c.requires.taken.bits ∙ sym c.k.ensures;
  roles = rw c.words.ensures c.requires.taken.roles;
}

pub returns : goal.returns
returns g c = record {
  labels = rw (c.k.ensures, c.words.ensures) at c.circuit_labels_for.ensures.labels;
  sound = c.circuit_labels_for.ensures.sound;
  is_bound = c.circuit_labels_for.ensures.is_bound;
}

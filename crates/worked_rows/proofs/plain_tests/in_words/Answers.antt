use Rattle.std.proofs.Common.{◌≤◌, length, arith}
use Rattle.worked_rows.proofs.plain_tests.in_words.Goals as goal

pub bits_terms-requires-clause-bases : goal.bits_terms-requires-clause-bases
bits_terms-requires-clause-bases g c = record { long = c.requires.long; each = c.requires.over }

pub words_poly-requires-clause-bases : goal.words_poly-requires-clause-bases
words_poly-requires-clause-bases g c = record { long = c.requires.long; each = c.requires.over }

pub words_poly-requires-clause-few : goal.words_poly-requires-clause-few
words_poly-requires-clause-few g c =
    let small : length c.in-Ok.bits.items ≤ 4294967295 = c.in-Ok.ensures.few in
    omega (arith, small)

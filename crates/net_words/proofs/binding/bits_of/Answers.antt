use Rattle.std.proofs.Common.{◌≡◌, ◌∙◌, ap, sym, arith, drop_of_length-le}
use Rattle.net_words.specs.Bind.{bits_of}
use Rattle.net_words.proofs.BoundLemmas.{first_long}
use Rattle.net_words.proofs.binding.bits_of.Goals as goal

pub returns-clause-words : goal.returns-clause-words
returns-clause-words c =
    let words = c.args.words.now in
    let none : 0 ≡ bits_of words = ap bits_of (sym (drop_of_length-le words (omega arith))) ∙ c.loop-word.invariant in
    absurd (omega (arith, none, first_long c.requires.0 words c.requires.1, c.requires.1.some))

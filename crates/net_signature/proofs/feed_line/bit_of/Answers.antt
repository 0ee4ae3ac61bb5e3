use Rattle.lists.specs.laws.OptionLaws.{if_none}
use Rattle.net_signature.proofs.BitLemmas.{no_bit}
use Rattle.net_signature.proofs.feed_line.bit_of.Goals as goal

pub returns-clause-none : goal.returns-clause-none
returns-clause-none c =
    let front = c.in_ok-front.ensures.found in
    let parts = c.in_ok-word.ensures.found in
    if_none c.bit_from.result (no_bit c.args.token.now c.in_ok-front.front.now c.in_ok-word.word.now c.in_ok-word.digits.now front parts.0 parts.1) c.bit_from.ensures.none

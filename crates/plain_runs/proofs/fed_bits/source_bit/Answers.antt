use Rattle.std.proofs.Common.{sym, subst, map}
use Rattle.circuit_model.specs.declared.circuit_feed.FeedSource.{FeedSource}
use Rattle.circuit_model.specs.Run.{HasSource}
use Rattle.circuit_model.specs.Flat.{word_of}
use Rattle.plain_runs.proofs.FedBitLemmas.{place_source}
use Rattle.plain_runs.proofs.fed_bits.source_bit.Goals as goal

pub returns-in-Bit : goal.returns-in-Bit
returns-in-Bit g c =
    let P : FeedSource → Type 0 = λ s. HasSource (map word_of c.args.words.now) c.args.xs.now s c.word_bit.result in
    subst P (sym c.in-Bit.is) (place_source c.args.words.now c.args.xs.now c.in-Bit.word c.in-Bit.place c.word_bit.result c.word_bit.ensures)

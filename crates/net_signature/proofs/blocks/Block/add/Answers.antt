use Rattle.std.proofs.Common.{subst, List}
use Rattle.net_words.specs.declared.word.WordText.{WordText}
use Rattle.net_signature.specs.Body.{BlockValue, block_with, with_word}
use Rattle.net_signature.proofs.ReaderLemmas.{fits_with}
use Rattle.net_signature.specs.Reading.{Fits}
use Rattle.outcome.specs.Outcome.{Returns}
use Rattle.net_signature.proofs.blocks.Block.add.Goals as goal

pub returns : goal.returns
returns c =
    let inside : BlockValue = record { model = c.self.inside.model; words = c.self.inside.words.items } in
    let view : Unit {0} → List WordText = λ u. c.add_word.new.words.items in
    let P : BlockValue → Type 0 = λ b. Fits (λ (u : Unit {0}). record inside { words = view u }) c.add_word.result (Returns (block_with b c.args.word)) in
    subst P c.self.view_is (fits_with (λ (words : List WordText). record inside { words = words }) view c.add_word.result (with_word inside.words c.args.word) c.add_word.ensures.fits)

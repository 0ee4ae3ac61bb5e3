use Rattle.std.proofs.Common.{sym, subst, List, Option, None, Some}
use Rattle.outcome.specs.Outcome.{Returns}
use Rattle.net_words.specs.declared.word.WordText.{WordText}
use Rattle.net_signature.specs.Body.{BlockValue, BodyValue, block_with, body_with, with_word}
use Rattle.net_signature.specs.Reading.{Fits}
use Rattle.net_signature.proofs.ReaderLemmas.{fits_with}
use Rattle.net_signature.proofs.body.Body.add_word.Goals as goal

pub invariant_of-self : goal.invariant_of-self
invariant_of-self c = c.add_word.ensures.few c.self.invariant

pub returns-in-None : goal.returns-in-None
returns-in-None c =
    let at : Option BlockValue → BodyValue = λ o. record { version = c.self.inside.version; words = c.self.inside.words.items; feeds = c.self.inside.feeds; blocks = c.self.inside.blocks; block = o } in
    let view : Unit {0} → List WordText = λ u. c.add_word.new.words.items in
    let R : Option BlockValue → Type 0 = λ o. Fits (λ (u : Unit {0}). record (at o) { words = view u }) c.add_word.result (Returns (body_with (at o) o c.args.word)) in
    let P : BodyValue → Type 0 = λ b. Fits (λ (u : Unit {0}). record (at c.self.inside.block) { words = view u }) c.add_word.result (Returns (body_with b b.block c.args.word)) in
    subst P c.self.view_is (subst R (sym c.in-None.is) (fits_with (λ (words : List WordText). record (at None) { words = words }) view c.add_word.result (with_word c.self.inside.words.items c.args.word) c.add_word.ensures.fits))

pub returns-in-Some : goal.returns-in-Some
returns-in-Some c =
    let at : Option BlockValue → BodyValue = λ o. record { version = c.self.inside.version; words = c.self.inside.words.items; feeds = c.self.inside.feeds; blocks = c.self.inside.blocks; block = o } in
    let block : BlockValue = c.in-Some.block in
    let view : Unit {0} → BlockValue = λ u. c.add.new.self in
    let R : Option BlockValue → Type 0 = λ o. Fits (λ (u : Unit {0}). record (at o) { block = Some (view u) }) c.add.result (Returns (body_with (at o) o c.args.word)) in
    let P : BodyValue → Type 0 = λ b. Fits (λ (u : Unit {0}). record (at c.self.inside.block) { block = Some (view u) }) c.add.result (Returns (body_with b b.block c.args.word)) in
    subst P c.self.view_is (subst R (sym c.in-Some.is) (fits_with (λ (more : BlockValue). record (at (Some block)) { block = Some more }) view c.add.result (block_with block c.args.word) c.add.ensures))

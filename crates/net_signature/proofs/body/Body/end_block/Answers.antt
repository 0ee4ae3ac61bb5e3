use Rattle.std.proofs.Common.{◌≡◌, ◌∙◌, ap, sym, List, [], ◌∷◌, ◌++◌, Option, None, Some}
use Rattle.std.proofs.lemmas.Result.{on_ok_weaker}
use Rattle.net_signature.specs.Body.{BlockValue, BodyValue, blocks_of}
use Rattle.net_signature.proofs.body.Body.end_block.Goals as goal

pub returns-in-None : goal.returns-in-None
returns-in-None c =
    let at : Option BlockValue → BodyValue = λ o. record { version = c.self.inside.version; words = c.self.inside.words.items; feeds = c.self.inside.feeds; blocks = c.self.inside.blocks; block = o } in
    let ended : BodyValue → BodyValue = λ b. record b { blocks = blocks_of b; block = None } in
    let none : c.self.inside.block ≡ None = sym c.take.ensures.value ∙ c.in-None.is in
    ap at c.take.ensures.after ∙ ap (λ (o : Option BlockValue). ended (at o)) (sym none) ∙ ap ended c.self.view_is

pub returns-in-Some : goal.returns-in-Some
returns-in-Some c =
    let holding : List BlockValue → Option BlockValue → BodyValue = λ bs o. record { version = c.self.inside.version; words = c.self.inside.words.items; feeds = c.self.inside.feeds; blocks = bs; block = o } in
    let ended : BodyValue → BodyValue = λ b. record b { blocks = blocks_of b; block = None } in
    let some : c.self.inside.block ≡ Some c.in-Some.block = sym c.take.ensures.value ∙ c.in-Some.is in
    let more : List BlockValue = c.self.inside.blocks ++ c.in-Some.block ∷ [] in
    on_ok_weaker c.add.result
    (λ added. ap (λ (bs : List BlockValue). holding bs c.take.new.self) added ∙ ap (holding more) c.take.ensures.after ∙ ap (λ (o : Option BlockValue). ended (holding c.self.inside.blocks o)) (sym some) ∙ ap ended c.self.view_is) c.add.ensures

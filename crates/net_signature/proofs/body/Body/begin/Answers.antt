use Rattle.std.proofs.Common.{◌≡◌, ◌∙◌, ap, sym}
use Rattle.std.specs.List.{list_any}
use Rattle.std.specs.Str.{bytes_eq}
use Rattle.net_signature.specs.Body.{BlockValue, BodyValue}
use Rattle.net_signature.proofs.BodyLemmas.{begins, begun_twice}
use Rattle.net_signature.proofs.body.Body.begin.Goals as goal

pub returns-then-has : goal.returns-then-has
returns-then-has c =
    let ended : BodyValue = record { version = c.self.inside.version; words = c.self.inside.words.items; feeds = c.self.inside.feeds; blocks = c.self.inside.blocks; block = c.self.inside.block } in
    let is : c.has.result ≡ list_any (λ (block : BlockValue). bytes_eq block.model c.args.model) ended.blocks = c.has.ensures ∙ ap (λ n. list_any (λ (block : BlockValue). bytes_eq block.model n) ended.blocks) c.as_str.ensures in
    begun_twice c.args.self.now ended c.args.line c.args.model (c.self.view_is ∙ c.in_ok-end_block.ensures) (sym c.if-has.true ∙ is)

pub returns : goal.returns
returns c =
    let ended : BodyValue = record { version = c.self.inside.version; words = c.self.inside.words.items; feeds = c.self.inside.feeds; blocks = c.self.inside.blocks; block = c.self.inside.block } in
    let is : c.has.result ≡ list_any (λ (block : BlockValue). bytes_eq block.model c.args.model) ended.blocks = c.has.ensures ∙ ap (λ n. list_any (λ (block : BlockValue). bytes_eq block.model n) ended.blocks) c.as_str.ensures in
    begins c.args.self.now ended c.args.line c.args.model (c.self.view_is ∙ c.in_ok-end_block.ensures) c.new.result c.new.ensures (sym c.if-has.false ∙ is)

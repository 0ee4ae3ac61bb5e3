use Rattle.std.proofs.Common.{subst, List, Result}
use Rattle.outcome.specs.Outcome.{Returns}
use Rattle.net_words.specs.declared.feed.FeedText.{FeedText}
use Rattle.net_words.specs.declared.feed.Source.{Source}
use Rattle.net_signature.specs.Body.{BodyValue, fed_with, source_of, with_feed}
use Rattle.net_signature.specs.Reading.{Fits}
use Rattle.net_signature.specs.declared.fault.SigFault.{SigFault}
use Rattle.net_signature.proofs.FewLemmas.{few_long}
use Rattle.net_signature.proofs.ReaderLemmas.{fits_with}
use Rattle.net_signature.proofs.body.Body.add_feed.Goals as goal

pub source_of-requires : goal.source_of-requires
source_of-requires c = rw c.deref.ensures.value (few_long c.self.inside.words.items c.self.invariant)

pub returns-in-Ok : goal.returns-in-Ok
returns-in-Ok c =
    let inside : BodyValue = record { version = c.self.inside.version; words = c.self.inside.words.items; feeds = c.self.inside.feeds; blocks = c.self.inside.blocks; block = c.self.inside.block } in
    let text : FeedText = record { line = c.args.line; net = c.args.feed.net; cycle = c.args.feed.cycle; source = c.in-Ok.source } in
    let view : Unit {0} → List FeedText = λ u. c.add.new.self in
    let after : BodyValue → Unit {0} → BodyValue = λ b u. record b { feeds = view u } in
    let Q : Result Source SigFault → Type 0 = λ from. Fits (after inside) c.add.result (Returns (fed_with inside c.args.line c.args.feed from)) in
    let P : BodyValue → Type 0 = λ b. Fits (after inside) c.add.result (Returns (fed_with b c.args.line c.args.feed (source_of b.words c.args.line c.args.feed.source))) in
    subst P c.self.view_is (subst Q (rw c.deref.ensures.value at c.in-Ok.ensures.fits) (fits_with (λ (feeds : List FeedText). record inside { feeds = feeds }) view c.add.result (with_feed inside.feeds text) c.add.ensures))

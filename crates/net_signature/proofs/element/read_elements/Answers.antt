use Rattle.std.proofs.Common.{refl, []}
use Rattle.net_signature.specs.Statement.{SaysElement}
use Rattle.net_words.proofs.ZipLemmas.{zip-at, zip-grow}
use Rattle.net_signature.proofs.element.read_elements.Goals as goal

pub returns-in_default : goal.returns-in_default
returns-in_default c = (refl, λ list zip. let at = zip-at SaysElement (λ t. t.now) c.args.tokens.now list c.loop-token.token-index _ zip c.loop-token-test.true in c.in_default.ensures.none at.0 at.1)

pub loop-token-preserved : goal.loop-token-preserved
loop-token-preserved c =
    zip-grow SaysElement (λ t. t.now) c.args.tokens.now c.loop-token.token-index (record { ref_ptr = (0, 0); now = [] }) c.loop-token.elements.items c.push.new.self.items c.in-Some.element c.loop-token-test.true c.loop-token.invariant c.in-Some.ensures.found c.in_ok-push.ensures.items

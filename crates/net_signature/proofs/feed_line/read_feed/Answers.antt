use Rattle.std.proofs.Common.{◌≡◌, [], ◌∷◌, Bor, List, ℕ, length, arith, codes}
use Rattle.net_signature.specs.Statement.{SaysFeed}
use Rattle.net_signature.proofs.ReaderLemmas.{three_only}
use Rattle.net_signature.proofs.feed_line.read_feed.Goals as goal

pub returns-in-len3 : goal.returns-in-len3
returns-in-len3 c =
    let f : Bor (List ℕ) → List ℕ = λ t. t.now in
    let long : length c.args.tokens.now ≡ 3 = omega (arith, c.in-len3.len_at_least, c.in-len3.len_below) in
    three_only (λ feed. feed) (λ tokens. SaysFeed (codes "feed" ∷ tokens)) f c.args.tokens.now (record { ref_ptr = (0, 0); now = [] }) c.args.line c.feed_of.result long c.feed_of.ensures

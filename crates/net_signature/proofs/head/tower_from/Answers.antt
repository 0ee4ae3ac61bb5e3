use Rattle.std.proofs.Common.{map, Bor, List, ℕ, arith}
use Rattle.lists.specs.laws.ListLaws.{length_map as map-long}
use Rattle.net_signature.proofs.ReaderLemmas.{tower_fits}
use Rattle.net_signature.proofs.head.tower_from.Goals as goal

pub returns : goal.returns
returns c =
    let f : Bor (List ℕ) → List ℕ = λ t. t.now in
    tower_fits (λ v. v.items) c.args.number c.args.keyword.now (map f c.args.numbers.now) c.read_elements.result (c.is_token.ensures.0 c.if-not-is_token.false) (omega (arith, map-long f c.args.numbers.now, c.if-numbers-lt1.false)) c.read_elements.ensures

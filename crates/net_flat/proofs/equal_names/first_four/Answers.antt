use Rattle.std.proofs.Common.{Bor, List, ℕ}
use Rattle.std.specs.Array.{IsFirstChunk}
use Rattle.std.proofs.lemmas.Option.{MatchOption-at_some}
use Rattle.net_flat.proofs.equal_names.first_four.Goals as goal

pub returns : goal.returns
returns c =
    let chunk : IsFirstChunk c.args.name.now c.unwrap.result.now 4 = MatchOption-at_some _ (λ (four : Bor (List ℕ)). IsFirstChunk c.args.name.now four.now 4) c.unwrap.result c.unwrap.ensures c.first_chunk.ensures.cases in
    chunk.same

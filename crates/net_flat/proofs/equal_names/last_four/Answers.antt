use Rattle.std.proofs.Common.{◌-◌, ◌≤◌, length, drop, Bor, List, ℕ}
use Rattle.std.specs.Array.{IsWholeChunk}
use Rattle.std.proofs.lemmas.Option.{MatchOption-at_some}
use Rattle.net_flat.proofs.equal_names.last_four.Goals as goal

pub returns : goal.returns
returns c =
    let chunk : (4 ≤ length c.args.name.now) × IsWholeChunk (drop (length c.args.name.now - 4) c.args.name.now) c.unwrap.result.now 4 = MatchOption-at_some _ (λ (four : Bor (List ℕ)). (4 ≤ length c.args.name.now) × IsWholeChunk (drop (length c.args.name.now - 4) c.args.name.now) four.now 4) c.unwrap.result c.unwrap.ensures c.last_chunk.ensures.cases in
    chunk.1.same

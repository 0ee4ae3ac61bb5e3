use Rattle.std.proofs.Common.{rules, ◌≡◌, ◌+◌, arith}
use Rattle.indexmap.specs.IndexMap.{get_by_text}
use Rattle.net_flat.proofs.MarkLemmas.{none_later}
use Rattle.net_flat.proofs.known_names.KnownNames.begin.Goals as goal

pub returns-clause-numbers : goal.returns-clause-numbers
returns-clause-numbers c =
    let next : c.in-Some.walk ≡ c.args.self.now.walk + 1 = search rules in
    none_later (get_by_text c.args.self.now.marks) c.args.self.now.walk c.in-Some.walk (omega (arith, next)) c.args.self.now.before

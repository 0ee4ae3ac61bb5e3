use Rattle.net_core.proofs.LawLemmas.{known_where, only_known}
use Rattle.net_core.proofs.laws.levels_are_where_nets_have_them.Goals as goal

pub returns-clause-known : goal.returns-clause-known
returns-clause-known c = known_where

pub returns-clause-only : goal.returns-clause-only
returns-clause-only c = only_known

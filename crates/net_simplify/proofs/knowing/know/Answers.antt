use Rattle.std.proofs.Common.{ℕ, subst}
use Rattle.net_simplify.specs.private.Lists.{AreAllThemselves}
use Rattle.net_simplify.proofs.knowing.know.Goals as goal

pub know_all-requires : goal.know_all-requires
know_all-requires c = record { order = c.requires; begun = let P : ℕ → Type 0 = λ n. AreAllThemselves n c.in_ok-known.known in subst P c.nets.ensures.count c.in_ok-known.ensures }

pub returns : goal.returns
returns c = record { sound = c.nets.ensures.sound; forms = c.in_ok-know_all.ensures }

use Rattle.std.proofs.Common.{sym, subst, List, ℕ}
use Rattle.std.proofs.lemmas.Option.{IfSome_then}
use Rattle.lists.specs.Lists.{Has}
use Rattle.gf_basis.specs.BasisParts.{elements_of}
use Rattle.compose_wiring.specs.private.Plain.{IsFirstOn}
use Rattle.compose_wiring.proofs.LinkedLemmas.{on_itself}
use Rattle.compose_wiring.proofs.ListLemmas.{none_then}
use Rattle.compose_wiring.proofs.candidates.Candidates.feed_for.Goals as goal

pub returns-clause-some : goal.returns-clause-some
returns-clause-some c =
    IfSome_then c.in_ok-feed.feed c.in_ok-feed.ensures.some (λ feed first. let P : List ℕ → Type 0 = λ b. IsFirstOn c.args.self.now c.args.nets.now b feed in subst P c.basis.ensures first)

pub returns-clause-none : goal.returns-clause-none
returns-clause-none c =
    none_then c.in_ok-feed.feed c.in_ok-feed.ensures.none (λ none feed has. let P : List ℕ → Type 0 = λ b. Has c.args.self.now (record { feed = feed; nets = c.args.nets.now; basis = b }) in none (record { feed = feed; nets = c.args.nets.now; basis = elements_of c.basis.result.now }) (subst P (sym c.basis.ensures) has) (on_itself c.args.nets.now (elements_of c.basis.result.now) feed))

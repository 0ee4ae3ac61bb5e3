use Rattle.std.proofs.Common.{◌∙◌, ap, sym, List}
use Rattle.net_blif.specs.Table.{Numbers}
use Rattle.gf_basis.specs.BasisParts.{elements_of}
use Rattle.compose_wiring.specs.private.Keys.{key_of}
use Rattle.compose_wiring.specs.private.Linked.{first_from}
use Rattle.compose_wiring.specs.private.Plain.{CandidateValue}
use Rattle.compose_wiring.proofs.candidates.Candidates.find.Goals as goal

pub find-requires-clause-first : goal.find-requires-clause-first
find-requires-clause-first c =
    c.get-first.ensures
    ∙ ap (λ (f : Numbers). f c.as_str.result.now) c.self.invariant.firsts_are
    ∙ ap (first_from 0 c.self.inside.list.items) (c.as_str.ensures.value ∙ c.in_ok-key.ensures)
    ∙ ap (λ (cs : List CandidateValue). first_from 0 cs (key_of c.args.nets.now (elements_of c.args.basis.now))) (sym c.deref.ensures.value)

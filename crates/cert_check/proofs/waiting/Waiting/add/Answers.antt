use Rattle.std.proofs.Common.{subst}
use Rattle.std.proofs.lemmas.Option.{slice_get_within}
use Rattle.poly_mixed.specs.Polynomial.{Terms}
use Rattle.cert_check.specs.private.Waiting.{GrowsByTerm, HasMonomialAt}
use Rattle.cert_check.proofs.WaitingLemmas.{added_at, rise_at}
use Rattle.cert_check.proofs.waiting.Waiting.add.Goals as goal

pub add_at-requires : goal.add_at-requires
add_at-requires c =
    let P : Terms → Type 0 = λ ts. HasMonomialAt ts c.in-Some.i c.args.mono in
    let here = subst P c.as_slice.ensures.value c.in-Some.ensures in
    slice_get_within c.self.inside.list.items c.in-Some.i here.term here.got

pub invariant_of-self : goal.invariant_of-self
invariant_of-self c = rise_at c.self.inside.list.items c.add_at.new.list.items c.in-Some.i c.args.c c.add_at.ensures c.self.invariant

pub returns-in-Some : goal.returns-in-Some
returns-in-Some c =
    let P : Terms → Type 0 = λ ts. HasMonomialAt ts c.in-Some.i c.args.mono in
    let G : Terms → Type 0 = λ ts. GrowsByTerm ts c.add_at.new.list.items (c.args.mono, c.args.c) in
    subst G c.self.view_is (added_at c.self.inside.list.items c.add_at.new.list.items c.in-Some.i c.args.c c.args.mono (subst P c.as_slice.ensures.value c.in-Some.ensures) c.add_at.ensures)

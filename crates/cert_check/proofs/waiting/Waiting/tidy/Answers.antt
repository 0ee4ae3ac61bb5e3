use Rattle.std.proofs.Common.{subst}
use Rattle.poly_mixed.specs.Polynomial.{Terms}
use Rattle.cert_check.specs.private.Waiting.{HaveSameSum}
use Rattle.cert_check.proofs.WaitingLemmas.{rise_without, without_zeros}
use Rattle.cert_check.proofs.waiting.Waiting.tidy.Goals as goal

pub invariant_of-self : goal.invariant_of-self
invariant_of-self c = rise_without c.self.inside.list.items c.drop_zeros.new.list.items c.drop_zeros.ensures c.self.invariant

pub invariant_of-self-2 : goal.invariant_of-self-2
invariant_of-self-2 c = rise_without c.self.inside.list.items c.drop_zeros.new.list.items c.drop_zeros.ensures c.self.invariant

pub returns : goal.returns
returns c =
    let P : Terms → Type 0 = λ ts. HaveSameSum ts c.drop_zeros.new.list.items in
    subst P c.self.view_is (without_zeros c.self.inside.list.items c.drop_zeros.new.list.items c.drop_zeros.ensures)

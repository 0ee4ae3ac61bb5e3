use Rattle.std.proofs.Common.{ℕ, Option, sym, ◌∙◌, subst, arith}
use Rattle.text_core.specs.Scan.{IsValue}
use Rattle.poly_mixed.proofs.ScanLemmas.{none_of_large, net_at_place}
use Rattle.poly_mixed.proofs.labels.net_place.Goals as goal

pub returns-in_default : goal.returns-in_default
returns-in_default c n h =
    let P : Option ℕ → Type 0 = λ o. IsValue o n in
    let large = subst P c.in_default.is h in
    sym (none_of_large c.args.nets.now n (omega arith) c.requires.1)

pub returns-in-Some-halved : goal.returns-in-Some-halved
returns-in-Some-halved c n h =
    let P : Option ℕ → Type 0 = λ o. IsValue o n in
    let same = subst P c.in-Some.is h in
    sym (net_at_place c.args.nets.now n c.in-Some-halved.i c.requires.0 c.in-Some-halved.ensures.0 (c.in-Some-halved.ensures.1 ∙ same))

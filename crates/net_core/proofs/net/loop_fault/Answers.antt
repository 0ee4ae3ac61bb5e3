use Rattle.std.proofs.Common.{◌≡◌, ◌∙◌, ap, sym, subst, arith, List, ℕ, ◌<◌, Some}
use Rattle.std.specs.Prelude.{slice_get}
use Rattle.std.proofs.lemmas.Option.{slice_get_within, get_or_from_slice_get}
use Rattle.net_core.specs.Finish.{IsLabelOfFirst}
use Rattle.net_core.specs.Loop.{IsLoop}
use Rattle.net_core.specs.NetList.{nets}
use Rattle.net_core.proofs.LoopLemmas.{first_of_loop}
use Rattle.net_core.proofs.net.loop_fault.Goals as goal

pub index-requires : goal.index-requires
index-requires c =
    let first = first_of_loop c.args.net.now c.args.nets.items c.requires.inside c.requires.found in
    omega (arith, slice_get_within c.args.nets.items 0 first.0 first.1)

pub label-requires : goal.label-requires
label-requires c =
    let first = first_of_loop c.args.net.now c.args.nets.items c.requires.inside c.requires.found in
    let same : c.index.result.now ≡ first.0 = c.index.ensures ∙ get_or_from_slice_get c.args.nets.items 0 first.0 c.index.result.now first.1 in
    subst (λ (n : ℕ). n < nets c.args.net.now) (sym same) first.2

pub returns-in-Ok : goal.returns-in-Ok
returns-in-Ok c =
    let first = first_of_loop c.args.net.now c.args.nets.items c.requires.inside c.requires.found in
    let same : c.index.result.now ≡ first.0 = c.index.ensures ∙ get_or_from_slice_get c.args.nets.items 0 first.0 c.index.result.now first.1 in
    let at : slice_get c.args.nets.items 0 ≡ Some c.index.result.now = first.1 ∙ ap Some (sym same) in
    let P : List ℕ → Type 0 = λ loop. IsLoop c.args.net.now loop × IsLabelOfFirst c.args.net.now c.in-Ok.label loop in
    let named : P c.new-in-Ok.result = subst P (sym c.new-in-Ok.ensures) (c.requires.found, (c.index.result.now, at, c.in-Ok.ensures ∙ c.label.ensures)) in
    (c.requires.one, named.0, named.1)

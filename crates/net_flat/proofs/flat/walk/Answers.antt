use Rattle.std.proofs.Common.{◌≡◌, ◌∙◌, ap, sym, subst}
use Rattle.net_core.specs.NetList.{empty}
use Rattle.net_flat.specs.private.LocalWalk.{local_within, AreInside, IsFaultOf, State}
use Rattle.net_flat.specs.private.WholeWalk.{local_walk}
use Rattle.net_flat.specs.private.WalkerState.{state_of}
use Rattle.net_flat.specs.declared.flat_fault.FlatFault.{FlatFault}
use Rattle.net_flat.proofs.StateLemmas.{refused_same, top_inside}
use Rattle.net_flat.proofs.flat.walk.Goals as goal

pub walk-requires : goal.walk-requires
walk-requires c = let P : State → Type 0 = AreInside in subst P (sym c.new-walker.ensures) (top_inside empty 0)

pub returns-in-Ok-clause-made : goal.returns-in-Ok-clause-made
returns-in-Ok-clause-made c =
    let start = ap (λ (s : State). local_within 64 c.args.design.now s c.args.model) (sym c.new-walker.ensures) in
    (state_of c.walk.new.self, start ∙ c.in-Ok.ensures.made, sym c.into_maker.ensures)

pub returns-in-Err-clause-fault : goal.returns-in-Err-clause-fault
returns-in-Err-clause-fault c =
    let start : local_walk c.args.design.now c.args.model ≡ local_within 64 c.args.design.now (state_of c.new-walker.result) c.args.model = ap (λ (s : State). local_within 64 c.args.design.now s c.args.model) (sym c.new-walker.ensures) in
    let P : FlatFault → Type 0 = λ e. IsFaultOf (local_walk c.args.design.now c.args.model) e in
    subst P (sym c.into_fault.ensures) (refused_same _ _ c.in-Err.stop start c.in-Err.ensures.fault)

use Rattle.std.proofs.Common.{rules, ◌≡◌, ◌∙◌, ◌≤◌, ◌+◌, ◌-◌, length, drop_of_length-le, ap, sym, refl, subst, arith, List, Ok}
use Rattle.std.specs.Prelude.{IfErr, OnOk}
use Rattle.net_blif.specs.Statement.{Token}
use Rattle.net_blif.specs.declared.item.Item.{Item}
use Rattle.net_blif.specs.declared.item.Item.TheVariants as items
use Rattle.net_flat.specs.private.LocalWalk.{local_line, local_lines, local_within, IsFaultOf}
use Rattle.net_flat.specs.private.WalkerState.{state_of}
use Rattle.net_flat.proofs.EnterLemmas.{back_inside, entered_some, few_met, line_made, line_refused, lines_refused, more_lines, walk_none, walk_past}
use Rattle.net_flat.proofs.OnceLemmas.{walk_through}
use Rattle.net_flat.proofs.walker.Walker.+walk.Goals as goal
use Rattle.net_flat.proofs.walker.Walker.+walk.Goals.{walk-then-depth-eq0-via-then-depth-eq0, walk-then-depth-eq0-via-else-depth-eq0+then-model-models}

pub instance-returns-in_err-walk-clause-fault : goal.instance-returns-in_err-walk-clause-fault
instance-returns-in_err-walk-clause-fault t c = λ line.
    let went = entered_some c.args.design.now c.args.name.now c.args.name.now (state_of c.args.self.now) (state_of c.enter.new.self) c.args.number c.in-Some.inside c.args.connections.now c.in-Some.outer c.in_ok-inside.field-0 refl c.in-Some.is c.in_ok-inside.ensures.some in
    let fault : IsFaultOf (local_line (local_within c.args.depth c.args.design.now) c.args.design.now (state_of c.args.self.now) c.args.number (items.Instance line c.args.name.now c.args.connections.now)) c.in_err-walk.field-0.0 = line_refused (local_within c.args.depth c.args.design.now) c.args.design.now (state_of c.args.self.now) (state_of c.enter.new.self) c.args.number line c.in-Some.inside c.args.name.now c.args.connections.now c.in-Some.outer (items.Instance line c.args.name.now c.args.connections.now) refl went.0 went.1 c.in_err-walk.field-0.0 c.in_err-walk.ensures.fault in
    search rules

pub instance-returns-clause-made : goal.instance-returns-clause-made
instance-returns-clause-made t c = λ line.
    let went = entered_some c.args.design.now c.args.name.now c.args.name.now (state_of c.args.self.now) (state_of c.enter.new.self) c.args.number c.in-Some.inside c.args.connections.now c.in-Some.outer c.in_ok-inside.field-0 refl c.in-Some.is c.in_ok-inside.ensures.some in
    line_made (local_within c.args.depth c.args.design.now) c.args.design.now (state_of c.args.self.now) (state_of c.enter.new.self) c.args.number line c.in-Some.inside c.args.name.now c.args.connections.now c.in-Some.outer (items.Instance line c.args.name.now c.args.connections.now) refl went.0 went.1 (state_of c.walk.new.self) c.in_ok-walk.ensures.made

pub instance-returns-clause-inside : goal.instance-returns-clause-inside
instance-returns-clause-inside t c =
    let went = entered_some c.args.design.now c.args.name.now c.args.name.now (state_of c.args.self.now) (state_of c.enter.new.self) c.args.number c.in-Some.inside c.args.connections.now c.in-Some.outer c.in_ok-inside.field-0 refl c.in-Some.is c.in_ok-inside.ensures.some in
    back_inside c.args.depth c.args.design.now c.in-Some.inside c.args.number c.args.connections.now c.in-Some.outer (state_of c.args.self.now) (state_of c.enter.new.self) (state_of c.walk.new.self) went.1 c.in_ok-walk.ensures.made

pub line-returns-clause-made : goal.line-returns-clause-made
line-returns-clause-made t c =
    let P : Item → Type 0 = λ i. OnOk c.instance.result (local_line (local_within c.args.depth c.args.design.now) c.args.design.now (state_of c.args.self.now) c.args.number i ≡ Ok (state_of c.instance.new.self)) in
    let is = c.in-Instance.is ∙ ap (λ (name : Token). items.Instance c.in-Instance.line name c.in-Instance.connections) (sym c.bytes.ensures) in
    subst P (sym is) (c.instance.ensures.made c.in-Instance.line)

pub line-returns-clause-fault : goal.line-returns-clause-fault
line-returns-clause-fault t c =
    let P : Item → Type 0 = λ i. IfErr c.instance.result (IsFaultOf (local_line (local_within c.args.depth c.args.design.now) c.args.design.now (state_of c.args.self.now) c.args.number i)) in
    let is = c.in-Instance.is ∙ ap (λ (name : Token). items.Instance c.in-Instance.line name c.in-Instance.connections) (sym c.bytes.ensures) in
    subst P (sym is) (c.instance.ensures.fault c.in-Instance.line)

pub walk-returns-then-depth-eq0-clause-made : goal.walk-returns-then-depth-eq0-clause-made
walk-returns-then-depth-eq0-clause-made t c =
    elim c.then-depth-eq0.branch [
      | walk-then-depth-eq0-via-then-depth-eq0 w ↦ walk_none c.args.depth c.args.design.now (state_of c.args.self.now) c.args.model w.if-depth-eq0.true
      | walk-then-depth-eq0-via-else-depth-eq0+then-model-models w ↦ walk_past c.args.depth c.args.design.now (state_of c.args.self.now) c.args.model (rw w.models.ensures.count at w.if-model-models.true)
    ]

pub walk-returns-in_err-line-clause-fault : goal.walk-returns-in_err-line-clause-fault
walk-returns-in_err-line-clause-fault t c =
    let start = walk_through c.args.depth c.args.design.now (state_of c.args.self.now) c.args.model c.lines_of-lines.result.now c.if-depth-eq0.false c.lines_of-lines.ensures in
    let fault : IsFaultOf (local_within c.args.depth c.args.design.now (state_of c.args.self.now) c.args.model) c.in_err-line.field-0.0 = lines_refused (local_within (c.args.depth - 1) c.args.design.now) c.args.design.now c.lines_of-lines.result.now c.loop-place.place c.get-item.result c.get-item.ensures.item (state_of c.loop-place.self) (c.loop-place.met + 1) _ (start ∙ c.loop-place.invariant.walk) c.in_err-line.field-0.0 c.in_err-line.ensures.fault in
    search rules

pub walk-met_with-met-requires : goal.walk-met_with-met-requires
walk-met_with-met-requires t c = omega (arith, c.loop-place.invariant.few, c.loop-place-test.true, c.len-place-end.type_inv)

pub walk-loop-place-preserved : goal.walk-loop-place-preserved
walk-loop-place-preserved t c =
    record {
      inside = c.in_ok-line.ensures.inside;
      few = few_met c.loop-place.met c.met_with-met.result c.loop-place.place c.get-item.result c.loop-place.invariant.few c.met_with-met.ensures;
      walk = more_lines (local_within (c.args.depth - 1) c.args.design.now) c.args.design.now c.lines_of-lines.result.now c.loop-place.place c.get-item.result c.get-item.ensures.item (state_of c.loop-place.self) (c.loop-place.met + 1) _ c.loop-place.invariant.walk (state_of c.line.new.self) (c.met_with-met.result + 1) c.met_with-met.ensures c.in_ok-line.ensures.made;
    }

pub walk-returns-clause-made : goal.walk-returns-clause-made
walk-returns-clause-made t c =
    let past : length c.lines_of-lines.result.now ≤ c.loop-place.place = rw c.len-place-end.ensures at c.loop-place-test.false in
    let start = walk_through c.args.depth c.args.design.now (state_of c.args.self.now) c.args.model c.lines_of-lines.result.now c.if-depth-eq0.false c.lines_of-lines.ensures in
    start ∙ (c.loop-place.invariant.walk ∙ ap (λ (ls : List Item). local_lines (local_within (c.args.depth - 1) c.args.design.now) c.args.design.now (state_of c.loop-place.self) (c.loop-place.met + 1) ls) (drop_of_length-le c.lines_of-lines.result.now past))

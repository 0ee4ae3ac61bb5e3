use Rattle.std.proofs.Common.{refl, sym, subst, List, [], arith}
use Rattle.std.specs.Prelude.{filter}
use Rattle.outcome.specs.ForEach.{ForEach}
use Rattle.net_blif.specs.Top.{is_instance}
use Rattle.net_blif.specs.declared.item.Item.{Item}
use Rattle.compose_blocks.specs.Planned.{MayFault}
use Rattle.compose_blocks.specs.Structure.{NumberOf}
use Rattle.compose_blocks.specs.declared.uses.Found.{Found}
use Rattle.compose_blocks.specs.private.Found.{AreFound}
use Rattle.compose_blocks.proofs.FoundLemmas.{all_walked, has_model, number_refused, walked_more}
use Rattle.compose_blocks.proofs.uses.found_by.Goals as goal

pub loop-place-init : goal.loop-place-init
loop-place-init c =
    let P : List Found → Type 0 = λ list. AreFound c.args.design.now c.args.blocks.now [] list in
    record { front = []; whole = refl; found = subst P (sym c.new-list.ensures.items) tt }

pub add_found-requires-clause-numbers : goal.add_found-requires-clause-numbers
add_found-requires-clause-numbers c = c.requires

pub add_found-requires-clause-model : goal.add_found-requires-clause-model
add_found-requires-clause-model c = λ is. has_model c.args.design.now c.args.blocks.now c.top_items-items.result.now c.loop-place.place c.loop-place.list.items c.get-item.result c.top_items-items.ensures.items c.top_items-items.ensures.right c.loop-place.invariant c.get-item.ensures.item is

pub returns-in-Err-clause-fault : goal.returns-in-Err-clause-fault
returns-in-Err-clause-fault c =
    let P : List Item → Type 0 = λ items. MayFault (ForEach (NumberOf c.args.blocks.now) (filter is_instance items)) c.in-Err.fault in
    let refused = c.in-Err.ensures.fault in
    subst P c.top_items-items.ensures.items (number_refused c.args.design.now c.args.blocks.now c.top_items-items.result.now c.loop-place.place c.loop-place.list.items c.loop-place.invariant c.get-item.result c.get-item.ensures.item refused.0 c.in-Err.fault refused.1)

pub loop-place-preserved : goal.loop-place-preserved
loop-place-preserved c = walked_more c.args.design.now c.args.blocks.now c.top_items-items.result.now c.loop-place.place c.loop-place.list.items c.loop-place.invariant c.get-item.result c.get-item.ensures.item c.add_found.new.list.items c.in-Ok.ensures.added

pub returns-clause-found : goal.returns-clause-found
returns-clause-found c =
    let P : List Item → Type 0 = λ items. AreFound c.args.design.now c.args.blocks.now (filter is_instance items) c.loop-place.list.items in
    subst P c.top_items-items.ensures.items (all_walked c.args.design.now c.args.blocks.now c.top_items-items.result.now c.loop-place.place c.loop-place.list.items c.loop-place.invariant (omega (arith, c.loop-place-test.false, c.len-place-end.ensures)))

pub returns-clause-right : goal.returns-clause-right
returns-clause-right c = c.top_items-items.ensures.right

pub returns-clause-few : goal.returns-clause-few
returns-clause-few c = c.top_items-items.ensures.few

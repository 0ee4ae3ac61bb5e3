use Rattle.std.proofs.Common.{◌∙◌, ap, ◌++◌, ◌∷◌, [], List}
use Rattle.net_blif.specs.declared.item.Item.{Item}
use Rattle.net_blif.specs.declared.item.Item.TheVariants as items
use Rattle.net_blif.specs.declared.item_list.Place.TheVariants as places
use Rattle.net_blif.proofs.PlaceLemmas.{gate_grown, gate_inside, gate_new, items_pushed, sound_kept, sound_pushed, sound_same}
use Rattle.net_blif.proofs.item_list.ItemList.push_gate.Goals as goal

pub invariant_of-self : goal.invariant_of-self
invariant_of-self c = sound_kept c.self.inside.tokens c.append_nets.ensures.grows.0 c.append_nets.new.tokens c.self.inside.places.items c.self.invariant c.append_nets.ensures.grows.1

pub invariant_of-self-in_err-push : goal.invariant_of-self-in_err-push
invariant_of-self-in_err-push c = sound_kept c.self.inside.tokens c.append_nets.ensures.grows.0 c.push.new.self c.self.inside.places.items c.self.invariant (c.in_err-push.ensures.unchanged ∙ c.append_nets.ensures.grows.1)

pub invariant_of-self-in_err-push_one : goal.invariant_of-self-in_err-push_one
invariant_of-self-in_err-push_one c = sound_same c.self.inside.tokens (c.args.inputs.now ++ c.args.out.now ∷ []) c.push.new.self c.self.inside.places.items c.push_one.new.list.items c.self.invariant (gate_grown c.self.inside.tokens c.args.inputs.now c.append_nets.new.tokens c.push.new.self c.args.out.now c.args.line c.in_ok-first.first c.in_ok-first.end c.args.table c.in_ok-first.ensures.made.0 c.in_ok-push.ensures.made c.in_ok-first.ensures.made.1 c.in_ok-first.ensures.made.2) c.in_err-push_one.ensures.unchanged

pub invariant_of-self-2 : goal.invariant_of-self-2
invariant_of-self-2 c = sound_pushed c.self.inside.tokens (c.args.inputs.now ++ c.args.out.now ∷ []) c.push.new.self c.self.inside.places.items c.push_one.new.list.items (places.Gate c.args.line c.in_ok-first.first c.in_ok-first.end c.args.table) (items.Gate c.args.line c.args.inputs.now c.args.out.now c.args.table) c.self.invariant (gate_grown c.self.inside.tokens c.args.inputs.now c.append_nets.new.tokens c.push.new.self c.args.out.now c.args.line c.in_ok-first.first c.in_ok-first.end c.args.table c.in_ok-first.ensures.made.0 c.in_ok-push.ensures.made c.in_ok-first.ensures.made.1 c.in_ok-first.ensures.made.2) c.in_ok-push_one.ensures.made (gate_new c.self.inside.tokens c.args.inputs.now c.append_nets.new.tokens c.push.new.self c.args.out.now c.args.line c.in_ok-first.first c.in_ok-first.end c.args.table c.in_ok-first.ensures.made.0 c.in_ok-push.ensures.made c.in_ok-first.ensures.made.1 c.in_ok-first.ensures.made.2) (gate_inside c.self.inside.tokens c.args.inputs.now c.append_nets.new.tokens c.push.new.self c.args.out.now c.args.line c.in_ok-first.first c.in_ok-first.end c.args.table c.in_ok-first.ensures.made.0 c.in_ok-push.ensures.made c.in_ok-first.ensures.made.1 c.in_ok-first.ensures.made.2) (c.requires.inputs, c.requires.out, c.requires.few, c.requires.table)

pub returns : goal.returns
returns c = items_pushed c.self.inside.tokens (c.args.inputs.now ++ c.args.out.now ∷ []) c.push.new.self c.self.inside.places.items c.push_one.new.list.items (places.Gate c.args.line c.in_ok-first.first c.in_ok-first.end c.args.table) (items.Gate c.args.line c.args.inputs.now c.args.out.now c.args.table) c.self.invariant (gate_grown c.self.inside.tokens c.args.inputs.now c.append_nets.new.tokens c.push.new.self c.args.out.now c.args.line c.in_ok-first.first c.in_ok-first.end c.args.table c.in_ok-first.ensures.made.0 c.in_ok-push.ensures.made c.in_ok-first.ensures.made.1 c.in_ok-first.ensures.made.2) c.in_ok-push_one.ensures.made (gate_new c.self.inside.tokens c.args.inputs.now c.append_nets.new.tokens c.push.new.self c.args.out.now c.args.line c.in_ok-first.first c.in_ok-first.end c.args.table c.in_ok-first.ensures.made.0 c.in_ok-push.ensures.made c.in_ok-first.ensures.made.1 c.in_ok-first.ensures.made.2) ∙ ap (λ (list : List Item). list ++ items.Gate c.args.line c.args.inputs.now c.args.out.now c.args.table ∷ []) c.self.view_is

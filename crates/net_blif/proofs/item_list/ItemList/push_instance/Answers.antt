use Rattle.std.proofs.Common.{◌∙◌, ap, ◌++◌, ◌∷◌, [], List}
use Rattle.net_blif.specs.declared.item.Item.{Item}
use Rattle.net_blif.specs.declared.item.Item.TheVariants as items
use Rattle.net_blif.specs.declared.item_list.Place.TheVariants as places
use Rattle.net_blif.proofs.PlaceLemmas.{gate_grown, gate_inside, instance_new, items_pushed, sound_kept, sound_pushed, sound_same}
use Rattle.net_blif.proofs.item_list.ItemList.push_instance.Goals as goal

pub invariant_of-self : goal.invariant_of-self
invariant_of-self c = sound_kept c.self.inside.tokens c.append_nets.ensures.grows.0 c.append_nets.new.tokens c.self.inside.places.items c.self.invariant c.append_nets.ensures.grows.1

pub invariant_of-self-in_err-push : goal.invariant_of-self-in_err-push
invariant_of-self-in_err-push c = sound_kept c.self.inside.tokens c.append_nets.ensures.grows.0 c.push.new.self c.self.inside.places.items c.self.invariant (c.in_err-push.ensures.unchanged ∙ c.append_nets.ensures.grows.1)

pub invariant_of-self-in_err-push-2 : goal.invariant_of-self-in_err-push-2
invariant_of-self-in_err-push-2 c = sound_same c.self.inside.tokens (c.args.connections.now ++ c.args.model.now ∷ []) c.push.new.self c.self.inside.places.items c.push-2.new.self.items c.self.invariant (gate_grown c.self.inside.tokens c.args.connections.now c.append_nets.new.tokens c.push.new.self c.args.model.now c.args.line c.in_ok-first.first c.in_ok-first.end 0 c.in_ok-first.ensures.made.0 c.in_ok-push.ensures.made c.in_ok-first.ensures.made.1 c.in_ok-first.ensures.made.2) c.in_err-push-2.ensures.items

pub invariant_of-self-2 : goal.invariant_of-self-2
invariant_of-self-2 c = sound_pushed c.self.inside.tokens (c.args.connections.now ++ c.args.model.now ∷ []) c.push.new.self c.self.inside.places.items c.push-2.new.self.items (places.Instance c.args.line c.in_ok-first.first c.in_ok-first.end) (items.Instance c.args.line c.args.model.now c.args.connections.now) c.self.invariant (gate_grown c.self.inside.tokens c.args.connections.now c.append_nets.new.tokens c.push.new.self c.args.model.now c.args.line c.in_ok-first.first c.in_ok-first.end 0 c.in_ok-first.ensures.made.0 c.in_ok-push.ensures.made c.in_ok-first.ensures.made.1 c.in_ok-first.ensures.made.2) c.in_ok-push-2.ensures.items (instance_new c.self.inside.tokens c.args.connections.now c.append_nets.new.tokens c.push.new.self c.args.model.now c.args.line c.in_ok-first.first c.in_ok-first.end 0 c.in_ok-first.ensures.made.0 c.in_ok-push.ensures.made c.in_ok-first.ensures.made.1 c.in_ok-first.ensures.made.2) (gate_inside c.self.inside.tokens c.args.connections.now c.append_nets.new.tokens c.push.new.self c.args.model.now c.args.line c.in_ok-first.first c.in_ok-first.end 0 c.in_ok-first.ensures.made.0 c.in_ok-push.ensures.made c.in_ok-first.ensures.made.1 c.in_ok-first.ensures.made.2) (c.requires.model, c.requires.tokens, c.requires.connections)

pub returns : goal.returns
returns c = items_pushed c.self.inside.tokens (c.args.connections.now ++ c.args.model.now ∷ []) c.push.new.self c.self.inside.places.items c.push-2.new.self.items (places.Instance c.args.line c.in_ok-first.first c.in_ok-first.end) (items.Instance c.args.line c.args.model.now c.args.connections.now) c.self.invariant (gate_grown c.self.inside.tokens c.args.connections.now c.append_nets.new.tokens c.push.new.self c.args.model.now c.args.line c.in_ok-first.first c.in_ok-first.end 0 c.in_ok-first.ensures.made.0 c.in_ok-push.ensures.made c.in_ok-first.ensures.made.1 c.in_ok-first.ensures.made.2) c.in_ok-push-2.ensures.items (instance_new c.self.inside.tokens c.args.connections.now c.append_nets.new.tokens c.push.new.self c.args.model.now c.args.line c.in_ok-first.first c.in_ok-first.end 0 c.in_ok-first.ensures.made.0 c.in_ok-push.ensures.made c.in_ok-first.ensures.made.1 c.in_ok-first.ensures.made.2) ∙ ap (λ (list : List Item). list ++ items.Instance c.args.line c.args.model.now c.args.connections.now ∷ []) c.self.view_is

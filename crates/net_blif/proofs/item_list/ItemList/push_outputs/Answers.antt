use Rattle.std.proofs.Common.{◌≡◌, ◌∙◌, ap, ◌≤◌, ◌++◌, ◌∷◌, [], List, length, arith}
use Rattle.std.proofs.lemmas.List.{length-append}
use Rattle.net_blif.specs.declared.item.Item.{Item}
use Rattle.net_blif.specs.declared.item.Item.TheVariants as items
use Rattle.net_blif.specs.declared.item_list.Place.TheVariants as places
use Rattle.net_blif.proofs.PlaceLemmas.{items_pushed, nets_new, sound_kept, sound_pushed, sound_same}
use Rattle.net_blif.proofs.item_list.ItemList.push_outputs.Goals as goal

pub invariant_of-self : goal.invariant_of-self
invariant_of-self c = sound_kept c.self.inside.tokens c.append_nets.ensures.grows.0 c.append_nets.new.tokens c.self.inside.places.items c.self.invariant c.append_nets.ensures.grows.1

pub invariant_of-self-in_err-push : goal.invariant_of-self-in_err-push
invariant_of-self-in_err-push c = sound_same c.self.inside.tokens c.append_nets.ensures.grows.0 c.append_nets.new.tokens c.self.inside.places.items c.push.new.self.items c.self.invariant c.append_nets.ensures.grows.1 c.in_err-push.ensures.items

pub invariant_of-self-2 : goal.invariant_of-self-2
invariant_of-self-2 c =
    let made = c.in_ok-first.ensures.made.0 in
    let from : c.in_ok-first.first ≡ length c.self.inside.tokens = c.in_ok-first.ensures.made.1 in
    let to : c.in_ok-first.end ≡ length c.append_nets.new.tokens = c.in_ok-first.ensures.made.2 in
    let same = ap items.Outputs (nets_new c.self.inside.tokens c.args.nets.now c.append_nets.new.tokens c.in_ok-first.first c.in_ok-first.end made from to) in
    let order : c.in_ok-first.first ≤ c.in_ok-first.end = omega (arith, from, to, ap length made, length-append c.self.inside.tokens c.args.nets.now) in
    sound_pushed c.self.inside.tokens c.args.nets.now c.append_nets.new.tokens c.self.inside.places.items c.push.new.self.items (places.Outputs c.in_ok-first.first c.in_ok-first.end) (items.Outputs c.args.nets.now) c.self.invariant made c.in_ok-push.ensures.items same (order, omega (arith, to)) c.requires

pub returns : goal.returns
returns c =
    let made = c.in_ok-first.ensures.made.0 in
    let from : c.in_ok-first.first ≡ length c.self.inside.tokens = c.in_ok-first.ensures.made.1 in
    let to : c.in_ok-first.end ≡ length c.append_nets.new.tokens = c.in_ok-first.ensures.made.2 in
    let same = ap items.Outputs (nets_new c.self.inside.tokens c.args.nets.now c.append_nets.new.tokens c.in_ok-first.first c.in_ok-first.end made from to) in
    items_pushed c.self.inside.tokens c.args.nets.now c.append_nets.new.tokens c.self.inside.places.items c.push.new.self.items (places.Outputs c.in_ok-first.first c.in_ok-first.end) (items.Outputs c.args.nets.now) c.self.invariant made c.in_ok-push.ensures.items same ∙ ap (λ (list : List Item). list ++ items.Outputs c.args.nets.now ∷ []) c.self.view_is

use Rattle.std.proofs.Common.{◌≡◌, ◌∙◌, ap, ◌++◌, ◌∷◌, [], List, length}
use Rattle.net_blif.specs.declared.item.Item.{Item}
use Rattle.net_blif.specs.declared.item.Item.TheVariants as items
use Rattle.net_blif.specs.declared.item_list.Place.TheVariants as places
use Rattle.net_blif.proofs.PlaceLemmas.{items_pushed, latch_grown, latch_inside, latch_new, sound_kept, sound_pushed, sound_same}
use Rattle.net_blif.proofs.item_list.ItemList.push_latch.Goals as goal

pub invariant_of-self-in_err-push-2 : goal.invariant_of-self-in_err-push-2
invariant_of-self-in_err-push-2 c = sound_kept c.self.inside.tokens (c.args.next.now ∷ []) c.push-2.new.self c.self.inside.places.items c.self.invariant (c.in_err-push-2.ensures.unchanged ∙ c.in_ok-push.ensures.made)

pub invariant_of-self-in_err-push-3 : goal.invariant_of-self-in_err-push-3
invariant_of-self-in_err-push-3 c = sound_same c.self.inside.tokens (c.args.next.now ∷ c.args.out.now ∷ []) c.push-2.new.self c.self.inside.places.items c.push-3.new.self.items c.self.invariant (latch_grown c.self.inside.tokens c.push.new.self c.push-2.new.self c.args.next.now c.args.out.now c.args.line c.in_ok-first.first c.args.start c.in_ok-push.ensures.made c.in_ok-push-2.ensures.made (c.in_ok-first.ensures ∙ c.len.ensures)) c.in_err-push-3.ensures.items

pub invariant_of-self-2 : goal.invariant_of-self-2
invariant_of-self-2 c =
    let from : c.in_ok-first.first ≡ length c.self.inside.tokens = c.in_ok-first.ensures ∙ c.len.ensures in
    let grown = latch_grown c.self.inside.tokens c.push.new.self c.push-2.new.self c.args.next.now c.args.out.now c.args.line c.in_ok-first.first c.args.start c.in_ok-push.ensures.made c.in_ok-push-2.ensures.made from in
    let same = latch_new c.self.inside.tokens c.push.new.self c.push-2.new.self c.args.next.now c.args.out.now c.args.line c.in_ok-first.first c.args.start c.in_ok-push.ensures.made c.in_ok-push-2.ensures.made from in
    let within = latch_inside c.self.inside.tokens c.push.new.self c.push-2.new.self c.args.next.now c.args.out.now c.args.line c.in_ok-first.first c.args.start c.in_ok-push.ensures.made c.in_ok-push-2.ensures.made from in
    sound_pushed c.self.inside.tokens (c.args.next.now ∷ c.args.out.now ∷ []) c.push-2.new.self c.self.inside.places.items c.push-3.new.self.items (places.Latch c.args.line c.in_ok-first.first c.args.start) (items.Latch c.args.line c.args.next.now c.args.out.now c.args.start) c.self.invariant grown c.in_ok-push-3.ensures.items same within (c.requires.next, c.requires.out)

pub returns : goal.returns
returns c =
    let from : c.in_ok-first.first ≡ length c.self.inside.tokens = c.in_ok-first.ensures ∙ c.len.ensures in
    let grown = latch_grown c.self.inside.tokens c.push.new.self c.push-2.new.self c.args.next.now c.args.out.now c.args.line c.in_ok-first.first c.args.start c.in_ok-push.ensures.made c.in_ok-push-2.ensures.made from in
    let same = latch_new c.self.inside.tokens c.push.new.self c.push-2.new.self c.args.next.now c.args.out.now c.args.line c.in_ok-first.first c.args.start c.in_ok-push.ensures.made c.in_ok-push-2.ensures.made from in
    items_pushed c.self.inside.tokens (c.args.next.now ∷ c.args.out.now ∷ []) c.push-2.new.self c.self.inside.places.items c.push-3.new.self.items (places.Latch c.args.line c.in_ok-first.first c.args.start) (items.Latch c.args.line c.args.next.now c.args.out.now c.args.start) c.self.invariant grown c.in_ok-push-3.ensures.items same ∙ ap (λ (list : List Item). list ++ items.Latch c.args.line c.args.next.now c.args.out.now c.args.start ∷ []) c.self.view_is

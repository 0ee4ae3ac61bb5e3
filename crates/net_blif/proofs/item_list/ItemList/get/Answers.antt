use Rattle.std.proofs.Common.{◌∙◌, ap, List, length}
use Rattle.std.specs.Prelude.{slice_get}
use Rattle.net_blif.specs.Places.{IsPlace}
use Rattle.net_blif.specs.declared.item_list.Place.{Place}
use Rattle.net_blif.proofs.PlaceLemmas.{at_found, found_item, found_sound}
use Rattle.net_blif.proofs.item_list.ItemList.get.Goals as goal

pub item_of-requires : goal.item_of-requires
item_of-requires c =
    let found = c.place_at.ensures ∙ ap (λ (xs : List Place). slice_get xs c.args.place) c.deref.ensures.value in
    at_found (IsPlace (length c.self.inside.tokens)) c.self.inside.places.items c.args.place c.place_at.result c.self.invariant.0 found

pub returns-clause-item : goal.returns-clause-item
returns-clause-item c =
    let found = c.place_at.ensures ∙ ap (λ (xs : List Place). slice_get xs c.args.place) c.deref.ensures.value in
    found_item c.self.inside.tokens c.self.inside.places.items c.args.self.now c.args.place c.place_at.result c.item_of.result c.self.view_is found c.item_of.ensures

pub returns-clause-sound : goal.returns-clause-sound
returns-clause-sound c =
    let found = c.place_at.ensures ∙ ap (λ (xs : List Place). slice_get xs c.args.place) c.deref.ensures.value in
    found_sound c.self.inside.tokens c.self.inside.places.items c.args.place c.place_at.result c.item_of.result c.self.invariant found c.item_of.ensures

use Rattle.std.proofs.Common.{◌≡◌, ◌<◌, ◌++◌, ◌∙◌, ap, sym, List, ℕ, length, map, Some, string_bytes, arith}
use Rattle.std.specs.Prelude.{slice_get}
use Rattle.std.specs.Option.{option_map}
use Rattle.std.proofs.lemmas.Option.{slice_get-get_or, slice_get-map}
use Rattle.gf_basis.specs.BasisParts.{elements_of}
use Rattle.compose_wiring.specs.private.Keys.{hex_of, spaced}
use Rattle.compose_wiring.proofs.KeyLemmas.{part_more}
use Rattle.compose_wiring.proofs.key.add_elements.Goals as goal

pub loop-place-preserved : goal.loop-place-preserved
loop-place-preserved c =
    let elements : List ℕ = elements_of c.args.basis.now in
    let less : c.loop-place.place < length elements = omega (arith, c.loop-place-test.true, c.requires) in
    let at : slice_get (map hex_of elements) c.loop-place.place ≡ Some (hex_of c.element.result) = slice_get-map hex_of elements c.loop-place.place ∙ ap (option_map hex_of) (slice_get-get_or elements c.loop-place.place 0 less ∙ ap Some (sym c.element.ensures)) in
    part_more (map hex_of elements) c.loop-place.place (hex_of c.element.result) (string_bytes c.loop-place.text) (string_bytes c.add_element.new.text) (string_bytes c.args.text.now ++ spaced (map hex_of elements)) at c.loop-place.invariant c.in_ok-add_element.ensures

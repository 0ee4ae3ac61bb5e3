use Rattle.std.proofs.Common.{◌++◌, List, ℕ, map, string_bytes, Bor}
use Rattle.compose_wiring.specs.private.Keys.{spaced}
use Rattle.compose_wiring.proofs.KeyLemmas.{part_more}
use Rattle.compose_wiring.proofs.nets.add_names.Goals as goal

pub loop-place-preserved : goal.loop-place-preserved
loop-place-preserved c =
    let f : Bor (List ℕ) → List ℕ = λ name. name.now in
    let parts : List (List ℕ) = map f c.args.names.now in
    part_more parts c.loop-place.place c.name_at.result.now (string_bytes c.loop-place.text) (string_bytes c.add_name.new.text) (string_bytes c.args.text.now ++ spaced parts) c.name_at.ensures c.loop-place.invariant c.in_ok-add_name.ensures

use Rattle.std.proofs.Common.{◌≡◌, ◌∙◌, sym, List, ℕ, true, false, map, arith, Bor}
use Rattle.std.specs.Str.{bytes_eq}
use Rattle.lists.specs.laws.BoolLaws.{not_true as was_false, not_false}
use Rattle.lists.specs.laws.ListLaws.{length_map as mapped_long}
use Rattle.compose_wiring.specs.private.Names.{same_names}
use Rattle.compose_wiring.proofs.StepLemmas.{long_other, same_here, same_not}
use Rattle.compose_wiring.proofs.nets.are_same.Goals as goal

pub returns-then-a-b : goal.returns-then-a-b
returns-then-a-b c =
    let f : Bor (List ℕ) → List ℕ = λ name. name.now in
    sym (long_other (map f c.args.a.now) (map f c.args.b.now) (λ same. omega (arith, same, mapped_long f c.args.a.now, mapped_long f c.args.b.now, c.if-a-b.true)))

pub returns-then-ne : goal.returns-then-ne
returns-then-ne c =
    let f : Bor (List ℕ) → List ℕ = λ name. name.now in
    let xs : List (List ℕ) = map f c.args.a.now in
    let ys : List (List ℕ) = map f c.args.b.now in
    let other : bytes_eq c.name_at.result.now c.name_at-in-loop-place.result.now ≡ false = was_false (bytes_eq c.name_at.result.now c.name_at-in-loop-place.result.now) (sym c.ne.ensures ∙ c.if-ne.true) in
    sym (same_not xs ys c.loop-place.place c.name_at.result.now c.name_at-in-loop-place.result.now (same_names xs ys) c.name_at.ensures c.name_at-in-loop-place.ensures c.loop-place.invariant other)

pub loop-place-preserved : goal.loop-place-preserved
loop-place-preserved c =
    let f : Bor (List ℕ) → List ℕ = λ name. name.now in
    let xs : List (List ℕ) = map f c.args.a.now in
    let ys : List (List ℕ) = map f c.args.b.now in
    let same : bytes_eq c.name_at.result.now c.name_at-in-loop-place.result.now ≡ true = not_false (bytes_eq c.name_at.result.now c.name_at-in-loop-place.result.now) (sym c.ne.ensures ∙ c.if-ne.false) in
    same_here xs ys c.loop-place.place c.name_at.result.now c.name_at-in-loop-place.result.now (same_names xs ys) c.name_at.ensures c.name_at-in-loop-place.ensures c.loop-place.invariant same

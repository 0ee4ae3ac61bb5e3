use Rattle.std.proofs.Common.{◌∙◌, ◌++◌, ◌∷◌, [], ◌+◌, List, ℕ, true, arith, ap, sym, subst, append-nil, take, drop}
use Rattle.make_nets.specs.MakerNames.{AreMade}
use Rattle.make_nets.proofs.FrontLemmas.{front_long, front_more, joined, split_at, take_past}
use Rattle.make_nets.proofs.OuterLemmas.{made_with, refuse_all}
use Rattle.make_nets.proofs.outer.add_names.Goals as goal

pub loop-name-init : goal.loop-name-init
loop-name-init c =
    let P : List (List ℕ) → Type 0 = λ ns. AreMade ns c.args.maker.now true in
    (λ names was. subst P (sym (append-nil names)) was, omega arith)

pub add_name-requires : goal.add_name-requires
add_name-requires c = record {
  before = (c.requires.before.0 ++ take c.loop-name.name-index c.args.list.now, c.loop-name.invariant.0 c.requires.before.0 c.requires.before.1, front_long c.requires.before.0 c.args.list.now c.loop-name.name-index c.loop-name.count c.args.count c.loop-name-test.true c.requires.before.2 c.loop-name.invariant.1);
  room = omega (arith, c.loop-name.invariant.1, c.loop-name-test.true, c.requires.room);
}

pub loop-name-preserved : goal.loop-name-preserved
loop-name-preserved c =
    let P : List (List ℕ) → Type 0 = λ ns. AreMade ns c.add_name.new.maker true in (
      λ names was. subst P (front_more names c.args.list.now c.loop-name.name-index c.name-item.result c.as_str.result.now c.loop-name-test.true c.name-item.is c.as_str.ensures)
          (made_with ((names ++ take c.loop-name.name-index c.args.list.now) ++ c.as_str.result.now ∷ []) c.add_name.new.maker c.in_ok-add_name.field-0 (c.in_ok-add_name.ensures (names ++ take c.loop-name.name-index c.args.list.now) (c.loop-name.invariant.0 names was)) c.if-not-branch.false),
      omega (arith, c.loop-name.invariant.1),
    )

pub returns : goal.returns
returns c = λ names was.
    let P : List (List ℕ) → Type 0 = λ ns. AreMade (names ++ ns) c.loop-name.maker true in
    subst P (take_past c.args.list.now c.loop-name.name-index (omega (arith, c.loop-name-test.false))) (c.loop-name.invariant.0 names was)

pub returns-then-not-branch : goal.returns-then-not-branch
returns-then-not-branch c = λ names was. refuse_all
    ((names ++ take c.loop-name.name-index c.args.list.now) ++ c.as_str.result.now ∷ []) (drop (c.loop-name.name-index + 1) c.args.list.now) (names ++ c.args.list.now)
    c.add_name.new.maker c.in_ok-add_name.field-0
    (c.in_ok-add_name.ensures (names ++ take c.loop-name.name-index c.args.list.now) (c.loop-name.invariant.0 names was)) c.if-not-branch.true
    (joined names (take c.loop-name.name-index c.args.list.now) (drop (c.loop-name.name-index + 1) c.args.list.now) c.args.list.now c.name-item.result (split_at c.args.list.now c.loop-name.name-index c.name-item.result c.loop-name-test.true c.name-item.is)
    ∙ ap (λ (name : List ℕ). ((names ++ take c.loop-name.name-index c.args.list.now) ++ name ∷ []) ++ drop (c.loop-name.name-index + 1) c.args.list.now) (sym c.as_str.ensures))

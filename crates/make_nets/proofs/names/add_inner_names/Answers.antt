use Rattle.std.proofs.Common.{◌≡◌, ◌+◌, true, ℕ, List, arith, ap, sym, ◌∙◌, subst, suc}
use Rattle.net_core.specs.Inside.{IsNetName}
use Rattle.net_core.specs.NetList.{NetList, nets, number_of, with_label}
use Rattle.make_nets.specs.MadeNet.{names_in, with_inner, inner_name}
use Rattle.make_nets.proofs.InnerLemmas.{inner_is_name, inner_nets, inner_more, inner_fresh}
use Rattle.make_nets.proofs.names.add_inner_names.Goals as goal

-- src/names.rt:40:9
pub add_name-requires-clause-name : goal.add_name-requires-clause-name
add_name-requires-clause-name c =
    let text : c.as_str.result.now ≡ inner_name c.args.prefix.now c.loop-i.i-counter = c.as_str.ensures.value ∙ c.in_ok-name.ensures.ok in
    let P : List ℕ → Type 0 = λ t. IsNetName t in
    subst P (sym text) (inner_is_name (names_in c.args.maker.now) c.args.prefix.now c.loop-i.i-counter c.requires.prefix (omega (arith, c.requires.room, c.loop-i-test.true)))

-- src/names.rt:40:9
pub add_name-requires-clause-is_new : goal.add_name-requires-clause-is_new
add_name-requires-clause-is_new c =
    let text : c.as_str.result.now ≡ inner_name c.args.prefix.now c.loop-i.i-counter = c.as_str.ensures.value ∙ c.in_ok-name.ensures.ok in
    ap (λ (m : NetList). number_of m c.as_str.result.now) c.loop-i.invariant
    ∙ (ap (λ (t : List ℕ). number_of (with_inner c.args.maker.now c.args.prefix.now c.loop-i.i-counter) t) text
    ∙ inner_fresh c.args.maker.now c.args.prefix.now c.loop-i.i-counter c.requires.outer c.requires.names c.requires.prefix (omega (arith, c.requires.room, c.loop-i-test.true)))

-- src/names.rt:40:9
pub add_name-requires-clause-room : goal.add_name-requires-clause-room
add_name-requires-clause-room c = omega (arith, ap nets c.loop-i.invariant, inner_nets c.args.maker.now c.args.prefix.now c.loop-i.i-counter, c.requires.room, c.loop-i-test.true)

-- src/names.rt:38:5
pub loop-i-preserved : goal.loop-i-preserved
loop-i-preserved c =
    let text : c.as_str.result.now ≡ inner_name c.args.prefix.now c.loop-i.i-counter = c.as_str.ensures.value ∙ c.in_ok-name.ensures.ok in
    let next : suc c.loop-i.i-counter ≡ c.loop-i.i-counter + 1 = omega arith in
    c.in_ok-add_name.ensures
    ∙ (ap (λ (m : NetList). with_label m c.as_str.result.now true) c.loop-i.invariant
    ∙ (ap (λ (t : List ℕ). with_label (with_inner c.args.maker.now c.args.prefix.now c.loop-i.i-counter) t true) text
    ∙ (inner_more c.args.maker.now c.args.prefix.now c.loop-i.i-counter
    ∙ ap (with_inner c.args.maker.now c.args.prefix.now) next)))

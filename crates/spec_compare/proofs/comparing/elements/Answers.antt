use Rattle.std.proofs.Common.{◌≡◌, ℕ, length, ap, ◌∙◌, arith}
use Rattle.net_words.specs.Binding.{Binding}
use Rattle.spec_compare.proofs.TurnLemmas.{is_over, few_here, one_more, all_words}
use Rattle.spec_compare.proofs.comparing.elements.Goals as goal

pub add_element-requires-clause-over : goal.add_element-requires-clause-over
add_element-requires-clause-over g c =
    let k : ℕ = g.F.Ring.degree c.args.field.now in
    let mul : ℕ → ℕ → ℕ = g.F.Ring.product c.args.field.now in
    let count : c.words-v-end.result ≡ length c.args._circuit.now.binding.words = c.words-v-end.ensures.count ∙ ap (λ (x : Binding). length x.words) c.requires.binding in
    is_over k mul c.args._circuit.now c.args.bases.now c.requires.bases c.loop-v.v c.index-bases-v.result (omega (arith, c.loop-v-test.true, count)) c.index-bases-v.is

pub add_element-requires-clause-few : goal.add_element-requires-clause-few
add_element-requires-clause-few g c =
    let k : ℕ = g.F.Ring.degree c.args.field.now in
    let mul : ℕ → ℕ → ℕ = g.F.Ring.product c.args.field.now in
    let count : c.words-v-end.result ≡ length c.args._circuit.now.binding.words = c.words-v-end.ensures.count ∙ ap (λ (x : Binding). length x.words) c.requires.binding in
    few_here k mul c.args._circuit.now c.args.bases.now c.requires.bases c.loop-v.v c.index-bases-v.result (omega (arith, c.loop-v-test.true, count)) c.index-bases-v.is
    c.args.binding.now c.requires.binding c.role.result c.role.ensures c.args.ones.now c.loop-v.list.items c.loop-v.invariant c.requires.is_bound

pub loop-v-preserved : goal.loop-v-preserved
loop-v-preserved g c =
    let k : ℕ = g.F.Ring.degree c.args.field.now in
    let mul : ℕ → ℕ → ℕ = g.F.Ring.product c.args.field.now in
    let count : c.words-v-end.result ≡ length c.args._circuit.now.binding.words = c.words-v-end.ensures.count ∙ ap (λ (x : Binding). length x.words) c.requires.binding in
    one_more k mul c.args._circuit.now c.args.bases.now c.requires.bases c.loop-v.v c.index-bases-v.result (omega (arith, c.loop-v-test.true, count)) c.index-bases-v.is
    c.args.binding.now c.requires.binding c.role.result c.role.ensures c.args.ones.now c.loop-v.list.items c.loop-v.invariant c.add_element.new.list.items c.in_ok-add_element.ensures

pub returns : goal.returns
returns g c =
    let k : ℕ = g.F.Ring.degree c.args.field.now in
    let mul : ℕ → ℕ → ℕ = g.F.Ring.product c.args.field.now in
    let count : c.words-v-end.result ≡ length c.args._circuit.now.binding.words = c.words-v-end.ensures.count ∙ ap (λ (x : Binding). length x.words) c.requires.binding in
    all_words k mul c.args._circuit.now c.args.bases.now c.requires.bases c.args.ones.now c.loop-v.list.items c.loop-v.v (omega (arith, c.loop-v-test.false, count)) c.loop-v.invariant

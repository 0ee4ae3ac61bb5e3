use Rattle.std.proofs.Common.{◌≡◌, ℕ, List, OnOk, length, subst, ap, ◌∙◌}
use Rattle.gf_basis.specs.BasisParts.{elements_of}
use Rattle.lists.specs.Lists.{Has}
use Rattle.net_words.specs.Binding.{Binding}
use Rattle.net_words.specs.BoundTo.{output_bits}
use Rattle.poly_mixed.specs.Polynomial.{IsPolynomialOf}
use Rattle.circuit_model.proofs.OutputNetsLemmas.{output_long}
use Rattle.rato_reduce.specs.BoundVariables.{sum_of_ones}
use Rattle.rato_reduce.proofs.in_buckets.put_output.Goals as goal

pub put_bits-requires-clause-long : goal.put_bits-requires-clause-long
put_bits-requires-clause-long g c =
    let bound = c.binding.ensures.is_bound in
    ap length (c.deref.ensures.value ∙ c.in_ok-list.ensures) ∙ (ap (λ (b : Binding). length (output_bits b.words)) c.binding.ensures.binding ∙ output_long c.args.circuit.now.net c.args.circuit.now.binding bound ∙ c.requires.bits)

pub put_bits-requires-clause-inside : goal.put_bits-requires-clause-inside
put_bits-requires-clause-inside g c n has =
    let bound = c.binding.ensures.is_bound in
    let list : c.deref.result.now ≡ output_bits c.args.circuit.now.binding.words = c.deref.ensures.value ∙ (c.in_ok-list.ensures ∙ ap (λ (b : Binding). output_bits b.words) c.binding.ensures.binding) in
    let P : List ℕ → Type 0 = λ xs. Has xs n in
    bound.outputs n (subst P list has)

pub returns : goal.returns
returns g c =
    let degree = g.F.Ring.degree c.args.field.now in
    let mul = g.F.Ring.product c.args.field.now in
    let list : c.deref.result.now ≡ output_bits c.args.circuit.now.binding.words = c.deref.ensures.value ∙ (c.in_ok-list.ensures ∙ ap (λ (b : Binding). output_bits b.words) c.binding.ensures.binding) in
    let P : List ℕ → Type 0 = λ ns. OnOk c.put_bits.result (IsPolynomialOf degree mul (sum_of_ones c.args.circuit.now (elements_of c.args.output.now) ns) c.put_bits.new.sum.terms) in
    subst P list c.put_bits.ensures

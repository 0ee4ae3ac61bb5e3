use Rattle.std.proofs.Common.{◌≡◌, ◌∙◌, ap, sym, subst, map, length}
use Rattle.net_words.specs.Binding.{Binding, IsBinding}
use Rattle.net_words.specs.BoundTo.{output_bits}
use Rattle.net_words.specs.declared.word.Role.TheVariants.{Output}
use Rattle.gf_basis.specs.BasisParts.{elements_of}
use Rattle.circuit_model.specs.OfBinding.{output_basis}
use Rattle.lift_table.proofs.circuit_words.output_word.Goals as goal

pub output_basis-basis-requires-clause-one : goal.output_basis-basis-requires-clause-one
output_basis-basis-requires-clause-one g c =
    let P : Binding → Type 0 = λ b. IsBinding b in
    subst P (sym c.binding-binding.ensures.binding) c.binding-binding.ensures.is_bound.parts

pub output_basis-basis-requires-clause-long : goal.output_basis-basis-requires-clause-long
output_basis-basis-requires-clause-long g c = c.requires.long ∙ sym (ap (λ (b : Binding). length b.words) c.binding-binding.ensures.binding)

pub returns-clause-word : goal.returns-clause-word
returns-clause-word g c =
    let words = c.args.circuit.now.binding.words in
    let bases = map elements_of c.args.bases.now in
    let nets : c.in_ok-nets.nets.items ≡ output_bits words = c.in_ok-nets.ensures ∙ ap (λ (b : Binding). output_bits b.words) c.binding-binding.ensures.binding in
    let basis : elements_of c.output_basis-basis.result.now ≡ output_basis words bases = c.output_basis-basis.ensures.basis ∙ ap (λ (b : Binding). output_basis b.words bases) c.binding-binding.ensures.binding in
    λ i. record { role = Output; nets = nets i; basis = basis i }

pub returns-clause-over : goal.returns-clause-over
returns-clause-over g c = c.requires.each c.output_basis-basis.result.now c.output_basis-basis.ensures.among

use Rattle.std.proofs.Common.{◌≡◌, ◌∙◌, ◌++◌, ap, sym, subst, length, ℕ, List}
use Rattle.std.proofs.lemmas.List.{length-map}
use Rattle.gf_basis.specs.BasisParts.{elements_of}
use Rattle.gf_basis.specs.declared.bases.Basis.{Basis}
use Rattle.poly_mixed.specs.Labels.{Labelling}
use Rattle.circuit_model.specs.Bases.{circuit_in}
use Rattle.circuit_model.specs.OfBinding.{words_of}
use Rattle.circuit_model.specs.Out.{IsOut}
use Rattle.job_input.specs.Labelling.{labels_of}
use Rattle.job_input.specs.Setting.{elements_of_each}
use Rattle.job_input.proofs.CountLemmas.{as_many}
use Rattle.answer_core.specs.DifferingLines.{word_line}
use Rattle.answer_core.proofs.BoundBasesLemmas.{bases_are}
use Rattle.answer_polynomials.proofs.eval.reply.Goals as goal

pub output_at-requires : goal.output_at-requires
output_at-requires g c =
    let k = g.F.Ring.degree c.args.field.now in
    let setting = c.args.setting.now in
    let circuit = c.args.circuit.now in
    let bases = setting.bases.items in
    let long : length (elements_of_each bases) ≡ length circuit.binding.words = length-map bases elements_of ∙ c.requires.taken.long in
    let count = as_many k circuit.binding.words setting.signature.words (elements_of_each bases) long c.requires.taken.roles in
    let P : List Basis → Type 0 = λ bs. length c.args.xs.now ≡ length (words_of circuit.binding.words (elements_of_each bs)) in
    record {
      k = c.requires.taken.bits;
      bases = bases_are k (g.F.Ring.product c.args.field.now) setting c.requires.ready circuit c.requires.taken c.as_slice-bases.result.now c.as_slice-bases.ensures.value;
      long = subst P (sym c.as_slice-bases.ensures.value) (c.requires.long ∙ (ap (λ (l : Labelling). length l.words) c.requires.labels ∙ sym count));
      elements = c.requires.elements;
    }

pub returns : goal.returns
returns g c =
    let k = g.F.Ring.degree c.args.field.now in
    let element = c.in_ok-element.element in
    let name = (labels_of k c.args.setting.now.signature.words).output in
    let P : List Basis → Type 0 = λ bs. IsOut (circuit_in k (g.F.Ring.product c.args.field.now) c.args.circuit.now bs) c.args.xs.now element in
    let line : c.add_word.new.lines.items ≡ word_line name element =
    c.in_ok-add_word.ensures ∙ (ap (λ (t : List ℕ). t ++ word_line c.output.result.now element) c.new-text.ensures.items ∙ ap (λ (n : List ℕ). word_line n element) (c.output.ensures ∙ ap (λ (l : Labelling). l.output) c.requires.labels)) in
    (element, subst P c.as_slice-bases.ensures.value c.in_ok-element.ensures, ap (λ (t : List ℕ). record { status = 0; text = t }) line)

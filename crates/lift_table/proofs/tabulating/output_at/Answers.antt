use Rattle.std.proofs.Common.{◌∙◌, sym, subst, List, ℕ, IfOk}
use Rattle.circuit_model.specs.Bases.{circuit_in}
use Rattle.circuit_model.specs.Circuit.{Circuit}
use Rattle.circuit_model.specs.Out.{IsOut}
use Rattle.circuit_model.specs.Word.{Word}
use Rattle.lift_table.proofs.TableLemmas.{are_parts, as_many, same_circuit, words_are}
use Rattle.lift_table.proofs.tabulating.output_at.Goals as goal

pub circuit_words-requires : goal.circuit_words-requires
circuit_words-requires g c = c.requires.bases

pub output_word-requires : goal.output_word-requires
output_word-requires g c = c.requires.bases

pub output_over-requires-clause-parts : goal.output_over-requires-clause-parts
output_over-requires-clause-parts g c =
    are_parts (g.F.Ring.degree c.args.field.now) (g.F.Ring.product c.args.field.now) c.args.circuit.now c.args.bases.now c.net.result.now c.in_ok-words.words.items c.deref.result.now c.in_ok-to.to c.requires.bases (g.met.F.Ring.laws c.args.field.now) (g.met.F.Field.no_zero_divisors c.args.field.now)
    c.net.ensures.net c.net.ensures.flat c.net.ensures.sound c.net.ensures.is_bound c.requires.k c.deref.ensures.value c.in_ok-words.ensures.words c.in_ok-to.ensures.word c.in_ok-words.ensures.over c.in_ok-to.ensures.over

pub output_over-requires-clause-long : goal.output_over-requires-clause-long
output_over-requires-clause-long g c =
    let k = g.F.Ring.degree c.args.field.now in
    let mul : ℕ → ℕ → ℕ = g.F.Ring.product c.args.field.now in
    let all : List Word = (circuit_in k mul c.args.circuit.now c.args.bases.now).words in
    c.requires.long ∙ sym (as_many c.deref.result.now all (words_are c.in_ok-words.words.items c.deref.result.now all c.deref.ensures.value c.in_ok-words.ensures.words))

pub returns : goal.returns
returns g c =
    let k = g.F.Ring.degree c.args.field.now in
    let mul : ℕ → ℕ → ℕ = g.F.Ring.product c.args.field.now in
    let b = c.args.circuit.now in
    let bases = c.args.bases.now in
    let all : List Word = (circuit_in k mul b bases).words in
    let P : Circuit → Type 0 = λ circuit. IfOk c.output_over.result (IsOut circuit c.args.xs.now) in
    subst P (same_circuit k mul b bases c.net.result.now c.deref.result.now c.in_ok-to.to c.net.ensures.net (words_are c.in_ok-words.words.items c.deref.result.now all c.deref.ensures.value c.in_ok-words.ensures.words) c.in_ok-to.ensures.word) c.output_over.ensures

use Rattle.std.proofs.Common.{ℕ, List}
use Rattle.net_words.specs.Binding.{BoundNet}
use Rattle.gf_basis.specs.declared.bases.Basis.{Basis}
use Rattle.circuit_model.specs.Circuit.{Circuit}
use Rattle.circuit_model.specs.Bases.{circuit_in}
use Rattle.stage_model.proofs.OutputInWordsLemmas.{all_words_is_output}
use Rattle.word_subst.proofs.AllWordLemmas.{stage_refused}
use Rattle.word_subst.proofs.ReplacedLemmas.{no_words_in_bits}
use Rattle.word_subst.proofs.TurnLemmas.{is_well_formed}
use Rattle.abstraction.proofs.words.words_poly.Goals as goal

pub to_words-requires-clause-bits : goal.to_words-requires-clause-bits
to_words-requires-clause-bits g c =
    let k : ℕ = g.F.Ring.degree c.args.field.now in
    let mul : ℕ → ℕ → ℕ = g.F.Ring.product c.args.field.now in
    let ring = g.met.F.Ring.laws c.args.field.now in
    let free = g.met.F.Field.no_zero_divisors c.args.field.now in
    let circuit : BoundNet = c.args.circuit.now in
    let bases : List Basis = c.args.bases.now in
    let well = is_well_formed k mul circuit bases c.requires.bases ring free c.binding-netlist.ensures.sound c.binding-netlist.ensures.is_bound c.requires.k in
    no_words_in_bits (circuit_in k mul circuit bases) well c.binding-netlist.ensures.flat c.args.bits.items c.requires.bits

pub returns-in-Ok-clause-words : goal.returns-in-Ok-clause-words
returns-in-Ok-clause-words g c = c.in-Ok.ensures.words.is c.requires.bits

pub returns-in-Ok-clause-output : goal.returns-in-Ok-clause-output
returns-in-Ok-clause-output g c =
    let k : ℕ = g.F.Ring.degree c.args.field.now in
    let mul : ℕ → ℕ → ℕ = g.F.Ring.product c.args.field.now in
    let ring = g.met.F.Ring.laws c.args.field.now in
    let free = g.met.F.Field.no_zero_divisors c.args.field.now in
    let circuit : BoundNet = c.args.circuit.now in
    let bases : List Basis = c.args.bases.now in
    let well = is_well_formed k mul circuit bases c.requires.bases ring free c.binding-netlist.ensures.sound c.binding-netlist.ensures.is_bound c.requires.k in
    (all_words_is_output (circuit_in k mul circuit bases) well c.in-Ok.poly.terms).0 (c.in-Ok.ensures.words.is c.requires.bits)

pub returns-in-Ok-clause-within : goal.returns-in-Ok-clause-within
returns-in-Ok-clause-within g c = c.in-Ok.ensures.within.are c.requires.bits

pub returns-in-Ok-clause-steps : goal.returns-in-Ok-clause-steps
returns-in-Ok-clause-steps g c = c.in-Ok.ensures.steps.are c.requires.bits

pub returns-in-Err-clause-fault : goal.returns-in-Err-clause-fault
returns-in-Err-clause-fault g c =
    let circuit : Circuit = circuit_in (g.F.Ring.degree c.args.field.now) (g.F.Ring.product c.args.field.now) c.args.circuit.now c.args.bases.now in
    stage_refused circuit c.args.bits.items c.args.bound c.in-Err.fault c.requires.bits c.in-Err.ensures.fault

use Rattle.std.proofs.Common.{◌<◌, ℕ, List, length, get_or, arith}
use Rattle.std.proofs.lemmas.Option.{slice_get-get_or}
use Rattle.std.proofs.lemmas.Result.{IfOk-weaker}
use Rattle.net_words.specs.Binding.{BoundNet}
use Rattle.gf_basis.specs.BasisParts.{elements_of}
use Rattle.gf_basis.specs.declared.bases.Basis.{Basis}
use Rattle.circuit_model.specs.Circuit.{Circuit}
use Rattle.circuit_model.specs.Bases.{circuit_in}
use Rattle.spec_expand.proofs.BasisLemmas.{as_many, inside, is_over, is_well_formed, own_word}
use Rattle.spec_expand.proofs.BitLemmas.{word_of_input}
use Rattle.spec_expand.proofs.expanding.own_word.Goals as goal

pub bounds-places-word : goal.bounds-places-word
bounds-places-word g c =
    omega (arith, c.requires.word, as_many (g.F.Ring.degree c.args.field.now) (g.F.Ring.product c.args.field.now) c.args._circuit.now c.args.bases.now c.requires.setting.bases_are c.args.places.now c.requires.setting.places_are)

pub bounds-bases-place : goal.bounds-bases-place
bounds-bases-place g c =
    let k : ℕ = g.F.Ring.degree c.args.field.now in
    let mul : ℕ → ℕ → ℕ = g.F.Ring.product c.args.field.now in
    let b : BoundNet = c.args._circuit.now in
    let bases : List Basis = c.args.bases.now in
    let places : List ℕ = c.args.places.now in
    let less : c.args.word < length places = omega (arith, c.requires.word, as_many k mul b bases c.requires.setting.bases_are places c.requires.setting.places_are) in
    inside k mul b bases c.requires.setting.bases_are places c.requires.setting.places_are c.args.word (get_or places c.args.word 0) less (slice_get-get_or places c.args.word 0 less)

pub word_in_bits-requires-clause-over : goal.word_in_bits-requires-clause-over
word_in_bits-requires-clause-over g c =
    let k : ℕ = g.F.Ring.degree c.args.field.now in
    let mul : ℕ → ℕ → ℕ = g.F.Ring.product c.args.field.now in
    let b : BoundNet = c.args._circuit.now in
    let bases : List Basis = c.args.bases.now in
    let places : List ℕ = c.args.places.now in
    let less : c.args.word < length places = omega (arith, c.requires.word, as_many k mul b bases c.requires.setting.bases_are places c.requires.setting.places_are) in
    is_over k mul b bases c.requires.setting.bases_are places c.requires.setting.places_are c.args.word (get_or places c.args.word 0) less (slice_get-get_or places c.args.word 0 less) c.index-bases-place.result c.index-bases-place.is

pub word_in_bits-requires-clause-word : goal.word_in_bits-requires-clause-word
word_in_bits-requires-clause-word g c =
    let well = is_well_formed (g.F.Ring.degree c.args.field.now) (g.F.Ring.product c.args.field.now) c.args._circuit.now c.args.bases.now c.requires.setting.bases_are (g.met.F.Ring.laws c.args.field.now) (g.met.F.Field.no_zero_divisors c.args.field.now) c.requires.setting.sound c.requires.setting.is_bound c.requires.setting.bits in
    omega (arith, c.requires.word, well.few)

pub returns : goal.returns
returns g c =
    let k : ℕ = g.F.Ring.degree c.args.field.now in
    let mul : ℕ → ℕ → ℕ = g.F.Ring.product c.args.field.now in
    let b : BoundNet = c.args._circuit.now in
    let bases : List Basis = c.args.bases.now in
    let places : List ℕ = c.args.places.now in
    let circuit : Circuit = circuit_in k mul b bases in
    let well = is_well_formed k mul b bases c.requires.setting.bases_are (g.met.F.Ring.laws c.args.field.now) (g.met.F.Field.no_zero_divisors c.args.field.now) c.requires.setting.sound c.requires.setting.is_bound c.requires.setting.bits in
    let less : c.args.word < length places = omega (arith, c.requires.word, as_many k mul b bases c.requires.setting.bases_are places c.requires.setting.places_are) in
    let own = own_word k mul b bases c.requires.setting.bases_are places c.requires.setting.places_are c.args.word (get_or places c.args.word 0) less (slice_get-get_or places c.args.word 0 less) c.index-bases-place.result c.index-bases-place.is in
    IfOk-weaker c.word_in_bits.result _ _ (λ q is. word_of_input circuit well c.args.word own.0 own.1 q.terms (elements_of c.index-bases-place.result) own.2 is) c.word_in_bits.ensures

use Rattle.std.proofs.Common.{rules, ◌≡◌, ◌∙◌, ◌<◌, ◌+◌, ap, ℕ, List, length, map, arith}
use Rattle.lists.specs.laws.ListLaws.{length_map, map_push}
use Rattle.net_words.specs.Binding.{BoundNet}
use Rattle.gf_basis.specs.declared.bases.Basis.{Basis}
use Rattle.circuit_model.specs.Circuit.{Circuit}
use Rattle.circuit_model.specs.Bases.{circuit_in}
use Rattle.spec_expand.proofs.BasisLemmas.{as_many, is_well_formed}
use Rattle.spec_expand.proofs.StageLemmas.{of_words_more}
use Rattle.spec_expand.proofs.expanding.words_in_bits.Goals as goal

pub overflow_cast-word : goal.overflow_cast-word
overflow_cast-word g c =
    let k : ℕ = g.F.Ring.degree c.args.field.now in
    let mul : ℕ → ℕ → ℕ = g.F.Ring.product c.args.field.now in
    let b : BoundNet = c.args.circuit.now in
    let bases : List Basis = c.args.bases.now in
    let well = is_well_formed k mul b bases c.requires.bases_are (g.met.F.Ring.laws c.args.field.now) (g.met.F.Field.no_zero_divisors c.args.field.now) c.requires.sound c.requires.is_bound c.requires.bits in
    omega (arith, c.loop-word-test.true, as_many k mul b bases c.requires.bases_are c.args.places.now c.requires.places_are, well.few)

pub own_word-requires-clause-word : goal.own_word-requires-clause-word
own_word-requires-clause-word g c =
    let k : ℕ = g.F.Ring.degree c.args.field.now in
    let mul : ℕ → ℕ → ℕ = g.F.Ring.product c.args.field.now in
    omega (arith, c.loop-word-test.true, as_many k mul c.args.circuit.now c.args.bases.now c.requires.bases_are c.args.places.now c.requires.places_are)

pub loop-word-preserved : goal.loop-word-preserved
loop-word-preserved g c =
    let k : ℕ = g.F.Ring.degree c.args.field.now in
    let mul : ℕ → ℕ → ℕ = g.F.Ring.product c.args.field.now in
    let circuit : Circuit = circuit_in k mul c.args.circuit.now c.args.bases.now in
    record {
      long = search rules;
      each = of_words_more circuit (map (λ q. q.terms) c.loop-word.polys.items) (map (λ q. q.terms) c.push.new.self.items) c.loop-word.word c.in_ok-poly.poly.terms (ap (map (λ q. q.terms)) c.in_ok-push.ensures.items ∙ map_push (λ q. q.terms) c.loop-word.polys.items c.in_ok-poly.poly) (length_map (λ q. q.terms) c.loop-word.polys.items ∙ c.loop-word.invariant.long) c.loop-word.invariant.each c.in_ok-poly.ensures;
    }

pub returns : goal.returns
returns g c =
    let k : ℕ = g.F.Ring.degree c.args.field.now in
    let mul : ℕ → ℕ → ℕ = g.F.Ring.product c.args.field.now in
    let items = c.loop-word.polys.items in
    record {
      long = omega (arith, length_map (λ q. q.terms) items, c.loop-word.invariant.long, c.loop-word-test.false, c.loop-word.auto.word-end, as_many k mul c.args.circuit.now c.args.bases.now c.requires.bases_are c.args.places.now c.requires.places_are);
      each = c.loop-word.invariant.each;
    }

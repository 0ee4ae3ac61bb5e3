use Rattle.std.proofs.Common.{rules, refl, ◌∙◌, ◌<◌, ◌^◌, length, ℕ, List, sym, subst, arith}
use Rattle.lists.specs.laws.NumberLaws.{suc_is_plus_one}
use Rattle.net_words.specs.Binding.{BoundNet}
use Rattle.gf_basis.specs.BasisParts.{elements_of}
use Rattle.gf_basis.specs.declared.bases.Basis.{Basis}
use Rattle.poly_mixed.specs.Polynomial.{Terms}
use Rattle.circuit_model.specs.Circuit.{Circuit}
use Rattle.stage_model.specs.Mix.{IsMix}
use Rattle.stage_model.specs.Stage.{IsOfStage}
use Rattle.circuit_model.specs.Bases.{circuit_in}
use Rattle.word_subst.specs.InWords.{IsReplaceRefusal, AreReplacedTo, HoldsPairsTo}
use Rattle.word_subst.specs.WordStages.{IsStageFault}
use Rattle.word_subst.specs.private.Held.{terms_of}
use Rattle.word_subst.proofs.TurnLemmas.{is_well_formed, places_are, all_taken, few_places, inside, own_word, is_over}
use Rattle.word_subst.proofs.LiftedLemmas.{next_mix}
use Rattle.word_subst.proofs.ReplacedLemmas.{has_values, in_words, replaced_more, refused_here, no_pairs, more_pairs}
use Rattle.word_subst.proofs.AllWordLemmas.{nothing_within, nothing_recorded, all_recorded, all_within, one_word_within, one_word_recorded, refused, stage_fault}
use Rattle.word_subst.proofs.words.to_words.Goals as goal

pub bounds-bases-index : goal.bounds-bases-index
bounds-bases-index g c =
    let k : ℕ = g.F.Ring.degree c.args.field.now in
    let mul : ℕ → ℕ → ℕ = g.F.Ring.product c.args.field.now in
    let b : BoundNet = c.args.circuit.now in
    let bases : List Basis = c.args.bases.now in
    let places : List ℕ = c.in_ok-places.places.items in
    let places_is = places_are k mul b bases c.requires.bases places c.binding.result.now c.in_ok-places.ensures c.binding.ensures.binding in
    let w : ℕ = c.loop-w.w in
    let v : ℕ = c.index.result.now in
    let L : ℕ → Type 0 = λ n. w < n in
    let less : w < length places = subst L (c.len-w-end.ensures ∙ c.in_ok-places.places.ok.0) c.loop-w-test.true in
    inside k mul b bases c.requires.bases places places_is w v less c.index.ensures

pub overflow_cast-w : goal.overflow_cast-w
overflow_cast-w g c =
    let k : ℕ = g.F.Ring.degree c.args.field.now in
    let mul : ℕ → ℕ → ℕ = g.F.Ring.product c.args.field.now in
    let b : BoundNet = c.args.circuit.now in
    let bases : List Basis = c.args.bases.now in
    let places : List ℕ = c.in_ok-places.places.items in
    let places_is = places_are k mul b bases c.requires.bases places c.binding.result.now c.in_ok-places.ensures c.binding.ensures.binding in
    let well = is_well_formed k mul b bases c.requires.bases (g.met.F.Ring.laws c.args.field.now) (g.met.F.Field.no_zero_divisors c.args.field.now) c.binding.ensures.sound c.binding.ensures.is_bound c.requires.k in
    let w : ℕ = c.loop-w.w in
    let v : ℕ = c.index.result.now in
    let L : ℕ → Type 0 = λ n. w < n in
    let less : w < length places = subst L (c.len-w-end.ensures ∙ c.in_ok-places.places.ok.0) c.loop-w-test.true in
    let few : w < 8 = few_places k mul b bases c.requires.bases places places_is well w less in
    omega (arith, few)

pub next_word-requires-clause-over : goal.next_word-requires-clause-over
next_word-requires-clause-over g c =
    let k : ℕ = g.F.Ring.degree c.args.field.now in
    let mul : ℕ → ℕ → ℕ = g.F.Ring.product c.args.field.now in
    let b : BoundNet = c.args.circuit.now in
    let bases : List Basis = c.args.bases.now in
    let places : List ℕ = c.in_ok-places.places.items in
    let places_is = places_are k mul b bases c.requires.bases places c.binding.result.now c.in_ok-places.ensures c.binding.ensures.binding in
    let w : ℕ = c.loop-w.w in
    let v : ℕ = c.index.result.now in
    let L : ℕ → Type 0 = λ n. w < n in
    let less : w < length places = subst L (c.len-w-end.ensures ∙ c.in_ok-places.places.ok.0) c.loop-w-test.true in
    is_over k mul b bases c.requires.bases places places_is w v less c.index.ensures c.index-bases-index.result c.index-bases-index.is

pub next_word-requires-clause-word : goal.next_word-requires-clause-word
next_word-requires-clause-word g c =
    let k : ℕ = g.F.Ring.degree c.args.field.now in
    let mul : ℕ → ℕ → ℕ = g.F.Ring.product c.args.field.now in
    let b : BoundNet = c.args.circuit.now in
    let bases : List Basis = c.args.bases.now in
    let places : List ℕ = c.in_ok-places.places.items in
    let places_is = places_are k mul b bases c.requires.bases places c.binding.result.now c.in_ok-places.ensures c.binding.ensures.binding in
    let well = is_well_formed k mul b bases c.requires.bases (g.met.F.Ring.laws c.args.field.now) (g.met.F.Field.no_zero_divisors c.args.field.now) c.binding.ensures.sound c.binding.ensures.is_bound c.requires.k in
    let w : ℕ = c.loop-w.w in
    let v : ℕ = c.index.result.now in
    let L : ℕ → Type 0 = λ n. w < n in
    let less : w < length places = subst L (c.len-w-end.ensures ∙ c.in_ok-places.places.ok.0) c.loop-w-test.true in
    few_places k mul b bases c.requires.bases places places_is well w less

pub returns-in_err-made-clause-fault : goal.returns-in_err-made-clause-fault
returns-in_err-made-clause-fault g c =
    let k : ℕ = g.F.Ring.degree c.args.field.now in
    let mul : ℕ → ℕ → ℕ = g.F.Ring.product c.args.field.now in
    let b : BoundNet = c.args.circuit.now in
    let bases : List Basis = c.args.bases.now in
    let places : List ℕ = c.in_ok-places.places.items in
    let places_is = places_are k mul b bases c.requires.bases places c.binding.result.now c.in_ok-places.ensures c.binding.ensures.binding in
    let well = is_well_formed k mul b bases c.requires.bases (g.met.F.Ring.laws c.args.field.now) (g.met.F.Field.no_zero_divisors c.args.field.now) c.binding.ensures.sound c.binding.ensures.is_bound c.requires.k in
    let w : ℕ = c.loop-w.w in
    let v : ℕ = c.index.result.now in
    let L : ℕ → Type 0 = λ n. w < n in
    let less : w < length places = subst L (c.len-w-end.ensures ∙ c.in_ok-places.places.ok.0) c.loop-w-test.true in
    let basis : Basis = c.index-bases-index.result in
    let word = own_word k mul b bases c.requires.bases places places_is w v less c.index.ensures basis c.index-bases-index.is in
    let circuit : Circuit = circuit_in k mul b bases in
    let fault : IsStageFault circuit c.args.bits.items c.args.bound c.in_err-made.field-0.0 =
    stage_fault circuit c.args.bits.items c.args.bound c.in_err-made.field-0.0
    (λ none. refused circuit well w word.0 word.1 (elements_of basis) word.2 (terms_of c.loop-w.last) (c.loop-w.invariant.mix none) c.args.bound (c.loop-w.invariant.within none) c.in_err-made.field-0.0 c.in_err-made.ensures.fault) in
    search rules

pub returns-in_err-made-clause-first : goal.returns-in_err-made-clause-first
returns-in_err-made-clause-first g c =
    let k : ℕ = g.F.Ring.degree c.args.field.now in
    let mul : ℕ → ℕ → ℕ = g.F.Ring.product c.args.field.now in
    let b : BoundNet = c.args.circuit.now in
    let bases : List Basis = c.args.bases.now in
    let places : List ℕ = c.in_ok-places.places.items in
    let places_is = places_are k mul b bases c.requires.bases places c.binding.result.now c.in_ok-places.ensures c.binding.ensures.binding in
    let well = is_well_formed k mul b bases c.requires.bases (g.met.F.Ring.laws c.args.field.now) (g.met.F.Field.no_zero_divisors c.args.field.now) c.binding.ensures.sound c.binding.ensures.is_bound c.requires.k in
    let w : ℕ = c.loop-w.w in
    let v : ℕ = c.index.result.now in
    let L : ℕ → Type 0 = λ n. w < n in
    let less : w < length places = subst L (c.len-w-end.ensures ∙ c.in_ok-places.places.ok.0) c.loop-w-test.true in
    let basis : Basis = c.index-bases-index.result in
    let word = own_word k mul b bases c.requires.bases places places_is w v less c.index.ensures basis c.index-bases-index.is in
    let circuit : Circuit = circuit_in k mul b bases in
    let first : IsReplaceRefusal circuit c.args.bits.items c.args.bound c.in_err-made.field-0.0 =
    refused_here circuit well c.args.bits.items c.args.bound w word.0 word.1 (elements_of basis) word.2 (terms_of c.loop-w.last) c.loop-w.invariant.replaced c.in_err-made.field-0.0 c.in_err-made.ensures.fault in
    search rules

pub loop-w-preserved : goal.loop-w-preserved
loop-w-preserved g c =
    let k : ℕ = g.F.Ring.degree c.args.field.now in
    let mul : ℕ → ℕ → ℕ = g.F.Ring.product c.args.field.now in
    let b : BoundNet = c.args.circuit.now in
    let bases : List Basis = c.args.bases.now in
    let places : List ℕ = c.in_ok-places.places.items in
    let places_is = places_are k mul b bases c.requires.bases places c.binding.result.now c.in_ok-places.ensures c.binding.ensures.binding in
    let well = is_well_formed k mul b bases c.requires.bases (g.met.F.Ring.laws c.args.field.now) (g.met.F.Field.no_zero_divisors c.args.field.now) c.binding.ensures.sound c.binding.ensures.is_bound c.requires.k in
    let w : ℕ = c.loop-w.w in
    let v : ℕ = c.index.result.now in
    let L : ℕ → Type 0 = λ n. w < n in
    let less : w < length places = subst L (c.len-w-end.ensures ∙ c.in_ok-places.places.ok.0) c.loop-w-test.true in
    let basis : Basis = c.index-bases-index.result in
    let word = own_word k mul b bases c.requires.bases places places_is w v less c.index.ensures basis c.index-bases-index.is in
    let circuit : Circuit = circuit_in k mul b bases in
    let P : ℕ → Type 0 = λ n. IsOfStage k mul (IsMix circuit n) c.in_ok-made.made.terms in
    let few : length c.in_ok-made.made.terms < 2 ^ 32 = omega (arith, c.in_ok-made.ensures.read.small, c.ranges.bound.fits) in
    record {
      reduced = c.in_ok-made.ensures.read.sum.reduced;
      few = few;
      replaced = replaced_more circuit well c.args.bits.items c.args.bound w word.0 word.1 (elements_of basis) word.2 (terms_of c.loop-w.last) c.in_ok-made.made.terms c.loop-w.invariant.replaced c.in_ok-made.ensures.read.sum c.in_ok-made.ensures.read.within;
      told = more_pairs circuit well c.args.bits.items c.args.bound w word.0 word.1 (elements_of basis) word.2 (terms_of c.loop-w.last) c.loop-w.invariant.replaced (g.T.Steps.steps c.args.steps.now) (g.T.Steps.steps c.loop-w.steps) (g.T.Steps.steps c.next_word.new.steps) c.loop-w.invariant.told c.in_ok-made.ensures.read.told;
      mix = λ none. subst P (suc_is_plus_one w) (next_mix circuit well w word.0 word.1 (elements_of basis) word.2 (terms_of c.loop-w.last) (c.loop-w.invariant.mix none) c.in_ok-made.made.terms c.in_ok-made.ensures.read.sum);
      within = λ none. one_word_within circuit well w word.0 word.1 (elements_of basis) word.2 (terms_of c.loop-w.last) (c.loop-w.invariant.mix none) c.args.bound (c.loop-w.invariant.within none) c.in_ok-made.ensures.read.within;
      recorded = λ none. one_word_recorded circuit well w word.0 word.1 (elements_of basis) word.2 (terms_of c.loop-w.last) (c.loop-w.invariant.mix none) c.args.bound (g.T.Steps.steps c.args.steps.now) (g.T.Steps.steps c.loop-w.steps) (g.T.Steps.steps c.next_word.new.steps) (c.loop-w.invariant.recorded none) c.in_ok-made.ensures.read.told;
    }

pub loop-w-init : goal.loop-w-init
loop-w-init g c =
    let k : ℕ = g.F.Ring.degree c.args.field.now in
    let mul : ℕ → ℕ → ℕ = g.F.Ring.product c.args.field.now in
    let b : BoundNet = c.args.circuit.now in
    let bases : List Basis = c.args.bases.now in
    let well = is_well_formed k mul b bases c.requires.bases (g.met.F.Ring.laws c.args.field.now) (g.met.F.Field.no_zero_divisors c.args.field.now) c.binding.ensures.sound c.binding.ensures.is_bound c.requires.k in
    let circuit : Circuit = circuit_in k mul b bases in
    record {
      reduced = c.requires.bits.reduced;
      few = c.requires.few;
      replaced = refl;
      told = no_pairs circuit well c.args.bits.items c.args.bound (g.T.Steps.steps c.args.steps.now);
      mix = λ none. none;
      within = λ none. nothing_within circuit c.args.bound;
      recorded = λ none. nothing_recorded circuit (g.T.Steps.steps c.args.steps.now);
    }

pub into_poly-requires : goal.into_poly-requires
into_poly-requires g c = c.loop-w.invariant.reduced.is_map

pub returns-clause-words : goal.returns-clause-words
returns-clause-words g c =
    let k : ℕ = g.F.Ring.degree c.args.field.now in
    let mul : ℕ → ℕ → ℕ = g.F.Ring.product c.args.field.now in
    let b : BoundNet = c.args.circuit.now in
    let bases : List Basis = c.args.bases.now in
    let places : List ℕ = c.in_ok-places.places.items in
    let places_is = places_are k mul b bases c.requires.bases places c.binding.result.now c.in_ok-places.ensures c.binding.ensures.binding in
    let circuit : Circuit = circuit_in k mul b bases in
    let last = all_taken k mul b bases c.requires.bases places places_is c.loop-w.w c.len-w-end.result (c.len-w-end.ensures ∙ c.in_ok-places.places.ok.0) c.loop-w-test.false c.loop-w.auto.w-end in
    let P : ℕ → Type 0 = λ n. IsOfStage k mul (IsMix circuit n) (terms_of c.loop-w.last) in
    let Q : Terms → Type 0 = λ ts. IsOfStage k mul (IsMix circuit (length circuit.words)) ts in
    record { is = λ none. subst Q (sym c.in_ok-poly.ensures) (subst P last (c.loop-w.invariant.mix none)) }

pub returns-clause-within : goal.returns-clause-within
returns-clause-within g c =
    let k : ℕ = g.F.Ring.degree c.args.field.now in
    let mul : ℕ → ℕ → ℕ = g.F.Ring.product c.args.field.now in
    let b : BoundNet = c.args.circuit.now in
    let bases : List Basis = c.args.bases.now in
    let places : List ℕ = c.in_ok-places.places.items in
    let places_is = places_are k mul b bases c.requires.bases places c.binding.result.now c.in_ok-places.ensures c.binding.ensures.binding in
    let circuit : Circuit = circuit_in k mul b bases in
    let last = all_taken k mul b bases c.requires.bases places places_is c.loop-w.w c.len-w-end.result (c.len-w-end.ensures ∙ c.in_ok-places.places.ok.0) c.loop-w-test.false c.loop-w.auto.w-end in
    record { are = λ none. all_within circuit c.loop-w.w c.args.bound last (c.loop-w.invariant.within none) }

pub returns-clause-steps : goal.returns-clause-steps
returns-clause-steps g c =
    let k : ℕ = g.F.Ring.degree c.args.field.now in
    let mul : ℕ → ℕ → ℕ = g.F.Ring.product c.args.field.now in
    let b : BoundNet = c.args.circuit.now in
    let bases : List Basis = c.args.bases.now in
    let places : List ℕ = c.in_ok-places.places.items in
    let places_is = places_are k mul b bases c.requires.bases places c.binding.result.now c.in_ok-places.ensures c.binding.ensures.binding in
    let circuit : Circuit = circuit_in k mul b bases in
    let last = all_taken k mul b bases c.requires.bases places places_is c.loop-w.w c.len-w-end.result (c.len-w-end.ensures ∙ c.in_ok-places.places.ok.0) c.loop-w-test.false c.loop-w.auto.w-end in
    record { are = λ none. all_recorded circuit c.loop-w.w (g.T.Steps.steps c.args.steps.now) (g.T.Steps.steps c.loop-w.steps) last (c.loop-w.invariant.recorded none) }

pub returns-clause-replaced : goal.returns-clause-replaced
returns-clause-replaced g c =
    let k : ℕ = g.F.Ring.degree c.args.field.now in
    let mul : ℕ → ℕ → ℕ = g.F.Ring.product c.args.field.now in
    let b : BoundNet = c.args.circuit.now in
    let bases : List Basis = c.args.bases.now in
    let places : List ℕ = c.in_ok-places.places.items in
    let places_is = places_are k mul b bases c.requires.bases places c.binding.result.now c.in_ok-places.ensures c.binding.ensures.binding in
    let circuit : Circuit = circuit_in k mul b bases in
    let last = all_taken k mul b bases c.requires.bases places places_is c.loop-w.w c.len-w-end.result (c.len-w-end.ensures ∙ c.in_ok-places.places.ok.0) c.loop-w-test.false c.loop-w.auto.w-end in
    let P : ℕ → Type 0 = λ n. AreReplacedTo circuit c.args.bits.items c.args.bound n (terms_of c.loop-w.last) in
    let Q : Terms → Type 0 = λ ts. AreReplacedTo circuit c.args.bits.items c.args.bound (length circuit.words) ts in
    subst Q (sym c.in_ok-poly.ensures) (subst P last c.loop-w.invariant.replaced)

pub returns-clause-values : goal.returns-clause-values
returns-clause-values g c =
    let k : ℕ = g.F.Ring.degree c.args.field.now in
    let mul : ℕ → ℕ → ℕ = g.F.Ring.product c.args.field.now in
    let b : BoundNet = c.args.circuit.now in
    let bases : List Basis = c.args.bases.now in
    let places : List ℕ = c.in_ok-places.places.items in
    let places_is = places_are k mul b bases c.requires.bases places c.binding.result.now c.in_ok-places.ensures c.binding.ensures.binding in
    let well = is_well_formed k mul b bases c.requires.bases (g.met.F.Ring.laws c.args.field.now) (g.met.F.Field.no_zero_divisors c.args.field.now) c.binding.ensures.sound c.binding.ensures.is_bound c.requires.k in
    let circuit : Circuit = circuit_in k mul b bases in
    let last = all_taken k mul b bases c.requires.bases places places_is c.loop-w.w c.len-w-end.result (c.len-w-end.ensures ∙ c.in_ok-places.places.ok.0) c.loop-w-test.false c.loop-w.auto.w-end in
    let P : ℕ → Type 0 = λ n. AreReplacedTo circuit c.args.bits.items c.args.bound n (terms_of c.loop-w.last) in
    let Q : Terms → Type 0 = λ ts. AreReplacedTo circuit c.args.bits.items c.args.bound (length circuit.words) ts in
    has_values circuit well c.args.bits.items c.args.bound c.in_ok-poly.poly.terms (subst Q (sym c.in_ok-poly.ensures) (subst P last c.loop-w.invariant.replaced))

pub returns-clause-alone : goal.returns-clause-alone
returns-clause-alone g c =
    let k : ℕ = g.F.Ring.degree c.args.field.now in
    let mul : ℕ → ℕ → ℕ = g.F.Ring.product c.args.field.now in
    let b : BoundNet = c.args.circuit.now in
    let bases : List Basis = c.args.bases.now in
    let places : List ℕ = c.in_ok-places.places.items in
    let places_is = places_are k mul b bases c.requires.bases places c.binding.result.now c.in_ok-places.ensures c.binding.ensures.binding in
    let well = is_well_formed k mul b bases c.requires.bases (g.met.F.Ring.laws c.args.field.now) (g.met.F.Field.no_zero_divisors c.args.field.now) c.binding.ensures.sound c.binding.ensures.is_bound c.requires.k in
    let circuit : Circuit = circuit_in k mul b bases in
    let last = all_taken k mul b bases c.requires.bases places places_is c.loop-w.w c.len-w-end.result (c.len-w-end.ensures ∙ c.in_ok-places.places.ok.0) c.loop-w-test.false c.loop-w.auto.w-end in
    let P : ℕ → Type 0 = λ n. AreReplacedTo circuit c.args.bits.items c.args.bound n (terms_of c.loop-w.last) in
    let Q : Terms → Type 0 = λ ts. AreReplacedTo circuit c.args.bits.items c.args.bound (length circuit.words) ts in
    in_words circuit well c.args.bits.items c.args.bound c.in_ok-poly.poly.terms (subst Q (sym c.in_ok-poly.ensures) (subst P last c.loop-w.invariant.replaced)) c.requires.bits

pub returns-clause-told : goal.returns-clause-told
returns-clause-told g c =
    let k : ℕ = g.F.Ring.degree c.args.field.now in
    let mul : ℕ → ℕ → ℕ = g.F.Ring.product c.args.field.now in
    let b : BoundNet = c.args.circuit.now in
    let bases : List Basis = c.args.bases.now in
    let places : List ℕ = c.in_ok-places.places.items in
    let places_is = places_are k mul b bases c.requires.bases places c.binding.result.now c.in_ok-places.ensures c.binding.ensures.binding in
    let circuit : Circuit = circuit_in k mul b bases in
    let last = all_taken k mul b bases c.requires.bases places places_is c.loop-w.w c.len-w-end.result (c.len-w-end.ensures ∙ c.in_ok-places.places.ok.0) c.loop-w-test.false c.loop-w.auto.w-end in
    let P : ℕ → Type 0 = λ n. HoldsPairsTo circuit c.args.bits.items c.args.bound n (g.T.Steps.steps c.args.steps.now) (g.T.Steps.steps c.loop-w.steps) in
    subst P last c.loop-w.invariant.told

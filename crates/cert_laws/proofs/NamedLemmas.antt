-- The labels of a circuit name all that stands in its certificate.
use Rattle.std.proofs.Common.{◌≡◌, inl, inr, ◌∙◌, ap, sym, refl, subst, ℕ, zero, suc, ◌+◌, ◌<◌, ◌≤◌, nat_eq, true, false, cond, not, List, [], ◌∷◌, length, drop, map, Some, slice_get, arith, append-nil}
use Rattle.std.specs.List.{AllByRecursion}
use Rattle.std.proofs.lemmas.Bool.{true≢false, ne_eqb}
use Rattle.std.proofs.lemmas.List.{length-map, length-append}
use Rattle.lists.specs.laws.HasLaws.{All_has}
use Rattle.lists.specs.laws.ListLaws.{all_filter as all_filtered, all_append, any_equal}
use Rattle.gf_field.specs.Field.{HasNoZeroDivisors}
use Rattle.gf_field.specs.Ring.{IsRing}
use Rattle.gf_basis.specs.BasisParts.{elements_of}
use Rattle.gf_basis.specs.declared.bases.Basis.{Basis}
use Rattle.net_core.specs.NetList.{nets}
use Rattle.net_core.specs.Sound.{IsSound}
use Rattle.net_core.proofs.DriverLemmas.{gate_inside}
use Rattle.net_words.specs.Binding.{BoundNet}
use Rattle.net_words.specs.OneCycle.{IsOneCycle}
use Rattle.net_words.specs.Variables.{bits, others, variables}
use Rattle.poly_mixed.specs.Cofactor.{LacksBit, at_bit, cofactors, without_bit}
use Rattle.poly_mixed.specs.Labels.{Labelling, bit_count}
use Rattle.poly_mixed.specs.Monomial.{has_bit}
use Rattle.poly_mixed.specs.Polynomial.{Terms, Point, IsPoint, IsReduced}
use Rattle.poly_mixed.specs.Steps.{Step}
use Rattle.poly_mixed.specs.Text.{HasNames, HasWordNames}
use Rattle.poly_mixed.specs.laws.TextLaw.{IsWritten}
use Rattle.poly_mixed.specs.laws.Uniqueness.{IsZeros, InFirstWords}
use Rattle.poly_mixed.proofs.CofactorLemmas.{reduced_cofactors}
use Rattle.poly_mixed.proofs.OneBitLemmas.{is_cofactor}
use Rattle.poly_mixed.proofs.ValueLemmas.{same_map}
use Rattle.circuit_model.specs.Bases.{AreBases, circuit_in}
use Rattle.circuit_model.specs.Circuit.{Circuit}
use Rattle.circuit_model.specs.OfBinding.{output_word, output_basis}
use Rattle.circuit_model.specs.WellFormed.{IsWellFormed}
use Rattle.stage_model.specs.Cut.{IsCut}
use Rattle.stage_model.specs.CutSteps.{AreStepsOf, AreStepsTo}
use Rattle.stage_model.specs.Stage.{IsOfStage}
use Rattle.stage_model.specs.Variables.{rank_in, point_bit}
use Rattle.stage_model.proofs.BlindLemmas.{front_rank}
use Rattle.stage_model.proofs.CutLemmas.{one_cut_of, wordless_cut}
use Rattle.stage_model.proofs.CutPolyLemmas.{same_cut}
use Rattle.stage_model.proofs.OutputInWordsLemmas.{all_words_is_output}
use Rattle.stage_model.proofs.SharedLemmas.{named_terms, no_names}
use Rattle.stage_model.proofs.SizeLemmas.{lacks, wordless_stage}
use Rattle.stage_model.proofs.StepLemmas.{lacks_or}
use Rattle.cert_check.proofs.SoundLemmas.{well}
use Rattle.cert_make.specs.CircuitLabels.{NameVariables}
use Rattle.cert_make.specs.Recorded.{IsCertificateOf}
use Rattle.cert_make.specs.Writable.{IsWritablePair, IsOfNet, HaveNumbers}
use Rattle.cert_laws.specs.Named.{IsWritableCertificate, IsNamed}
use Rattle.cert_laws.proofs.CountLemmas.{times_k, counted_labels, counted_bits, counted_words}
use Rattle.cert_laws.proofs.CutWalkLemmas.{driver_found}
use Rattle.cert_laws.proofs.VariableLemmas.{stands_in}
use Rattle.cert_laws.proofs.WordNamedLemmas.{word_steps_named}
use Rattle.poly_mixed.proofs.SharedLemmas.{none_later}

-- ---- ranks that stand in terms

no_bits : (ts : Terms) → ((rank : ℕ) → 0 ≤ rank → LacksBit rank ts) → AllByRecursion (λ t. t.0.bits ≡ []) ts
no_bits [] lack = tt
no_bits (t ∷ ts) lack = (none t.0.bits (λ k r got. true≢false (sym (any_equal r t.0.bits k got) ∙ (lack r (omega arith)).0)), no_bits ts (λ rank high. (lack rank high).1))
  where
    none : (rs : List ℕ) → ((k r : ℕ) → slice_get rs k ≡ Some r → ⊥) → rs ≡ []
    none [] each = refl
    none (r ∷ rs) each = absurd (each 0 r refl)

-- ---- cofactors

named_cofactors : (count bit : ℕ) (ts : Terms) → AllByRecursion (λ t. AllByRecursion (λ r. r < count) t.0.bits) ts → AllByRecursion (λ t. AllByRecursion (λ r. r < count) t.0.bits) (cofactors bit ts)
named_cofactors count bit [] all = tt
named_cofactors count bit (t ∷ ts) all = elim (has_bit bit t.0) as (λ b. AllByRecursion (λ t. AllByRecursion (λ r. r < count) t.0.bits) (cond b ((without_bit bit t.0, t.1) ∷ cofactors bit ts) (cofactors bit ts))) [
  | true ↦ (all_filtered (λ r. r < count) (λ r. not (nat_eq r bit)) t.0.bits all.0, named_cofactors count bit ts all.1)
  | false ↦ named_cofactors count bit ts all.1
]

zero_words : (m bit : ℕ) (ts : Terms) → AllByRecursion (λ t. IsZeros t.0.exponents) ts → AllByRecursion (λ t. IsZeros (drop m t.0.exponents)) (cofactors bit ts)
zero_words m bit [] all = tt
zero_words m bit (t ∷ ts) all = elim (has_bit bit t.0) as (λ b. AllByRecursion (λ t. IsZeros (drop m t.0.exponents)) (cond b ((without_bit bit t.0, t.1) ∷ cofactors bit ts) (cofactors bit ts))) [
  | true ↦ (none_later m t.0.exponents all.0, zero_words m bit ts all.1)
  | false ↦ zero_words m bit ts all.1
]

module _ (k : ℕ) (mul : ℕ → ℕ → ℕ) (ring : IsRing k mul) (field : HasNoZeroDivisors k mul) (bound : BoundNet) (bases : List Basis) (sound : IsSound bound.net) (one : IsOneCycle bound.net bound.binding) (same : bound.binding.k ≡ k) (are : AreBases k mul bound bases) (labels : Labelling) (numbers : HaveNumbers k bound.net labels) (names : NameVariables bound labels) where
  abbrev c : Circuit
  c = circuit_in k mul bound bases

  abbrev list : List ℕ
  list = variables (nets bound.net) bound.binding.words

  abbrev count : ℕ
  count = bit_count labels.words + length labels.nets

  abbrev Cut : ℕ → Point → ℕ → Type 0
  Cut t = IsCut bound.net list (output_word bound.binding.words (output_basis bound.binding.words (map elements_of bases))) t

  circuit : IsWellFormed c
  circuit = well k mul bound bases ring field sound one same are

  -- the bits of the words, counted by the labels and by the nets
  pub word_bits_counted : length (bits bound.binding.words) ≡ bit_count labels.words
  word_bits_counted =
      counted_bits bound.binding.k bound.binding.words (λ word has. All_has (λ u. length u.nets ≡ bound.binding.k) bound.binding.words word one.flat.named has)
      ∙ ap (times_k bound.binding.k) (sym names.words.count) ∙ sym (counted_labels bound.binding.k labels.words names.words.bits)

  all_counted : length list ≡ count
  all_counted = length-append (bits bound.binding.words) (others (nets bound.net) (bits bound.binding.words)) ∙ (λ i. word_bits_counted i + length (sym names.nets i))

  words_counted : length c.words ≡ length labels.words
  words_counted = counted_words bound.binding.words (map elements_of bases) (length-map bases elements_of ∙ are.long) ∙ sym names.words.count

  written : (ts : Terms) → IsReduced k ts → HasNames labels ts → HasWordNames labels ts → IsWritten labels k ts
  written ts reduced ranks words = record { labels = numbers.are_labels; some = numbers.some; small = numbers.small; few = numbers.ranks; reduced = reduced; ranks = ranks; words = words }

  -- ---- the pairs of eliminations

  -- a cut looks at the variables' bits alone
  blind_cut : (t rank : ℕ) → count ≤ rank → (p : Point) (e : ℕ) → IsPoint k p → Cut t p e → Cut t (at_bit p rank false) e
  blind_cut t rank high p e at cut =
      same_cut bound.net list (output_word bound.binding.words (output_basis bound.binding.words (map elements_of bases))) t p (at_bit p rank false) e
      (λ m less. sym (ap (λ b. cond b false (point_bit list p m)) (ne_eqb (rank_in list m) rank (λ e. (let low = rank_low m less in omega (arith, low, high, e, all_counted)))))) cut
    where
      rank_low : (m : ℕ) → m < nets bound.net → rank_in list m < length list
      rank_low m less =
          let P : List ℕ → Type 0 = λ xs. rank_in xs m < length list in
          subst P (append-nil list) (front_rank list [] m (stands_in bound.net bound.binding m one less))

  cut_named : (t : ℕ) (ts : Terms) → IsOfStage k mul (Cut t) ts → AllByRecursion (λ t. AllByRecursion (λ r. r < count) t.0.bits) ts
  cut_named t ts is = named_terms count ts (λ rank high. lacks k mul ring field (Cut t) (λ p x y at a b. one_cut_of bound.net sound list (output_word bound.binding.words (output_basis bound.binding.words (map elements_of bases))) t p x y a b) rank ts is (blind_cut t rank high))

  cut_wordless : (t : ℕ) (ts : Terms) → IsOfStage k mul (Cut t) ts → AllByRecursion (λ t. IsZeros t.0.exponents) ts
  cut_wordless t ts is = undropped ts (wordless_stage k mul ring field (Cut t) (λ p x y at a b. one_cut_of bound.net sound list (output_word bound.binding.words (output_basis bound.binding.words (map elements_of bases))) t p x y a b) ts is (λ p x at cut. wordless_cut bound.net list (output_word bound.binding.words (output_basis bound.binding.words (map elements_of bases))) t p x cut))
    where
      undropped : (ts : Terms) → AllByRecursion (λ t. IsZeros (drop 0 t.0.exponents)) ts → AllByRecursion (λ t. IsZeros t.0.exponents) ts
      undropped [] all = tt
      undropped (t ∷ ts) all = (all.0, undropped ts all.1)

  -- a pair that can be written, of a generator that the net has
  abbrev IsGood : Step → Type 0
  IsGood s = IsWritablePair labels k s × IsOfNet bound.net labels s.0

  one_cut_named : (order : List ℕ) (t : ℕ) (last : List Step) → AreStepsOf k mul bound.net list (output_word bound.binding.words (output_basis bound.binding.words (map elements_of bases))) order t last → AllByRecursion IsGood last
  one_cut_named order t last steps =
      let g = steps.gate in
      let r : ℕ = rank_in list g.out in
      let inside : g.out < nets bound.net = (gate_inside bound.net g sound.inside (steps.position, steps.at_net)).0 in
      elim (lacks_or r steps.terms) [
        | inl none ↦ (let P : List Step → Type 0 = AllByRecursion IsGood in subst P (sym (steps.are.absent none)) tt)
        | inr some ↦
            let pair = steps.are.present some in
            let is_same : pair.cofactor ≡ cofactors r steps.terms = same_map pair.cofactor (cofactors r steps.terms) pair.reduced.is_map (reduced_cofactors k r steps.terms steps.before.reduced).is_map (λ m. pair.is m ∙ sym (is_cofactor r steps.terms steps.before.reduced.is_map m)) in
            let Q : Terms → Type 0 = λ ts. HasNames labels ts × HasWordNames labels ts in
            let both = subst Q (sym is_same) (named_cofactors count r steps.terms (cut_named t steps.terms steps.before), zero_words (length labels.words) r steps.terms (cut_wordless t steps.terms steps.before)) in
            let P : List Step → Type 0 = AllByRecursion IsGood in
            subst P (sym pair.steps_are) ((((let few = numbers.few in omega (arith, inside, few)), written pair.cofactor pair.reduced both.0 both.1), (inside, driver_found bound.net sound steps.position g steps.at_net)), tt)
      ]

  cuts_named : (order : List ℕ) (t : ℕ) (steps : List Step) → AreStepsTo k mul bound.net list (output_word bound.binding.words (output_basis bound.binding.words (map elements_of bases))) order t steps → AllByRecursion IsGood steps
  cuts_named order zero steps are_steps = let P : List Step → Type 0 = AllByRecursion IsGood in subst P (sym are_steps) tt
  cuts_named order (suc t) steps (front, last, before, own, split) =
      let P : List Step → Type 0 = AllByRecursion IsGood in
      subst P (sym split) (all_append IsGood front last (cuts_named order t front before) (one_cut_named order t last own))

  both_parts : (steps : List Step) → AllByRecursion IsGood steps → AllByRecursion (IsWritablePair labels k) steps × AllByRecursion (λ s. IsOfNet bound.net labels s.0) steps
  both_parts [] all = (tt, tt)
  both_parts (s ∷ steps) all = let more = both_parts steps all.1 in ((all.0.0, more.0), (all.0.1, more.1))

  pub all_named : (claim : Terms) (pairs : List Step) → IsCertificateOf k mul bound bases claim pairs → IsWritableCertificate k bound labels claim pairs
  all_named claim pairs certificate =
      let output = (all_words_is_output c circuit claim).0 certificate.claims in
      let none = no_bits claim output.no_bits in
      let P : ℕ → Type 0 = λ m. InFirstWords m claim in
      let Q : List Step → Type 0 = AllByRecursion IsGood in
      let cuts = certificate.are_cuts in
      let good = subst Q (sym certificate.pairs_are) (all_append IsGood certificate.cuts certificate.words (cuts_named cuts.order (length bound.net.gates) certificate.cuts cuts.are) (word_steps_named k mul ring field bound bases sound one same are labels numbers names words_counted all_counted certificate.words certificate.are_words)) in
      let both = both_parts pairs good in
      record {
        writable = record { claimed = written claim output.reduced (no_names count claim none) (subst P words_counted output.words_alone); each = both.0 };
        no_bits = none;
        generators = both.1;
      }

pub is_named : IsNamed
is_named k mul bound bases labels claim pairs ring field sound one same are numbers names certificate = all_named k mul ring field bound bases sound one same are labels numbers names claim pairs certificate

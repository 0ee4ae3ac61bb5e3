-- Where a word's bits are read from its element, the mix of the words before it is the mix with this word.
use Rattle.std.proofs.Common.{◌≡◌, ◌≢◌, ◌∙◌, ap, sym, subst, inl, inr, ℕ, zero, suc, ◌<◌, ◌≤◌, ◌+◌, ◌*◌, ◌-◌, ◌/◌, ◌%◌, ◌^◌, ◌↔◌, Bool, false, cond, List, [], ◌∷◌, length, take, Some, arith}
use Rattle.std.specs.Prelude.{slice_get, ◌==◌}
use Rattle.std.specs.Int.{bit_at}
use Rattle.std.proofs.lemmas.Nat.Bits.{bit_at-suc, bit_at_lowest}
use Rattle.std.proofs.Math.Seq.{take-length}
use Rattle.std.proofs.lemmas.Bool.{cases_order, ne_eqb}
use Rattle.std.proofs.lemmas.Option.{slice_get_within}
use Rattle.lists.specs.Lists.{Has}
use Rattle.net_core.specs.NetList.{nets}
use Rattle.net_core.specs.Value.{bit_of}
use Rattle.gf_basis.specs.Basis.{AreBits}
use Rattle.circuit_model.specs.Word.{Word, HasElement}
use Rattle.circuit_model.specs.WellFormed.{IsWellFormed}
use Rattle.circuit_model.specs.Circuit.{Circuit}
use Rattle.circuit_model.proofs.WordLemmas.{word_pairs, word_index, same_element}
use Rattle.circuit_model.proofs.GivenLemmas.{Gives}
use Rattle.circuit_model.proofs.SourceLemmas.{source_inside, stands_source}
use Rattle.poly_mixed.specs.Polynomial.{Terms, Point, IsPoint, value}
use Rattle.poly_mixed.specs.Cofactor.{LacksBit, at_bit}
use Rattle.stage_model.specs.Variables.{point_bits, variables_of}
use Rattle.stage_model.specs.Mix.{IsMixedInput, IsMix}
use Rattle.stage_model.specs.Stage.{IsOfStage}
use Rattle.stage_model.specs.WordStage.{with_word, IsRead, IsTermSum}
use Rattle.stage_model.proofs.PointLemmas.{point_bits_at, same_word}
use Rattle.stage_model.proofs.MixLemmas.{one_mix}
use Rattle.stage_model.proofs.SizeLemmas.{lacks}
use Rattle.stage_model.proofs.WordStageLemmas.{with_point, some_read, one_terms}
use Rattle.stage_model.proofs.PlaceLemmas.{place_rank, is_own, is_other}

pairs_at : (ns : List ℕ) (d i n : ℕ) (b : Bool) → slice_get (word_pairs ns d) i ≡ Some (n, b) → (slice_get ns i ≡ Some n) × ((bit_at d i == 1) ≡ b)
pairs_at [] d i n b got = absurd (cc)
pairs_at (m ∷ ns) d zero n b got =
    let same : (m, d % 2 == 1) ≡ (n, b) = cc in
    (ap (λ (q : ℕ × Bool). Some q.0) same, ap (λ x. x == 1) (lowest d) ∙ ap (λ (q : ℕ × Bool). q.1) same)
  where
    lowest : (d : ℕ) → bit_at d 0 ≡ d % 2
    lowest d = bit_at_lowest d
pairs_at (m ∷ ns) d (suc i) n b got =
    let rest = pairs_at ns (d / 2) i n b got in
    (rest.0, ap (λ x. x == 1) (bit_at-suc d i) ∙ rest.1)

module _ (c : Circuit) (well : IsWellFormed c) where
  net_inside : (i : ℕ) (word : Word) → slice_get c.words i ≡ Some word → (n : ℕ) → Has word.nets n → n < nets c.net
  net_inside i word at n has = source_inside c.net well.sound n (stands_source c.net word.role n (well.inner word (i, at)) (well.places word n (i, at) has))

  -- two points with the same bits at the ranks of a word
  same_at_word : (p q : Point) (i x : ℕ) (word : Word) → slice_get c.words i ≡ Some word → ((j : ℕ) → j < c.k → p.is_one (c.k * i + j) ≡ q.is_one (c.k * i + j))
      → HasElement (point_bits (nets c.net) (variables_of c) p) word x → HasElement (point_bits (nets c.net) (variables_of c) q) word x
  same_at_word p q i x word at same is =
      same_word (point_bits (nets c.net) (variables_of c) p) (point_bits (nets c.net) (variables_of c) q) word x
      (λ n has.
      let less = net_inside i word at n has in
      let rank = place_rank c well i has.0 n word at has.1 in
      point_bits_at (nets c.net) (variables_of c) p n less
      ∙ (ap p.is_one rank ∙ (same has.0 (short has.0 n has.1) ∙ (sym (ap q.is_one rank) ∙ sym (point_bits_at (nets c.net) (variables_of c) q n less))))) is
    where
      short : (j n : ℕ) → slice_get word.nets j ≡ Some n → j < c.k
      short j n got = omega (arith, slice_get_within word.nets j n got, (well.words word (i, at)).nets)

  module _ (w d : ℕ) (p : Point) (read : IsRead c w p d) where
    abbrev pub p' : Point
    p' = with_word c.k w d p

    own_bits : HasElement (point_bits (nets c.net) (variables_of c) p') read.word read.element
    own_bits =
        let word = read.word in
        let is = well.words word (w, read.at_word) in
        let long : length word.basis ≡ length word.nets = is.basis.size ∙ sym is.nets in
        let short : d < 2 ^ length word.nets = rw (← long) read.bits.short in
        let gives : Gives (bit_of (point_bits (nets c.net) (variables_of c) (with_word c.k w d p))) (word_pairs word.nets d) = λ n b has.
        let at = pairs_at word.nets d has.0 n b has.1 in
        let less = net_inside w word read.at_word n (has.0, at.0) in
        let low : has.0 < c.k = omega (arith, slice_get_within word.nets has.0 n at.0, is.nets) in
        let rank = place_rank c well w has.0 n word read.at_word at.0 in
        point_bits_at (nets c.net) (variables_of c) (with_word c.k w d p) n less
        ∙ (ap (with_word c.k w d p).is_one rank
        ∙ (ap (λ v. cond v (bit_at d (c.k * w + has.0 - c.k * w) == 1) (p.is_one (c.k * w + has.0))) (is_own c.k w has.0 low)
        ∙ (ap (λ x. bit_at d x == 1) (left (c.k * w) has.0) ∙ at.1))) in
        let P : ℕ → Type 0 = AreBits word.basis read.element in
        record { long = long; sum = subst P (sym (word_index (point_bits (nets c.net) (variables_of c) (with_word c.k w d p)) word.nets d short gives)) read.bits }
      where
        left : (a b : ℕ) → a + b - a ≡ b
        left a b = omega arith

    other_same : (i j : ℕ) → i ≢ w → j < c.k → p'.is_one (c.k * i + j) ≡ p.is_one (c.k * i + j)
    other_same i j other less = ap (λ v. cond v (bit_at d (c.k * i + j - c.k * w) == 1) (p.is_one (c.k * i + j))) (is_other c.k i w j less other)

    forth : (xs : List ℕ) → IsMixedInput c w p' xs → IsMixedInput c (suc w) p xs
    forth xs m = record {
      words = λ i x low got. elim (cases_order i w) [
        | inl same ↦
            let P : ℕ → Type 0 = λ y. slice_get p.words i ≡ Some y in
            let Q : ℕ → Type 0 = λ j. slice_get p.words j ≡ Some read.element in
            subst P (read_is i x same got) (subst Q (sym same) read.at_point)
        | inr other ↦ elim other [ inl less ↦ m.words i x less got | inr high ↦ absurd (omega arith) ]
      ];
      bits = λ i x word high at got. same_at_word (with_word c.k w d p) p i x word at (λ j less. other_same i j (apart i high) less) (m.bits i x word (omega arith) at got);
    }
      where
        apart : (i : ℕ) → suc w ≤ i → i ≢ w
        apart i high same = omega arith

        read_is : (i x : ℕ) → i ≡ w → slice_get xs i ≡ Some x → read.element ≡ x
        read_is i x same got =
            let P : ℕ → Type 0 = λ j. slice_get xs j ≡ Some x in
            let le : w ≤ w = omega arith in
            same_element (point_bits (nets c.net) (variables_of c) (with_word c.k w d p)) read.word read.element x own_bits (m.bits w x read.word le read.at_word (subst P same got))

    back : (xs : List ℕ) → IsMixedInput c (suc w) p xs → IsMixedInput c w p' xs
    back xs m = record {
      words = λ i x low got. m.words i x (omega arith) got;
      bits = λ i x word high at got. elim (cases_order i w) [
        | inl same ↦ own i x word same at got
        | inr other ↦ elim other [
          | inl less ↦ absurd (omega arith)
          | inr more ↦ same_at_word p (with_word c.k w d p) i x word at (λ j less. sym (other_same i j (apart i more) less)) (m.bits i x word (omega arith) at got)
        ]
      ];
    }
      where
        apart : (i : ℕ) → w < i → i ≢ w
        apart i high same = omega arith

        own : (i x : ℕ) (word : Word) → i ≡ w → slice_get c.words i ≡ Some word → slice_get xs i ≡ Some x → HasElement (point_bits (nets c.net) (variables_of c) (with_word c.k w d p)) word x
        own i x word same at got =
            let P : ℕ → Type 0 = λ j. slice_get c.words j ≡ Some word in
            let Q : ℕ → Type 0 = λ j. slice_get xs j ≡ Some x in
            let at_word : slice_get c.words w ≡ Some word = subst P same at in
            let at_word' : slice_get c.words w ≡ Some read.word = read.at_word in
            let at_point : slice_get p.words w ≡ Some x = m.words w x (omega arith) (subst Q same got) in
            let at_point' : slice_get p.words w ≡ Some read.element = read.at_point in
            let word_is : read.word ≡ word = cc in
            let element_is : read.element ≡ x = cc in
            let R : Word → Type 0 = λ v. HasElement (point_bits (nets c.net) (variables_of c) (with_word c.k w d p)) v x in
            let S : ℕ → Type 0 = λ y. HasElement (point_bits (nets c.net) (variables_of c) (with_word c.k w d p)) read.word y in
            subst R word_is (subst S element_is own_bits)

    pub next_mix : (e : ℕ) → IsMix c w p' e ↔ IsMix c (suc w) p e
    next_mix e = ((λ mix. record { xs = mix.xs; mixed = forth mix.xs mix.mixed; output = mix.output }), λ mix. record { xs = mix.xs; mixed = back mix.xs mix.mixed; output = mix.output })

  pub all_terms : (w : ℕ) (ts : Terms) (p : Point) (e : ℕ) → IsPoint c.k p → w < length c.words → IsOfStage c.k c.product (IsMix c w) ts → IsTermSum c w (length ts) p e ↔ IsMix c (suc w) p e
  all_terms w ts p e at less is = (
    (λ sum.
        let same = one_terms c well w sum.terms ts sum.before is in
        let value_is : value c.product (with_word c.k w sum.d p) ts ≡ e =
        (λ i. value c.product (with_word c.k w sum.d p) (sym (take-length ts) i)) ∙ ((λ i. value c.product (with_word c.k w sum.d p) (take (length ts) (sym same i))) ∙ sum.element) in
        let P : ℕ → Type 0 = λ x. IsMix c (suc w) p x in
        subst P value_is ((next_mix w sum.d p sum.read (value c.product (with_word c.k w sum.d p) ts)).0 (is.values (with_word c.k w sum.d p) (with_point c.k c.k w sum.d p at)))),
    λ mix.
        let read = some_read c well w p at less in
        let before : IsMix c w (with_word c.k w read.0 p) e = (next_mix w read.0 p read.1 e).1 mix in
        let value_is : value c.product (with_word c.k w read.0 p) ts ≡ e = one_mix c well w (with_word c.k w read.0 p) (value c.product (with_word c.k w read.0 p) ts) e (is.values (with_word c.k w read.0 p) (with_point c.k c.k w read.0 p at)) before in
        record { terms = ts; before = is; d = read.0; read = read.1; element = (λ i. value c.product (with_word c.k w read.0 p) (take-length ts i)) ∙ value_is },
  )

  -- mix w does not depend on bits but those of the words from w on
  blind_mix : (w rank : ℕ) → ((i j : ℕ) → w ≤ i → i < length c.words → j < c.k → c.k * i + j ≢ rank) → (p : Point) (e : ℕ) → IsMix c w p e → IsMix c w (at_bit p rank false) e
  blind_mix w rank apart p e mix = record {
    xs = mix.xs;
    mixed = record {
      words = mix.mixed.words;
      bits = λ i x word high at got. same_at_word p (at_bit p rank false) i x word at
          (λ j less. sym (ap (λ v. cond v false (p.is_one (c.k * i + j))) (ne_eqb (c.k * i + j) rank (apart i j high (slice_get_within c.words i word at) less)))) (mix.mixed.bits i x word high at got);
    };
    output = mix.output;
  }

  pub mix_lacks : (w rank : ℕ) (ts : Terms) → ((i j : ℕ) → w ≤ i → i < length c.words → j < c.k → c.k * i + j ≢ rank) → IsOfStage c.k c.product (IsMix c w) ts → LacksBit rank ts
  mix_lacks w rank ts apart is = lacks c.k c.product well.ring well.no_zero_divisors (IsMix c w) (λ p x y at a b. one_mix c well w p x y a b) rank ts is (λ p e at mix. blind_mix w rank apart p e mix)

-- Words replaced one after the other: the values stay, and in the end words alone stand in the polynomial.
use Rattle.std.proofs.Common.{◌≡◌, ◌∙◌, ap, sym, refl, subst, inl, inr, ℕ, zero, suc, ◌<◌, ◌≤◌, ◌+◌, ◌*◌, ◌-◌, ◌==◌, Bool, true, false, cond, not, ◌&&◌, nat_eq, List, [], ◌∷◌, ◌++◌, length, drop, slice_index, bit_xor, Option, Some, mul-suc, mul-zero, arith}
use Rattle.std.specs.Prelude.{slice_get, nat_le, nat_lt}
use Rattle.std.specs.Int.{bit_at}
use Rattle.std.specs.List.{list_all}
use Rattle.std.proofs.Math.Seq.{take-length}
use Rattle.std.proofs.lemmas.Bool.{eq-eqb, ne_eqb, cases_lt}
use Rattle.std.proofs.lemmas.Bool.Decides.{nat_tests}
use Rattle.std.proofs.lemmas.List.{length-append}
use Rattle.std.proofs.lemmas.Option.{slice_get_within}
use mathlib.Core.Path.{fun_ext}
use Rattle.lists.specs.Lists.{Has}
use Rattle.lists.specs.laws.NumberLaws.{nat_eq_or, less_and_back}
use Rattle.gf_field.specs.Ring.{IsRing}
use Rattle.gf_field.specs.Field.{HasNoZeroDivisors}
use Rattle.gf_field.specs.Power.{power}
use Rattle.gf_basis.specs.Basis.{AreBits, IsBasis}
use Rattle.poly_mixed.specs.Polynomial.{Terms, Point, IsPoint, IsReduced, powers, value}
use Rattle.poly_mixed.specs.Cofactor.{LacksBit, at_bit, lacking}
use Rattle.poly_mixed.specs.Steps.{Step}
use Rattle.poly_mixed.specs.laws.Uniqueness.{IsZeros, InFirstWords}
use Rattle.poly_mixed.specs.declared.stage.ReduceFault.{ReduceFault}
use Rattle.poly_mixed.specs.declared.stage.ReduceFault.TheVariants.{TooManyTerms, OutOfMemory}
use Rattle.poly_mixed.proofs.CofactorLemmas.{value-lacking}
use Rattle.poly_mixed.proofs.FieldLaws.{IsField, field_of}
use Rattle.poly_mixed.proofs.FirstWordLemmas.{first_words, first_point, is_first_point, first_alone}
use Rattle.poly_mixed.proofs.RecorderLemmas.{tells_none, tells_more}
use Rattle.poly_mixed.proofs.UniquenessLemmas.{zero_powers}
use Rattle.circuit_model.specs.Word.{Word, word_nets}
use Rattle.circuit_model.specs.Circuit.{Circuit}
use Rattle.circuit_model.specs.WellFormed.{IsWellFormed}
use Rattle.stage_model.specs.PlainWord.{IsSumOf}
use Rattle.stage_model.specs.WordStage.{is_of_word, with_word}
use Rattle.stage_model.proofs.MixLemmas.{mix_none}
use Rattle.stage_model.proofs.OutputInBitsLemmas.{last_is_output}
use Rattle.stage_model.proofs.SizeLemmas.{is_unique, lacks}
use Rattle.stage_model.proofs.WordPolyLemmas.{own_range}
use Rattle.word_subst.specs.InWords.{IsInWordBits, IsInWords, HasBitsOfWord, HasBitsTo, HasValuesOfBits, AreReplacedTo, AreReplaced, IsReplaced, IsReplaceRefusal, HoldsPairsTo}
use Rattle.word_subst.specs.Read.{AreTermsWithin}
use Rattle.word_subst.specs.ReadRefusal.{IsWordRefusal}
use Rattle.word_subst.specs.ReadSteps.{AreReadSteps, TellsTerms}
use Rattle.word_subst.specs.WordStages.{IsOfNoWords}
use Rattle.word_subst.proofs.SpreadLemmas.{word_element}

-- ---- values that look at part of a point

-- a polynomial that lacks a bit has the same value with another bit there
lacked : (mul : ℕ → ℕ → ℕ) (p : Point) (rank : ℕ) (ts : Terms) → LacksBit rank ts → value mul (at_bit p rank false) ts ≡ value mul p ts
lacked mul p rank ts none = sym (value-lacking mul p rank ts) ∙ ap (value mul p) (kept ts none)
  where
    kept : (us : Terms) → LacksBit rank us → lacking rank us ≡ us
    kept [] all = refl
    kept (u ∷ us) all = ap (λ b. cond (not b) (u ∷ lacking rank us) (lacking rank us)) all.0 ∙ ap (λ vs. u ∷ vs) (kept us all.1)

first_index : (w : ℕ) (ws : List ℕ) → slice_index (first_words (suc w) ws) w ≡ slice_index ws w
first_index zero [] = refl
first_index zero (v ∷ ws) = refl
first_index (suc w) [] = refl
first_index (suc w) (v ∷ ws) = first_index w ws

-- a polynomial in the first w words has the same value without the words after the next one
module _ {k : ℕ} {mul : ℕ → ℕ → ℕ} (f : IsField k mul) where
  early_powers : (w : ℕ) (es ws : List ℕ) → IsZeros (drop w es) → powers mul es (first_words (suc w) ws) ≡ powers mul es ws
  early_powers zero es ws none = zero_powers f es (first_words 1 ws) none ∙ sym (zero_powers f es ws none)
  early_powers (suc w) [] ws none = refl
  early_powers (suc w) (e ∷ es) [] none = refl
  early_powers (suc w) (e ∷ es) (v ∷ ws) none = ap (mul (power mul v e)) (early_powers w es ws none)

  early_value : (w : ℕ) (p : Point) (ts : Terms) → InFirstWords w ts → value mul (first_point (suc w) p) ts ≡ value mul p ts
  early_value w p [] all = refl
  early_value w p (t ∷ ts) all = λ i. bit_xor (cond (list_all p.is_one t.0.bits) (mul t.1 (early_powers w t.0.exponents p.words all.0 i)) 0) (early_value w p ts all.1 i)

-- ---- one word

module _ (k : ℕ) (mul : ℕ → ℕ → ℕ) (ring : IsRing k mul) (field : HasNoZeroDivisors k mul) (elements : List ℕ) (basis : IsBasis k elements) (w : ℕ) (inside : w < 8) (before ts : Terms) (sum : IsSumOf k mul elements w before (length before) ts) where
  bits_at : (p : Point) → IsPoint k p → (d : ℕ) × AreBits elements (slice_index p.words w) d
  bits_at p at = let only = basis.sums (slice_index p.words w) (word_element (field_of k mul ring field) p w at inside) in (only.choice, only.chosen)

  value_at : (p : Point) (d : ℕ) → IsPoint k p → AreBits elements (slice_index p.words w) d → value mul p ts ≡ value mul (with_word k w d p) before
  value_at p d at bits = sum.values p d at bits ∙ ap (value mul (with_word k w d p)) (take-length before)

  lacks_if : (rank : ℕ) → ((p : Point) (d : ℕ) → value mul (with_word k w d (at_bit p rank false)) before ≡ value mul (with_word k w d p) before) → LacksBit rank ts
  lacks_if rank blind =
      lacks k mul ring field (λ p e. value mul p ts ≡ e) (λ p x y at a b. sym a ∙ b) rank ts (record { reduced = sum.reduced; values = λ p at. refl })
      (λ p x at is.
      let d = bits_at p at in
      value_at (at_bit p rank false) d.0 (record { words = at.words; elements = at.elements }) d.1 ∙ (blind p d.0 ∙ (sym (value_at p d.0 at d.1) ∙ is)))

  -- no bit of the word is left
  lacks_own : (rank : ℕ) → is_of_word k w rank ≡ true → LacksBit rank ts
  lacks_own rank own =
      lacks_if rank (λ p d.
      let e : (with_word k w d (at_bit p rank false)).is_one ≡ (with_word k w d p).is_one = fun_ext (same p d) in
      ap (λ (q : ℕ → Bool). value mul (record { words = p.words; is_one = q }) before) e)
    where
      other : (r : ℕ) → is_of_word k w r ≡ false → r ≡ rank → ⊥
      other r e is = let P : ℕ → Type 0 = λ x. is_of_word k w x ≡ false in let bad : is_of_word k w rank ≡ false = subst P is e in absurd (cc)

      same : (p : Point) (d r : ℕ) → (with_word k w d (at_bit p rank false)).is_one r ≡ (with_word k w d p).is_one r
      same p d r =
          elim (is_of_word k w r) as (λ v. is_of_word k w r ≡ v → cond v (bit_at d (r - k * w) == 1) (cond (nat_eq r rank) false (p.is_one r)) ≡ cond v (bit_at d (r - k * w) == 1) (p.is_one r)) [
            | true ↦ λ e. refl
            | false ↦ λ e. ap (λ b. cond b false (p.is_one r)) (ne_eqb r rank (other r e))
          ] refl

  -- no other bit comes in
  lacks_other : (rank : ℕ) → is_of_word k w rank ≡ false → LacksBit rank before → LacksBit rank ts
  lacks_other rank other none =
      lacks_if rank (λ p d.
      let e : (with_word k w d (at_bit p rank false)).is_one ≡ (at_bit (with_word k w d p) rank false).is_one = fun_ext (turned p d) in
      ap (λ (q : ℕ → Bool). value mul (record { words = p.words; is_one = q }) before) e ∙ lacked mul (with_word k w d p) rank before none)
    where
      turned : (p : Point) (d r : ℕ) → (with_word k w d (at_bit p rank false)).is_one r ≡ (at_bit (with_word k w d p) rank false).is_one r
      turned p d r =
          let x : Bool = bit_at d (r - k * w) == 1 in
          elim (nat_eq_or r rank) [
            | inl same ↦
                let P : ℕ → Type 0 = λ y. is_of_word k w y ≡ false in
                let out : is_of_word k w r ≡ false = subst P (sym same) other in
                let here : nat_eq r rank ≡ true = eq-eqb r rank same in
                (λ i. cond (out i) x (cond (here i) false (p.is_one r))) ∙ sym (ap (λ b. cond b false (cond (is_of_word k w r) x (p.is_one r))) here)
            | inr apart ↦
                let there : nat_eq r rank ≡ false = ne_eqb r rank apart in
                ap (λ b. cond (is_of_word k w r) x (cond b false (p.is_one r))) there ∙ sym (ap (λ b. cond b false (cond (is_of_word k w r) x (p.is_one r))) there)
          ]

  -- no other word does
  next_words : InFirstWords w before → InFirstWords (suc w) ts
  next_words alone =
      let f = field_of k mul ring field in
      first_alone f (is_unique k mul ring field) (suc w) ts sum.reduced
      (λ p at.
      let d = bits_at p at in
      let D : ℕ → Type 0 = λ x. AreBits elements x d.0 in
      value_at (first_point (suc w) p) d.0 (is_first_point f (suc w) p at) (subst D (sym (first_index w p.words)) d.1)
      ∙ (early_value f w (with_word k w d.0 p) before alone ∙ sym (value_at p d.0 at d.1)))

-- ---- all words

-- where a point has a word's bits, a polynomial has the same value with these bits
same_point : (k : ℕ) (mul : ℕ → ℕ → ℕ) (elements : List ℕ) (w : ℕ) (p : Point) (has : HasBitsOfWord k elements w p) (ts : Terms) → value mul (with_word k w has.bits p) ts ≡ value mul p ts
same_point k mul elements w p has ts =
    let e : (with_word k w has.bits p).is_one ≡ p.is_one = fun_ext at in
    ap (λ (q : ℕ → Bool). value mul (record { words = p.words; is_one = q }) ts) e
  where
    short : (b r : ℕ) → r < b + k → b ≤ r → r - b < k
    short b r high low = omega arith

    own : (r : ℕ) → is_of_word k w r ≡ true → (bit_at has.bits (r - k * w) == 1) ≡ p.is_one r
    own r e =
        let range = own_range k w r e in
        sym (has.at_ranks (r - k * w) (short (k * w) r range.1 range.0)) ∙ ap p.is_one (less_and_back (k * w) r range.0)

    at : (r : ℕ) → (with_word k w has.bits p).is_one r ≡ p.is_one r
    at r = elim (is_of_word k w r) as (λ v. is_of_word k w r ≡ v → cond v (bit_at has.bits (r - k * w) == 1) (p.is_one r) ≡ p.is_one r) [ true ↦ λ e. own r e | false ↦ λ e. refl ] refl

-- there are as many nets of words as bits
nets_long : (k : ℕ) (ws : List Word) → ((v : Word) → Has ws v → length v.nets ≡ k) → length (word_nets ws) ≡ k * length ws
nets_long k [] each = omega arith
nets_long k (v ∷ ws) each = length-append v.nets (word_nets ws) ∙ omega (arith, each v (0, refl), nets_long k ws (λ u has. each u (suc has.0, has.1)), mul-suc k (length ws))

module _ (c : Circuit) (well : IsWellFormed c) (bits : Terms) (bound : ℕ) where
  few : (w : ℕ) (before ts : Terms) → IsReplaced c bits bound w before ts → w < 8
  few w before ts one = omega (arith, slice_get_within c.words w one.word one.at, well.few)

  basis_of : (w : ℕ) (before ts : Terms) (one : IsReplaced c bits bound w before ts) → IsBasis c.k one.word.basis
  basis_of w before ts one = (well.words one.word (w, one.at)).basis

  -- the values stay where the point has the bits of its elements
  values_to : (w : ℕ) (ts : Terms) → AreReplacedTo c bits bound w ts → (p : Point) → IsPoint c.k p → HasBitsTo c w p → value c.product p ts ≡ value c.product p bits
  values_to zero ts are p at has = ap (value c.product p) are
  values_to (suc w) ts are p at has =
      let one = are.2 in
      let own = has w one.word (omega arith) one.at in
      value_at c.k c.product well.ring well.no_zero_divisors one.word.basis (basis_of w are.0 ts one) w (few w are.0 ts one) are.0 ts one.sum p own.bits at own.are
      ∙ (same_point c.k c.product one.word.basis w p own are.0 ∙ values_to w are.0 are.1 p at (λ v word less got. has v word (omega arith) got))

  -- a bit that does not stand in the beginning stands nowhere
  lacks_to : (w : ℕ) (ts : Terms) → AreReplacedTo c bits bound w ts → (rank : ℕ) → LacksBit rank bits → LacksBit rank ts
  lacks_to zero ts are rank none = subst (LacksBit rank) (sym are) none
  lacks_to (suc w) ts are rank none =
      let one = are.2 in
      elim (is_of_word c.k w rank) as (λ v. is_of_word c.k w rank ≡ v → LacksBit rank ts) [
        | true ↦ λ e. lacks_own c.k c.product well.ring well.no_zero_divisors one.word.basis (basis_of w are.0 ts one) w (few w are.0 ts one) are.0 ts one.sum rank e
        | false ↦ λ e. lacks_other c.k c.product well.ring well.no_zero_divisors one.word.basis (basis_of w are.0 ts one) w (few w are.0 ts one) are.0 ts one.sum rank e (lacks_to w are.0 are.1 rank none)
      ] refl

  -- a bit of the words that are replaced stands nowhere
  gone_to : (w : ℕ) (ts : Terms) → AreReplacedTo c bits bound w ts → (rank : ℕ) → rank < c.k * w → LacksBit rank ts
  gone_to zero ts are rank less = absurd (omega (arith, less, mul-zero c.k))
  gone_to (suc w) ts are rank less =
      let one = are.2 in
      elim (cases_lt rank (c.k * w)) [
        | inl low ↦
            elim (is_of_word c.k w rank) as (λ v. is_of_word c.k w rank ≡ v → LacksBit rank ts) [
              | true ↦ λ e. lacks_own c.k c.product well.ring well.no_zero_divisors one.word.basis (basis_of w are.0 ts one) w (few w are.0 ts one) are.0 ts one.sum rank e
              | false ↦ λ e. lacks_other c.k c.product well.ring well.no_zero_divisors one.word.basis (basis_of w are.0 ts one) w (few w are.0 ts one) are.0 ts one.sum rank e (gone_to w are.0 are.1 rank low)
            ] refl
        | inr high ↦
            lacks_own c.k c.product well.ring well.no_zero_divisors one.word.basis (basis_of w are.0 ts one) w (few w are.0 ts one) are.0 ts one.sum rank (own (c.k * w) high (omega (arith, less, mul-suc c.k w)))
      ]
    where
      own : (b : ℕ) → b ≤ rank → rank < b + c.k → (nat_le b rank && nat_lt rank (b + c.k)) ≡ true
      own b low high = grind (arith, nat_tests)

  words_to : (w : ℕ) (ts : Terms) → AreReplacedTo c bits bound w ts → IsInWordBits c bits → InFirstWords w ts
  words_to zero ts are is = subst (InFirstWords 0) (sym are) is.bits_alone
  words_to (suc w) ts are is =
      let one = are.2 in
      next_words c.k c.product well.ring well.no_zero_divisors one.word.basis (basis_of w are.0 ts one) w (few w are.0 ts one) are.0 ts one.sum (words_to w are.0 are.1 is)

  pub reduced_to : (w : ℕ) (ts : Terms) → AreReplacedTo c bits bound w ts → IsInWordBits c bits → IsReduced c.k ts
  reduced_to zero ts are is = subst (IsReduced c.k) (sym are) is.reduced
  reduced_to (suc w) ts are is = are.2.sum.reduced

  pub has_values : (ts : Terms) → AreReplaced c bits bound ts → HasValuesOfBits c bits ts
  has_values ts are p at has = values_to (length c.words) ts are p at has

  pub in_words : (ts : Terms) → AreReplaced c bits bound ts → IsInWordBits c bits → IsInWords c ts
  in_words ts are is = record {
    reduced = reduced_to (length c.words) ts are is;
    words_alone = words_to (length c.words) ts are is;
    no_bits = λ rank some. elim (cases_lt rank (c.k * length c.words)) [
      | inl low ↦ gone_to (length c.words) ts are rank low
      | inr high ↦ lacks_to (length c.words) ts are rank (is.words_alone rank (omega (arith, high, nets_long c.k c.words (λ v has. (well.words v has).nets))))
    ];
  }

  -- one word more
  pub replaced_more : (w : ℕ) (word : Word) → slice_get c.words w ≡ Some word → (elements : List ℕ) → word.basis ≡ elements → (before ts : Terms) → AreReplacedTo c bits bound w before
      → IsSumOf c.k c.product elements w before (length before) ts → AreTermsWithin c.k c.product elements w before (length before) bound → AreReplacedTo c bits bound (w + 1) ts
  replaced_more w word at elements basis before ts are sum within =
      let up : suc w ≡ w + 1 = omega arith in
      let P : ℕ → Type 0 = λ n. AreReplacedTo c bits bound n ts in
      let S : List ℕ → Type 0 = λ es. IsSumOf c.k c.product es w before (length before) ts in
      let W : List ℕ → Type 0 = λ es. AreTermsWithin c.k c.product es w before (length before) bound in
      subst P up (before, are, record { word = word; at = at; sum = subst S (sym basis) sum; within = subst W (sym basis) within })

  pub refused_here : (w : ℕ) (word : Word) → slice_get c.words w ≡ Some word → (elements : List ℕ) → word.basis ≡ elements → (before : Terms) → AreReplacedTo c bits bound w before
      → (fault : ReduceFault) → IsWordRefusal c.k c.product elements w before bound fault → IsReplaceRefusal c bits bound fault
  refused_here w word at elements basis before are OutOfMemory is = tt
  refused_here w word at elements basis before are (TooManyTerms stage n) is =
      let P : List ℕ → Type 0 = λ es. IsWordRefusal c.k c.product es w before bound (TooManyTerms stage n) in
      record { w = w; word = word; at = at; before = before; replaced = are; over = subst P (sym basis) is }

  -- the pairs so far
  pub no_pairs : (old : Option (List Step)) → HoldsPairsTo c bits bound 0 old old
  no_pairs old = record { steps = []; are = refl; told = tells_none old }

  pub more_pairs : (w : ℕ) (word : Word) → slice_get c.words w ≡ Some word → (elements : List ℕ) → word.basis ≡ elements → (before : Terms) → AreReplacedTo c bits bound w before
      → (old mid new : Option (List Step)) → HoldsPairsTo c bits bound w old mid → TellsTerms c.k c.product elements w before mid new → HoldsPairsTo c bits bound (w + 1) old new
  more_pairs w word at elements basis before replaced old mid new so_far tells =
      let up : suc w ≡ w + 1 = omega arith in
      let P : ℕ → Type 0 = λ n. HoldsPairsTo c bits bound n old new in
      let S : List ℕ → Type 0 = λ es. AreReadSteps c.k c.product es w before tells.steps in
      subst P up (record {
        steps = so_far.steps ++ tells.steps;
        are = (so_far.steps, tells.steps, so_far.are, record { word = word; at = at; before = before; replaced = replaced; are = subst S (sym basis) tells.are }, refl);
        told = tells_more old mid new so_far.steps tells.steps so_far.told tells.told;
      })

-- the polynomial of the mix of no words is in the bits of words alone
pub no_words_in_bits : (c : Circuit) → IsWellFormed c → c.net.latches ≡ [] → (ts : Terms) → IsOfNoWords c ts → IsInWordBits c ts
no_words_in_bits c well flat ts is =
    let output = (last_is_output c well flat ts).0 (record { reduced = is.reduced; values = λ p at. (mix_none c well flat p (value c.product p ts) at).0 (is.values p at) }) in
    record { reduced = output.reduced; bits_alone = output.bits_alone; words_alone = output.words_alone }

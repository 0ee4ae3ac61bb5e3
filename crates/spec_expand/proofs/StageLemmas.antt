-- Functions of the input as stages, and the stages of a specification as those of a sum whose words are fed in their bits.
use Rattle.std.proofs.Common.{◌≡◌, ◌≢◌, ◌∙◌, ap, sym, refl, subst, inl, inr, ℕ, suc, ◌<◌, ◌^◌, false, List, [], ◌∷◌, ◌++◌, length, map, take, Some, arith}
use Rattle.std.specs.Prelude.{slice_get, slice_index}
use Rattle.std.specs.List.{AllByRecursion}
use Rattle.std.specs.Option.{option_map}
use Rattle.std.proofs.lemmas.Option.{get_or_from_slice_get, slice_get-map, slice_get_within}
use Rattle.lists.specs.laws.ListLaws.{length_map}
use Rattle.lists.specs.laws.ReadLaws.{from_map, got_push, same_lists}
use Rattle.poly_mixed.specs.Polynomial.{Terms, Point, IsPoint, IsPolynomialOf, IsReduced, value}
use Rattle.poly_mixed.specs.declared.stage.Stage.{Stage}
use Rattle.poly_mixed.specs.declared.stage.Stage.TheVariants.{Cut, WordProduct, WordSum, SpecProduct, SpecSum, InstanceProduct, InstanceSum}
use Rattle.circuit_model.specs.Circuit.{Circuit, IsInput}
use Rattle.circuit_model.specs.WellFormed.{IsWellFormed}
use Rattle.stage_model.specs.InputPoint.{IsAtInput}
use Rattle.stage_model.specs.Mix.{IsMixedInput}
use Rattle.stage_model.specs.Stage.{IsOfStage}
use Rattle.stage_model.specs.Listing.{AreAllWithin}
use Rattle.stage_model.proofs.BlindLemmas.{other_bits}
use Rattle.stage_model.proofs.MixLemmas.{some_mixed_input, one_mixed_input}
use Rattle.stage_model.proofs.SizeLemmas.{lacks, wordless_stage}
use Rattle.term_expand.specs.declared.stage.SumFault.{SumFault}
use Rattle.term_expand.specs.declared.stage.SumFault.TheVariants as faults
use Rattle.term_expand.specs.declared.stage.SumStage.{SumStage}
use Rattle.term_expand.specs.declared.stage.SumStage.TheVariants.{TermProduct, TermSum}
use Rattle.term_expand.specs.Sums.{IsFedSum}
use Rattle.term_expand.specs.Feeds.{feed_values, AreReduced}
use Rattle.term_expand.specs.SumListing.{is_earlier_sum_stage, is_sum_stage, sum_listing, sum_stage_of, IsAtFeeds, IsSumOver}
use Rattle.term_expand.proofs.RenamedLemmas.{all_within_there, over_there, IsRenamed}
use Rattle.spec_expand.specs.Specification.{SpecTerms, IsOverWords, IsTermOver}
use Rattle.spec_expand.specs.SpecValue.{spec_at, product_at}
use Rattle.spec_expand.specs.SpecListing.{IsAtPoint, IsSpecRefusal, is_spec_stage, spec_stage_of, is_earlier_spec_stage, spec_listing}
use Rattle.spec_expand.specs.Expanded.{IsExpansion, IsSpecExpansion}
use Rattle.spec_expand.specs.private.Expanding.{AreOfWords, AreWordsInBits, IsOfInput}
use Rattle.spec_expand.specs.private.Names.{spec_fault, spec_stage}

module _ (c : Circuit) (well : IsWellFormed c) where
  -- ---- one function of the input

  as_mixed : (p : Point) (xs : List ℕ) → IsAtInput c xs p → IsMixedInput c 0 p xs
  as_mixed p xs at = record { words = λ i x low got. absurd (omega (arith, low)); bits = λ i x w low got here. at i w x got here tt }

  pub only_at : (h : List ℕ → ℕ) (p : Point) (e other : ℕ) → IsAtPoint c h p e → IsAtPoint c h p other → e ≡ other
  only_at h p e other a b =
      let same = one_mixed_input c 0 p a.xs b.xs a.input b.input (as_mixed p a.xs a.at) (as_mixed p b.xs b.at) in
      sym a.value ∙ ap h same ∙ b.value

  pub some_at : (h : List ℕ → ℕ) (p : Point) → IsPoint c.k p → ((xs : List ℕ) → IsInput c xs → h xs < 2 ^ c.k) → (e : ℕ) × IsAtPoint c h p e × (e < 2 ^ c.k)
  some_at h p at less =
      let found = some_mixed_input c well 0 p at in
      (h found.0, record { xs = found.0; input = found.1; at = λ i w x got here any. found.2.bits i x w (omega arith) got here; value = refl }, less found.0 found.1)

  -- a polynomial of the function is one of the stage
  of_stage : (h : List ℕ → ℕ) (ts : Terms) → IsOfInput c h ts → IsOfStage c.k c.product (IsAtPoint c h) ts
  of_stage h ts is = record {
    reduced = is.reduced;
    values = λ p at.
        let found = some_mixed_input c well 0 p at in
        let there : IsAtInput c found.0 p = λ i w x got here any. found.2.bits i x w (omega arith) got here in
        record { xs = found.0; input = found.1; at = there; value = sym (is.values p found.0 at found.1 there) };
  }

  -- it stands in the bits of the words alone
  pub expansion : (h : List ℕ → ℕ) (ts : Terms) → IsOfInput c h ts → IsExpansion c h ts
  expansion h ts is = record {
    reduced = is.reduced;
    bits_alone = wordless_stage c.k c.product well.ring well.no_zero_divisors (IsAtPoint c h) (λ p x y at a b. only_at h p x y a b) ts (of_stage h ts is)
        (λ p x at a. record { xs = a.xs; input = a.input; at = a.at; value = a.value });
    words_alone = λ rank high.
        lacks c.k c.product well.ring well.no_zero_divisors (IsAtPoint c h) (λ p x y at a b. only_at h p x y a b) rank ts (of_stage h ts is)
        (λ p x at a. record { xs = a.xs; input = a.input; at = other_bits c well p rank false a.xs high a.at; value = a.value });
    values = is.values;
  }

-- ---- what feeds a specification

-- each term of a specification over so many words is fed by as many
pub fed_spec : (k words : ℕ) (spec : SpecTerms) → IsOverWords k words spec → IsFedSum k words spec
fed_spec k words [] all = tt
fed_spec k words (t ∷ ts) all = (record { element = all.0.element; powers = fed t.1 all.0.powers }, fed_spec k words ts all.1)
  where
    fed : (ps : List (ℕ × ℕ)) → AllByRecursion (λ (p : ℕ × ℕ). (p.0 < words) × (p.1 < 2 ^ 64)) ps → AllByRecursion (λ (p : ℕ × ℕ). (p.1 < 2 ^ 64) × (p.1 ≢ 0 → p.0 < words)) ps
    fed [] all = tt
    fed (p ∷ ps) all = ((all.0.1, λ some. all.0.0), fed ps all.1)

-- the words in their bits are reduced
pub words_reduced : (c : Circuit) (feeds : List Terms) → AreOfWords c feeds → AreReduced c.k feeds
words_reduced c feeds each = from feeds (λ w ts got. (each w ts got).reduced)
  where
    from : (us : List Terms) → ((w : ℕ) (ts : Terms) → slice_get us w ≡ Some ts → IsReduced c.k ts) → AreReduced c.k us
    from [] all = tt
    from (us ∷ more) all = (all 0 us refl, from more (λ w ts got. all (suc w) ts got))

-- one word more
pub of_words_more : (c : Circuit) (words new : List Terms) (n : ℕ) (ts : Terms) → new ≡ words ++ ts ∷ [] → length words ≡ n → AreOfWords c words → IsOfInput c (λ xs. slice_index xs n) ts → AreOfWords c new
of_words_more c words new n ts e long are is w us got =
    let P : List Terms → Type 0 = λ vs. slice_get vs w ≡ Some us in
    elim (got_push words ts w us (subst P e got)) [
      | inl there ↦ are w us there.0
      | inr here ↦
          let Q : Terms → Type 0 = λ vs. IsOfInput c (λ xs. slice_index xs w) vs in
          let R : ℕ → Type 0 = λ v. IsOfInput c (λ xs. slice_index xs v) ts in
          subst Q (sym here.1) (subst R (sym (here.0 ∙ long)) is)
    ]

-- ---- the stages of a specification

stage_named : (spec : SpecTerms) (name : Stage) → is_spec_stage spec name → (stage : SumStage) × is_sum_stage spec stage × (spec_stage stage ≡ name)
stage_named spec (SpecProduct s j) listed = (TermProduct s j, listed, refl)
stage_named spec (SpecSum s) listed = (TermSum s, listed, refl)
stage_named spec (Cut t) listed = absurd listed
stage_named spec (WordProduct w s j) listed = absurd listed
stage_named spec (WordSum w s) listed = absurd listed
stage_named spec (InstanceProduct i s j) listed = absurd listed
stage_named spec (InstanceSum i s) listed = absurd listed

stage_listed : (spec : SpecTerms) (stage : SumStage) → is_sum_stage spec stage → is_spec_stage spec (spec_stage stage)
stage_listed spec (TermProduct s j) listed = listed
stage_listed spec (TermSum s) listed = listed

stage_before : (stage other : SumStage) → is_earlier_spec_stage (spec_stage stage) (spec_stage other) → is_earlier_sum_stage stage other
stage_before (TermProduct r i) (TermProduct s j) earlier = earlier
stage_before (TermProduct r i) (TermSum s) earlier = earlier
stage_before (TermSum r) (TermProduct s j) earlier = earlier
stage_before (TermSum r) (TermSum s) earlier = earlier

module _ (c : Circuit) (well : IsWellFormed c) (feeds : List Terms) (are : AreWordsInBits c feeds) where
  -- at a point that has the bits of an input the feeds have the input's elements
  elements_are : (p : Point) (xs : List ℕ) → IsPoint c.k p → IsInput c xs → IsAtInput c xs p → feed_values c.product feeds p ≡ xs
  elements_are p xs at input here = same_lists (map (value c.product p) feeds) xs (length_map (value c.product p) feeds ∙ are.long ∙ sym input.long) same
    where
      same : (w a b : ℕ) → slice_get (map (value c.product p) feeds) w ≡ Some a → slice_get xs w ≡ Some b → a ≡ b
      same w a b got got' =
          let found = from_map (value c.product p) feeds w a got in
          sym found.2 ∙ (are.each w found.0 found.1).values p xs at input here ∙ get_or_from_slice_get xs w b 0 got'

  -- a polynomial at the feeds is one of the function of the input
  of_input : (h : List ℕ → ℕ) (ts : Terms) → IsPolynomialOf c.k c.product (λ p. h (feed_values c.product feeds p)) ts → IsOfInput c h ts
  of_input h ts is = record { reduced = is.reduced; values = λ p xs at input here. is.values p at ∙ ap h (elements_are p xs at input here) }

  at_point : (h : List ℕ → ℕ) (p : Point) (e : ℕ) → IsPoint c.k p → IsAtFeeds (feed_values c.product feeds) h p e → IsAtPoint c h p e
  at_point h p e at is =
      let found = some_mixed_input c well 0 p at in
      let there : IsAtInput c found.0 p = λ i w x got here any. found.2.bits i x w (omega arith) got here in
      record { xs = found.0; input = found.1; at = there; value = ap h (sym (elements_are p found.0 at found.1 there)) ∙ is }

  related : (spec : SpecTerms) (stage : SumStage) (p : Point) (e : ℕ) → is_sum_stage spec stage → IsPoint c.k p → sum_stage_of c.product (feed_values c.product feeds) spec stage p e → spec_stage_of c spec (spec_stage stage) p e
  related spec (TermProduct s j) p e listed at is = record { place = is.place; term = is.term; number = is.number; at = is.at; is = at_point (λ xs. product_at c.product xs is.term j) p e at is.is }
  related spec (TermSum s) p e listed at is = at_point (λ xs. spec_at c.product xs (take s spec)) p e at is

  renamed : (spec : SpecTerms) → IsRenamed c.k (sum_listing c.product (feed_values c.product feeds) spec) (spec_listing c spec) spec_stage
  renamed spec = record { listed = stage_listed spec; named = stage_named spec; related = related spec; before = stage_before }

  pub spec_expanded : (spec : SpecTerms) (ts : Terms) → IsPolynomialOf c.k c.product (λ p. spec_at c.product (feed_values c.product feeds p) spec) ts → IsSpecExpansion c spec ts
  spec_expanded spec ts is = expansion c well (λ xs. spec_at c.product xs spec) ts (of_input (λ xs. spec_at c.product xs spec) ts is)

  pub spec_within : (spec : SpecTerms) (bound : ℕ) → AreAllWithin c.k c.product (sum_listing c.product (feed_values c.product feeds) spec) bound → AreAllWithin c.k c.product (spec_listing c spec) bound
  spec_within spec bound all = all_within_there c.k c.product (sum_listing c.product (feed_values c.product feeds) spec) (spec_listing c spec) spec_stage bound (renamed spec) all

  pub spec_refused : (spec : SpecTerms) (bound : ℕ) (fault : SumFault) → IsSumOver c.k c.product (feed_values c.product feeds) spec bound fault → IsSpecRefusal c spec bound (spec_fault fault)
  spec_refused spec bound (faults.TooManyTerms stage n) over = over_there c.k c.product (sum_listing c.product (feed_values c.product feeds) spec) (spec_listing c spec) spec_stage bound (renamed spec) stage n over
  spec_refused spec bound faults.OutOfMemory over = tt

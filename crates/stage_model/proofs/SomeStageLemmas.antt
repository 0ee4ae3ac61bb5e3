-- Each listed stage of a circuit has a polynomial.
use Rattle.std.proofs.Common.{◌≡◌, ◌∙◌, ap, sym, refl, subst, ℕ, suc, ◌<◌, ◌≤◌, ◌+◌, ◌-◌, ◌*◌, Bool, cond, ◌&&◌, List, [], ◌∷◌, length, take, Some, bit_xor, arith}
use Rattle.std.specs.Prelude.{slice_get, ◌==◌}
use Rattle.std.specs.Int.{bit_at}
use Rattle.std.specs.List.{list_all}
use Rattle.std.proofs.lemmas.Option.{slice_get_within}
use Rattle.lists.specs.Lists.{Has}
use Rattle.lists.specs.laws.ReadLaws.{same_lists}
use Rattle.net_core.specs.NetList.{nets}
use Rattle.circuit_model.specs.Word.{Word, word_nets}
use Rattle.circuit_model.specs.WellFormed.{IsWellFormed}
use Rattle.circuit_model.specs.Circuit.{Circuit}
use Rattle.circuit_model.proofs.SourceLemmas.{source_inside, stands_source}
use Rattle.poly_mixed.specs.Monomial.{Monomial}
use Rattle.poly_mixed.specs.Polynomial.{Terms, Point, IsPoint, powers, term_value, value}
use Rattle.poly_mixed.specs.declared.stage.Stage.{Stage}
use Rattle.poly_mixed.specs.declared.stage.Stage.TheVariants.{Cut, WordProduct, WordSum, SpecProduct, SpecSum, InstanceProduct, InstanceSum}
use Rattle.stage_model.specs.Variables.{rank_in, point_bits, variables_of}
use Rattle.stage_model.specs.Cut.{CutOf}
use Rattle.stage_model.specs.Mix.{IsMix}
use Rattle.stage_model.specs.Stage.{IsOfStage}
use Rattle.stage_model.specs.WordStage.{is_of_word, first_bits, with_word, IsRead, IsTermOf, IsTermProduct, IsTermSum}
use Rattle.stage_model.specs.WordListing.{is_word_stage, word_stage_of}
use Rattle.stage_model.specs.Listing.{Joined, Earlier, Later, is_first_cut, cut_of}
use Rattle.stage_model.specs.CircuitListing.{circuit_stages}
use Rattle.stage_model.specs.First.{AgreeAtFirst}
use Rattle.stage_model.proofs.PointLemmas.{point_bits_at, same_word}
use Rattle.stage_model.proofs.CutLemmas.{some_cut}
use Rattle.stage_model.proofs.CutPolyLemmas.{same_cut}
use Rattle.stage_model.proofs.VariableLemmas.{has_each}
use Rattle.stage_model.proofs.MixLemmas.{some_mix}
use Rattle.stage_model.proofs.WordStageLemmas.{one_terms, one_term_of, some_product, some_sum}
use Rattle.stage_model.proofs.InterpolationLemmas.{LooksAtFirst, of_first}

-- all these ranks are below
abbrev pub ranks_below : List ℕ → ℕ
ranks_below [] = 0
ranks_below (r ∷ rs) = suc r + ranks_below rs

abbrev pub terms_below : Terms → ℕ
terms_below [] = 0
terms_below (t ∷ ts) = ranks_below t.0.bits + terms_below ts

same_all : (p q : ℕ → Bool) (rs : List ℕ) (bound : ℕ) → ranks_below rs ≤ bound → ((r : ℕ) → r < bound → p r ≡ q r) → list_all p rs ≡ list_all q rs
same_all p q [] bound within same = refl
same_all p q (r ∷ rs) bound within same = λ i. same r (omega arith) i && same_all p q rs bound (omega arith) same i

same_term : (mul : ℕ → ℕ → ℕ) (p q : Point) (t : Monomial × ℕ) (bound : ℕ) → ranks_below t.0.bits ≤ bound → p.words ≡ q.words → ((r : ℕ) → r < bound → p.is_one r ≡ q.is_one r) → term_value mul p t ≡ term_value mul q t
same_term mul p q t bound within words same = λ i. cond (same_all p.is_one q.is_one t.0.bits bound within same i) (mul t.1 (powers mul t.0.exponents (words i))) 0

same_value : (mul : ℕ → ℕ → ℕ) (p q : Point) (ts : Terms) (bound : ℕ) → terms_below ts ≤ bound → p.words ≡ q.words → ((r : ℕ) → r < bound → p.is_one r ≡ q.is_one r) → value mul p ts ≡ value mul q ts
same_value mul p q [] bound within words same = refl
same_value mul p q (t ∷ ts) bound within words same = λ i. bit_xor (same_term mul p q t bound (omega arith) words same i) (same_value mul p q ts bound (omega arith) words same i)

same_words : (k ranks : ℕ) (p q : Point) → IsPoint k p → IsPoint k q → AgreeAtFirst 8 ranks p q → p.words ≡ q.words
same_words k ranks p q at at' same = same_lists p.words q.words (at.words ∙ sym at'.words) equal
  where
    equal : (i x y : ℕ) → slice_get p.words i ≡ Some x → slice_get q.words i ≡ Some y → x ≡ y
    equal i x y got got' =
        let less : i < 8 = omega (arith, slice_get_within p.words i x got, at.words) in
        let both : slice_get p.words i ≡ slice_get q.words i = same.elements i less in
        cc

module _ (c : Circuit) (well : IsWellFormed c) where
  count : ℕ
  count = length (variables_of c)

  rank_low : (n : ℕ) → n < nets c.net → rank_in (variables_of c) n < count
  unfolding count
  rank_low n less = has_each c.net (word_nets c.words) n less

  cut_looks : (t : ℕ) → LooksAtFirst c.k (CutOf c t) 0 count
  cut_looks t = record {
    some = λ p at. some_cut c well t p;
    alone = λ p q e at at' same cut. same_cut c.net (variables_of c) c.output t p q e (λ n less. same.bits (rank_in (variables_of c) n) (rank_low n less)) cut;
  }

  pub cut_polynomial : (t : ℕ) → (ts : Terms) × IsOfStage c.k c.product (CutOf c t) ts
  cut_polynomial t = of_first c.k c.product well.ring well.no_zero_divisors 0 count (CutOf c t) (omega arith) (cut_looks t)

  pub word_net : (i n : ℕ) (w : Word) → slice_get c.words i ≡ Some w → Has w.nets n → n < nets c.net
  word_net i n w at has = source_inside c.net well.sound n (stands_source c.net w.role n (well.inner w (i, at)) (well.places w n (i, at) has))

  mix_alone : (w : ℕ) (p q : Point) (e : ℕ) → AgreeAtFirst w count p q → IsMix c w p e → IsMix c w q e
  mix_alone w p q e same mix = record {
    xs = mix.xs;
    mixed = record {
      words = λ i x low got. sym (same.elements i low) ∙ mix.mixed.words i x low got;
      bits = λ i x v high at got.
          same_word (point_bits (nets c.net) (variables_of c) p) (point_bits (nets c.net) (variables_of c) q) v x
          (λ n has.
          let less = word_net i n v at has in
          point_bits_at (nets c.net) (variables_of c) p n less ∙ (same.bits (rank_in (variables_of c) n) (rank_low n less) ∙ sym (point_bits_at (nets c.net) (variables_of c) q n less)))
          (mix.mixed.bits i x v high at got);
    };
    output = mix.output;
  }

  mix_looks : (w : ℕ) → LooksAtFirst c.k (IsMix c w) w count
  mix_looks w = record { some = λ p at. some_mix c well w p at; alone = λ p q e at at' same mix. mix_alone w p q e same mix }

  pub mix_polynomial : (w : ℕ) → w ≤ length c.words → (ts : Terms) × IsOfStage c.k c.product (IsMix c w) ts
  mix_polynomial w within = of_first c.k c.product well.ring well.no_zero_divisors w count (IsMix c w) (omega (arith, within, well.few)) (mix_looks w)

  read_alone : (w ranks : ℕ) (p q : Point) (d : ℕ) → AgreeAtFirst 8 ranks p q → w < 8 → IsRead c w p d → IsRead c w q d
  read_alone w ranks p q d same low read = record { word = read.word; element = read.element; at_word = read.at_word; at_point = sym (same.elements w low) ∙ read.at_point; bits = read.bits }

  read_bits : (w d ranks : ℕ) (p q : Point) → AgreeAtFirst 8 ranks p q → (r : ℕ) → r < ranks → (with_word c.k w d p).is_one r ≡ (with_word c.k w d q).is_one r
  read_bits w d ranks p q same r less = ap (λ b. cond (is_of_word c.k w r) (bit_at d (r - c.k * w) == 1) b) (same.bits r less)

  module _ (w s j : ℕ) (low : w < length c.words) (term : Monomial × ℕ) (is_term : IsTermOf c w s term) where
    product_ranks : ℕ
    product_ranks = ranks_below (first_bits c.k w j term).0.bits

    product_looks : LooksAtFirst c.k (IsTermProduct c w s j) 8 product_ranks
    unfolding product_ranks
    product_looks = record {
      some = λ p at. some_product c well w s j p at low term is_term;
      alone = λ p q e at at' same is.
          let equal : is.term ≡ term = one_term_of c well w s is.term term is.is_term is_term in
          let P : Monomial × ℕ → Type 0 = λ t. term_value c.product (with_word c.k w is.d p) (first_bits c.k w j t) ≡ e in
          let here : term_value c.product (with_word c.k w is.d p) (first_bits c.k w j term) ≡ e = subst P equal is.element in
          let moved = same_term c.product (with_word c.k w is.d p) (with_word c.k w is.d q) (first_bits c.k w j term) product_ranks (omega arith) (same_words c.k product_ranks p q at at' same) (read_bits w is.d product_ranks p q same) in
          record { term = term; is_term = is_term; d = is.d; read = read_alone w product_ranks p q is.d same (omega (arith, low, well.few)) is.read; element = sym moved ∙ here };
    }

    pub product_polynomial : (ts : Terms) × IsOfStage c.k c.product (IsTermProduct c w s j) ts
    product_polynomial = of_first c.k c.product well.ring well.no_zero_divisors 8 product_ranks (IsTermProduct c w s j) (omega arith) product_looks

  module _ (w s : ℕ) (low : w < length c.words) (terms : Terms) (before : IsOfStage c.k c.product (IsMix c w) terms) where
    sum_ranks : ℕ
    sum_ranks = terms_below (take s terms)

    sum_looks : LooksAtFirst c.k (IsTermSum c w s) 8 sum_ranks
    unfolding sum_ranks
    sum_looks = record {
      some = λ p at. some_sum c well w s p at low terms before;
      alone = λ p q e at at' same is.
          let equal : is.terms ≡ terms = one_terms c well w is.terms terms is.before before in
          let P : Terms → Type 0 = λ ts. value c.product (with_word c.k w is.d p) (take s ts) ≡ e in
          let here : value c.product (with_word c.k w is.d p) (take s terms) ≡ e = subst P equal is.element in
          let moved = same_value c.product (with_word c.k w is.d p) (with_word c.k w is.d q) (take s terms) sum_ranks (omega arith) (same_words c.k sum_ranks p q at at' same) (read_bits w is.d sum_ranks p q same) in
          record { terms = terms; before = before; d = is.d; read = read_alone w sum_ranks p q is.d same (omega (arith, low, well.few)) is.read; element = sym moved ∙ here };
    }

    pub sum_polynomial : (ts : Terms) × IsOfStage c.k c.product (IsTermSum c w s) ts
    sum_polynomial = of_first c.k c.product well.ring well.no_zero_divisors 8 sum_ranks (IsTermSum c w s) (omega arith) sum_looks

  word_stage_polynomial : (name : Stage) → is_word_stage c name → (ts : Terms) × IsOfStage c.k c.product (word_stage_of c name) ts
  word_stage_polynomial (WordProduct w s j) is = product_polynomial w s j is.word is.term is.is_term
  word_stage_polynomial (WordSum w s) is = sum_polynomial w s is.word is.is_term.terms is.is_term.before
  word_stage_polynomial (Cut t) is = absurd is
  word_stage_polynomial (SpecProduct s j) is = absurd is
  word_stage_polynomial (SpecSum s) is = absurd is
  word_stage_polynomial (InstanceProduct i s j) is = absurd is
  word_stage_polynomial (InstanceSum i s) is = absurd is

  cut_stage_polynomial : (name : Stage) → is_first_cut (length c.net.gates + 1) (CutOf c) name → (ts : Terms) × IsOfStage c.k c.product (cut_of (length c.net.gates + 1) (CutOf c) name) ts
  cut_stage_polynomial (Cut t) is = cut_polynomial t
  cut_stage_polynomial (WordProduct w s j) is = absurd is
  cut_stage_polynomial (WordSum w s) is = absurd is
  cut_stage_polynomial (SpecProduct s j) is = absurd is
  cut_stage_polynomial (SpecSum s) is = absurd is
  cut_stage_polynomial (InstanceProduct i s j) is = absurd is
  cut_stage_polynomial (InstanceSum i s) is = absurd is

  pub stage_polynomial : (name : Joined Stage Stage) → (circuit_stages c).is_listed name → (ts : Terms) × IsOfStage c.k c.product ((circuit_stages c).stage_of name) ts
  stage_polynomial (Earlier name) is = cut_stage_polynomial name is
  stage_polynomial (Later name) is = word_stage_polynomial name is

-- The values of instances' polynomials are the instances' values, and so the composed polynomial is the output.
use Rattle.std.proofs.Common.{◌≡◌, ◌∙◌, ap, sym, refl, subst, ℕ, zero, suc, ◌<◌, ◌≤◌, ◌+◌, ◌^◌, List, [], ◌∷◌, length, map, take, Some, arith}
use Rattle.std.specs.Prelude.{slice_get}
use Rattle.std.proofs.lemmas.List.{get_or-take, length-take-le}
use Rattle.std.proofs.lemmas.Nat.{pow_pos}
use Rattle.std.proofs.lemmas.Option.{slice_get_within}
use Rattle.lists.specs.Lists.{Has}
use Rattle.lists.specs.laws.ListLaws.{length_map as mapped_long}
use Rattle.lists.specs.laws.ReadLaws.{from_map, get_below}
use Rattle.lists.specs.laws.TakeLaws.{taken_front}
use Rattle.net_blif.specs.Statement.{Token}
use Rattle.net_blif.specs.Top.{instances_of}
use Rattle.net_blif.specs.declared.item.Item.{Item}
use Rattle.net_flat.specs.Flat.{net_list}
use Rattle.gf_field.specs.Field.{HasNoZeroDivisors}
use Rattle.gf_field.specs.Ring.{IsRing}
use Rattle.gf_field.specs.laws.RootsLaws.{HasFewRoots-from_field}
use Rattle.poly_mixed.specs.Polynomial.{value, IsPoint, IsPolynomialOf, IsReduced, Point, Terms}
use Rattle.poly_mixed.proofs.FieldLaws.{field_of}
use Rattle.poly_mixed.proofs.ProductLemmas.{value_element}
use Rattle.poly_mixed.proofs.RootLemmas.{independent}
use Rattle.poly_mixed.proofs.UniquenessLemmas.{unique}
use Rattle.circuit_model.specs.Circuit.{Circuit, IsInput}
use Rattle.circuit_model.specs.Out.{IsOut}
use Rattle.circuit_model.proofs.OutLemmas.{one_out, some_out}
use Rattle.stage_model.specs.InputPoint.{input_of}
use Rattle.stage_model.specs.OutputInWords.{IsOutputInWords}
use Rattle.stage_model.proofs.OutputInWordsLemmas.{all_words_is_output}
use Rattle.stage_model.proofs.SomeStageLemmas.{mix_polynomial}
use Rattle.compose_polys.specs.Instance.{point_of, AreReduced}
use Rattle.compose_model.specs.Feeds.{AreFeedsOf, FeedsOutput, IsFeedOn}
use Rattle.compose_model.specs.Given.{IsGiven}
use Rattle.compose_model.specs.Hierarchy.{bases_at, top_words, Hierarchy, IsInstance}
use Rattle.compose_model.specs.NamedWord.{inputs_among, named_words, NamedWord}
use Rattle.compose_model.specs.Values.{feed_value, AreInstanceValues, IsBlockOf, IsTop}
use Rattle.compose_model.specs.Wiring.{AreAllFeeds, HaveBlocks, IsWithoutCycle}
use Rattle.compose_model.specs.declared.feeder.Feeder.{Feeder}
use Rattle.compose_model.specs.declared.feeder.Feeder.TheVariants.{InputWord, OutputOf}
use Rattle.compose_model.proofs.InputsLemmas.{inputs_long}
use Rattle.compose_model.proofs.InstanceLemmas.{facts_of}
use Rattle.compose_model.proofs.OneValueLemmas.{one_list}
use Rattle.compose_model.proofs.OutputLemmas.{output_value, same_words}
use Rattle.compose_polys.specs.InstancePolys.{feed_at, poly_at, AreInstancePolys}
use Rattle.compose_polys.proofs.PointLemmas.{is_point_of, mapped_elements, mapped_same, taken_elements, value_at, word_element}

module _ (k : ℕ) (mul : ℕ → ℕ → ℕ) (ring : IsRing k mul) (field : HasNoZeroDivisors k mul) (h : Hierarchy) (given : IsGiven k h) (rows : List (List Feeder)) (all : AreAllFeeds h rows) (polys : List Terms) (made : AreInstancePolys k mul h rows polys) (top : Circuit) (is_top : IsTop k mul h top) (p : Point) (at : IsPoint k p) where
  abbrev xs : List ℕ
  xs = take (length top.words) p.words

  abbrev es : List ℕ
  es = map (value mul p) polys

  -- a feed that stands on nets has at the point the value of its polynomial
  same_feed : (feed : Feeder) (nets : List Token) (basis : List ℕ) → IsFeedOn h feed nets basis → feed_value k mul h xs es feed ≡ feed_at mul polys p feed
  same_feed (InputWord w) nets basis is =
      let found = facts_of k mul ring field h 0 h.words (bases_at h 0) given.top top is_top in
      let low : w < length top.words = omega (arith, slice_get_within (inputs_among (top_words h)) w is.word is.at, inputs_long (net_list found.0) (inputs_among (top_words h)) top.words found.2.inputs) in
      get_or-take (length top.words) p.words w 0 low
  same_feed (OutputOf i) nets basis is = value_at mul p polys i

  poly_element : (ps : List Terms) (i : ℕ) → AreReduced k ps → value mul p (poly_at ps i) < 2 ^ k
  poly_element [] zero are = pow_pos k
  poly_element [] (suc i) are = pow_pos k
  poly_element (ts ∷ ps) zero are = value_element (field_of k mul ring field) p at ts are.0.terms
  poly_element (ts ∷ ps) (suc i) are = poly_element ps i are.1

  feed_element : (feed : Feeder) → feed_at mul polys p feed < 2 ^ k
  feed_element (InputWord w) = word_element k p.words w at.elements
  feed_element (OutputOf i) = poly_element polys i made.reduced

  module _ (i : ℕ) (item : Item) (feeds : List Feeder) (circuit : Circuit) (at_item : slice_get (instances_of h.design) i ≡ Some item) (at_row : slice_get rows i ≡ Some feeds) (block : IsBlockOf k mul h item circuit) where
    abbrev ys : List ℕ
    ys = map (feed_at mul polys p) feeds

    fed : AreFeedsOf h i feeds
    fed = all.each i feeds at_row

    same_feeds : map (feed_value k mul h xs es) feeds ≡ ys
    same_feeds =
        mapped_same (feed_value k mul h xs es) (feed_at mul polys p) feeds (λ j feed got.
        let word = get_below (inputs_among fed.words) j (omega (arith, fed.long, slice_get_within feeds j feed got)) in
        let fits = fed.each j word.0 feed word.1 got in
        same_feed feed fits.nets word.0.basis fits.stands)

    out_at : (poly block_terms : Terms) → slice_get polys i ≡ Some poly → IsOutputInWords circuit block_terms → IsPolynomialOf k mul (λ q. value mul (point_of (map (feed_at mul polys q) feeds)) block_terms) poly → IsOut circuit (map (feed_value k mul h xs es) feeds) (value mul p poly)
    out_at poly block_terms at_poly output is =
        let words : List NamedWord = named_words block.block.words (bases_at h (block.number + 1)) in
        let instance : IsInstance h i item words = record { at = at_item; number = block.number; named = block.named; block = block.block; found = block.found; words_are = refl } in
        let found = facts_of k mul ring field h block.model block.block.words (bases_at h (block.number + 1)) (given.blocks block.number block.block block.found) circuit block.is in
        let facts = found.2 in
        let same = same_words h i item fed.item words fed.words instance fed.instance in
        let count : length ys ≡ length circuit.words = mapped_long (feed_at mul polys p) feeds ∙ fed.long ∙ ap (λ ws. length (inputs_among ws)) (sym same.1) ∙ sym (inputs_long (net_list found.0) (inputs_among words) circuit.words facts.inputs) in
        let few : length ys ≤ 8 = omega (arith, count, facts.well.few) in
        let P : ℕ → Type 0 = λ n. IsPoint n (point_of ys) in
        let point_is : IsPoint circuit.k (point_of ys) = subst P (sym facts.bits) (is_point_of k ys few (mapped_elements k (feed_at mul polys p) feeds feed_element)) in
        let out : IsOut circuit (input_of circuit (point_of ys)) (value circuit.product (point_of ys) block_terms) = output.values (point_of ys) point_is in
        let input : input_of circuit (point_of ys) ≡ map (feed_value k mul h xs es) feeds = taken_front ys _ (length circuit.words) count ∙ sym same_feeds in
        let result : value circuit.product (point_of ys) block_terms ≡ value mul p poly = ap (λ times. value times (point_of ys) block_terms) facts.product ∙ sym (is.values p at) in
        let Q : List ℕ → Type 0 = λ zs. IsOut circuit zs (value circuit.product (point_of ys) block_terms) in
        let R : ℕ → Type 0 = λ e. IsOut circuit (map (feed_value k mul h xs es) feeds) e in
        subst R result (subst Q input out)

  -- so the values of the polynomials are the values of the instances
  poly_values : AreInstanceValues k mul h rows xs es
  poly_values = record {
    long = mapped_long (value mul p) polys ∙ made.long;
    each = λ i e item feeds circuit at_e at_item at_row block.
        let poly = from_map (value mul p) polys i e at_e in
        let parts = made.each i poly.0 item feeds circuit poly.1 at_item at_row block in
        let P : ℕ → Type 0 = λ x. IsOut circuit (map (feed_value k mul h xs es) feeds) x in
        subst P poly.2 (out_at i item feeds circuit at_item at_row block poly.0 parts.0 poly.1 parts.1 parts.2);
  }

  pub output_at : HaveBlocks k mul h → IsWithoutCycle rows → (feed : Feeder) → FeedsOutput h feed → IsOut top xs (feed_at mul polys p feed)
  output_at blocks free feed fed_output =
      let found = facts_of k mul ring field h 0 h.words (bases_at h 0) given.top top is_top in
      let facts = found.2 in
      let long : length xs ≡ length top.words = length-take-le (length top.words) p.words (omega (arith, at.words, facts.well.few)) in
      let P : ℕ → Type 0 = λ n. (x : ℕ) → Has xs x → x < 2 ^ n in
      let input : IsInput top xs = record { long = long; elements = subst P (sym facts.bits) (λ x has. taken_elements k (length top.words) p.words x has.0 at.elements has.1) } in
      let out = some_out top xs facts.well input in
      let values = output_value k mul ring field h given rows all top feed xs out.0 is_top fed_output out.1 in
      let same : es ≡ values.0 = one_list k mul h xs es values.0 ring field given rows all blocks poly_values values.1 free in
      let is : feed_at mul polys p feed ≡ out.0 = sym (same_feed feed fed_output.word.nets fed_output.word.basis fed_output.stands) ∙ ap (λ vs. feed_value k mul h xs vs feed) same ∙ values.2 in
      let Q : ℕ → Type 0 = λ x. IsOut top xs x in
      subst Q (sym is) out.1

module _ (k : ℕ) (mul : ℕ → ℕ → ℕ) (ring : IsRing k mul) (field : HasNoZeroDivisors k mul) (top : Circuit) (well_k : top.k ≡ k) (well_mul : top.product ≡ mul) where
  -- a polynomial with the output's values is the output's polynomial in words
  same_output : (ts us : Terms) → IsReduced k ts → ((p : Point) → IsPoint k p → IsOut top (input_of top p) (value mul p ts)) → IsOutputInWords top us → ((xs : List ℕ) (d e : ℕ) → IsOut top xs d → IsOut top xs e → d ≡ e) → ts ≡ us
  same_output ts us reduced values output one =
      let P : ℕ → Type 0 = λ n. IsReduced n us in
      let Q : ℕ → Point → Type 0 = λ n p. IsPoint n p in
      unique (field_of k mul ring field) (independent (field_of k mul ring field) (HasFewRoots-from_field k mul ring field)) ts us reduced (subst P well_k output.reduced) (λ p at.
      one (input_of top p) (value mul p ts) (value mul p us) (values p at)
      (let R : (ℕ → ℕ → ℕ) → Type 0 = λ times. IsOut top (input_of top p) (value times p us) in subst R well_mul (output.values p (let S : ℕ → Type 0 = λ n. IsPoint n p in subst S (sym well_k) at))))

pub composed_output : (k : ℕ) (mul : ℕ → ℕ → ℕ) (h : Hierarchy) (rows : List (List Feeder)) (polys : List Terms) (top : Circuit) (feed : Feeder) (ts : Terms) → IsRing k mul → HasNoZeroDivisors k mul → IsGiven k h → AreAllFeeds h rows → HaveBlocks k mul h → IsWithoutCycle rows → AreInstancePolys k mul h rows polys → IsTop k mul h top → FeedsOutput h feed
    → IsPolynomialOf k mul (λ p. feed_at mul polys p feed) ts → IsOutputInWords top ts
composed_output k mul h rows polys top feed ts ring field given all blocks free made is_top fed is =
    let found = facts_of k mul ring field h 0 h.words (bases_at h 0) given.top top is_top in
    let facts = found.2 in
    let mix = mix_polynomial top facts.well (length top.words) (omega arith) in
    let output : IsOutputInWords top mix.0 = (all_words_is_output top facts.well mix.0).0 mix.1 in
    let values : (p : Point) → IsPoint k p → IsOut top (input_of top p) (value mul p ts) = (λ p at.
    let P : ℕ → Type 0 = λ x. IsOut top (input_of top p) x in
    subst P (sym (is.values p at)) (output_at k mul ring field h given rows all polys made top is_top p at blocks free feed fed)) in
    let same : ts ≡ mix.0 = same_output k mul ring field top facts.bits facts.product ts mix.0 is.reduced values output (λ xs d e a b. one_out top xs d e facts.well a b) in
    let Q : Terms → Type 0 = IsOutputInWords top in
    subst Q (sym same) output

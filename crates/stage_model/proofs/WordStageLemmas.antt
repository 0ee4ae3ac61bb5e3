-- A stage of a word relates each point to one element.
use Rattle.std.proofs.Common.{◌≡◌, ◌∙◌, sym, refl, subst, ℕ, zero, suc, ◌<◌, ◌+◌, ◌^◌, [], ◌∷◌, length, take, Some, arith}
use Rattle.std.specs.Prelude.{slice_get}
use Rattle.std.specs.List.{AllByRecursion}
use Rattle.lists.specs.laws.HasLaws.{all_in}
use Rattle.lists.specs.laws.ReadLaws.{get_below, all_at}
use Rattle.gf_basis.specs.Basis.{AreBits}
use Rattle.circuit_model.specs.Word.{Word}
use Rattle.circuit_model.specs.WellFormed.{IsWellFormed}
use Rattle.circuit_model.specs.Circuit.{Circuit}
use Rattle.poly_mixed.specs.Monomial.{Monomial}
use Rattle.poly_mixed.specs.Polynomial.{Terms, Point, IsPoint, IsElement, IsTerm, term_value, value}
use Rattle.poly_mixed.proofs.FieldLaws.{IsField, field_of}
use Rattle.poly_mixed.proofs.ProductLemmas.{term_value_element, value_element}
use Rattle.stage_model.specs.Mix.{IsMix}
use Rattle.stage_model.specs.Stage.{IsOfStage}
use Rattle.stage_model.specs.WordStage.{first_bits, with_word, IsRead, IsTermOf, IsTermProduct, IsTermSum}
use Rattle.stage_model.proofs.MixLemmas.{one_mix}
use Rattle.stage_model.proofs.SizeLemmas.{same_terms}

all_taken : (P : Monomial × ℕ → Type 0) (n : ℕ) (ts : Terms) → AllByRecursion P ts → AllByRecursion P (take n ts)
all_taken P zero ts all = tt
all_taken P (suc n) [] all = tt
all_taken P (suc n) (t ∷ ts) all = (all.0, all_taken P n ts all.1)

pub with_point : (k kw w d : ℕ) (p : Point) → IsPoint k p → IsPoint k (with_word kw w d p)
with_point k kw w d p at = record { words = at.words; elements = at.elements }

module _ (c : Circuit) (well : IsWellFormed c) where
  pub one_terms : (w : ℕ) (ts us : Terms) → IsOfStage c.k c.product (IsMix c w) ts → IsOfStage c.k c.product (IsMix c w) us → ts ≡ us
  one_terms w ts us a b = same_terms c.k c.product well.ring well.no_zero_divisors (IsMix c w) (λ p x y at first second. one_mix c well w p x y first second) ts us a b

  pub one_term_of : (w s : ℕ) (t u : Monomial × ℕ) → IsTermOf c w s t → IsTermOf c w s u → t ≡ u
  one_term_of w s t u a b =
      let same : a.terms ≡ b.terms = one_terms w a.terms b.terms a.before b.before in
      let place : a.place ≡ b.place = equal a.place b.place a.number b.number in
      let P : Terms → Type 0 = λ ts. slice_get ts b.place ≡ Some t in
      let Q : ℕ → Type 0 = λ i. slice_get a.terms i ≡ Some t in
      let here : slice_get b.terms b.place ≡ Some t = subst P same (subst Q place a.at) in
      let there : slice_get b.terms b.place ≡ Some u = b.at in
      cc
    where
      equal : (i j : ℕ) → i + 1 ≡ s → j + 1 ≡ s → i ≡ j
      equal i j e f = omega arith

  -- the bits of the point's element
  pub some_read : (w : ℕ) (p : Point) → IsPoint c.k p → w < length c.words → (d : ℕ) × IsRead c w p d
  some_read w p at less =
      let word = get_below c.words w less in
      let x = get_below p.words w (omega (arith, well.few, at.words)) in
      let only = (well.words word.0 (w, word.1)).basis.sums x.0 (all_in (IsElement c.k) p.words x.0 at.elements (w, x.1)) in
      (only.choice, record { word = word.0; element = x.0; at_word = word.1; at_point = x.1; bits = only.chosen })

  pub one_read : (w : ℕ) (p : Point) (d e : ℕ) → IsPoint c.k p → IsRead c w p d → IsRead c w p e → d ≡ e
  one_read w p d e at a b =
      let at_word : slice_get c.words w ≡ Some a.word = a.at_word in
      let at_word' : slice_get c.words w ≡ Some b.word = b.at_word in
      let same : b.word ≡ a.word = cc in
      let at_point : slice_get p.words w ≡ Some a.element = a.at_point in
      let at_point' : slice_get p.words w ≡ Some b.element = b.at_point in
      let equal : b.element ≡ a.element = cc in
      let P : Word → Type 0 = λ v. AreBits v.basis b.element e in
      let Q : ℕ → Type 0 = λ x. AreBits a.word.basis x e in
      let other : AreBits a.word.basis a.element e = subst Q equal (subst P same b.bits) in
      let only = (well.words a.word (w, a.at_word)).basis.sums a.element (all_in (IsElement c.k) p.words a.element at.elements (w, a.at_point)) in
      only.only d a.bits ∙ sym (only.only e other)

  field : IsField c.k c.product
  field = field_of c.k c.product well.ring well.no_zero_divisors

  pub some_product : (w s j : ℕ) (p : Point) → IsPoint c.k p → w < length c.words → (t : Monomial × ℕ) → IsTermOf c w s t → (e : ℕ) × IsTermProduct c w s j p e × (e < 2 ^ c.k)
  some_product w s j p at less t is =
      let read = some_read w p at less in
      let element : IsElement c.k t.1 = (all_at (IsTerm c.k) is.terms is.place t is.before.reduced.terms is.at).element in (
        term_value c.product (with_word c.k w read.0 p) (first_bits c.k w j t),
        record { term = t; is_term = is; d = read.0; read = read.1; element = refl },
        term_value_element field (with_word c.k w read.0 p) (with_point c.k c.k w read.0 p at) (first_bits c.k w j t) element,
      )

  pub one_product : (w s j : ℕ) (p : Point) (x y : ℕ) → IsPoint c.k p → IsTermProduct c w s j p x → IsTermProduct c w s j p y → x ≡ y
  one_product w s j p x y at a b =
      let t = one_term_of w s a.term b.term a.is_term b.is_term in
      let d = one_read w p a.d b.d at a.read b.read in
      sym a.element ∙ ((λ i. term_value c.product (with_word c.k w (d i) p) (first_bits c.k w j (t i))) ∙ b.element)

  pub some_sum : (w s : ℕ) (p : Point) → IsPoint c.k p → w < length c.words → (ts : Terms) → IsOfStage c.k c.product (IsMix c w) ts → (e : ℕ) × IsTermSum c w s p e × (e < 2 ^ c.k)
  some_sum w s p at less ts is =
      let read = some_read w p at less in (
        value c.product (with_word c.k w read.0 p) (take s ts),
        record { terms = ts; before = is; d = read.0; read = read.1; element = refl },
        value_element field (with_word c.k w read.0 p) (with_point c.k c.k w read.0 p at) (take s ts) (all_taken (IsTerm c.k) s ts is.reduced.terms),
      )

  pub one_sum : (w s : ℕ) (p : Point) (x y : ℕ) → IsPoint c.k p → IsTermSum c w s p x → IsTermSum c w s p y → x ≡ y
  one_sum w s p x y at a b =
      let ts = one_terms w a.terms b.terms a.before b.before in
      let d = one_read w p a.d b.d at a.read b.read in
      sym a.element ∙ ((λ i. value c.product (with_word c.k w (d i) p) (take s (ts i))) ∙ b.element)

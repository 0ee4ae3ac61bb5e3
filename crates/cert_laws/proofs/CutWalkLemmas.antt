-- The pairs of eliminations lead from the output to the last cut.
use Rattle.std.proofs.Common.{◌≡◌, ◌≢◌, inl, inr, ◌∙◌, ap, sym, refl, subst, ℕ, zero, suc, ◌+◌, ◌*◌, ◌<◌, ◌≤◌, ◌==◌, nat_eq, Bool, true, false, cond, List, [], ◌∷◌, length, bit_xor, Some, is_some, slice_get, arith}
use lib.Bits.{xor_self, xor_assoc, xor_comm, xor_zero_l, xor_zero_r, xor_lt}
use Rattle.std.specs.List.{position_from}
use Rattle.std.specs.Option.{option_and_then}
use Rattle.std.proofs.lemmas.Bool.{eq-eqb, ne_eqb, eqb-true}
use Rattle.gf_field.specs.Field.{HasNoZeroDivisors}
use Rattle.gf_field.specs.Ring.{IsRing}
use Rattle.gf_basis.specs.BasisParts.{elements_of}
use Rattle.gf_basis.specs.declared.bases.Basis.{Basis}
use Rattle.irreducible.specs.Span.{combination}
use Rattle.net_core.specs.GateValue.{GateValue}
use Rattle.net_core.specs.NetList.{NetList, nets}
use Rattle.net_core.specs.Order.{IsElimination}
use Rattle.net_core.specs.Sound.{IsSound}
use Rattle.net_core.specs.Value.{index_of}
use Rattle.net_core.proofs.DriverLemmas.{gates_apart}
use Rattle.net_words.specs.Binding.{BoundNet}
use Rattle.net_words.specs.BoundTo.{output_bits}
use Rattle.net_words.specs.OneCycle.{IsOneCycle}
use Rattle.net_words.specs.Variables.{variables}
use Rattle.poly_mixed.specs.Cofactor.{LacksBit, IsCofactor, at_bit, cofactors}
use Rattle.poly_mixed.specs.Polynomial.{Terms, Point, IsPoint, IsElement, IsReduced, value}
use Rattle.poly_mixed.specs.Steps.{Step}
use Rattle.poly_mixed.specs.Table.{index}
use Rattle.poly_mixed.specs.declared.steps.Generator.TheVariants.{Net}
use Rattle.poly_mixed.proofs.CofactorLemmas.{value-lacking, value-cofactors, reduced_cofactors, all_lacking}
use Rattle.poly_mixed.proofs.FieldLaws.{IsField, field_of}
use Rattle.poly_mixed.proofs.OneBitLemmas.{is_cofactor}
use Rattle.poly_mixed.proofs.ProductLemmas.{value_element}
use Rattle.poly_mixed.proofs.ValueLemmas.{product_zero, same_map}
use Rattle.circuit_model.specs.OfBinding.{output_word, output_basis}
use Rattle.std.specs.Prelude.{map}
use Rattle.lists.specs.Lists.{Has}
use Rattle.stage_model.specs.Cut.{IsCut, IsSettled}
use Rattle.stage_model.specs.CutSteps.{AreStepsAt, AreStepsOf, AreStepsTo}
use Rattle.stage_model.specs.Stage.{IsOfStage}
use Rattle.stage_model.specs.Variables.{rank_in, point_bit}
use Rattle.stage_model.proofs.CutLemmas.{one_cut_of}
use Rattle.stage_model.proofs.EliminationLemmas.{one_elimination}
use Rattle.stage_model.proofs.SizeLemmas.{same_terms}
use Rattle.cert_check.specs.Driver.{driver, is_driven}
use Rattle.cert_check.specs.Running.{generator_value, driven_value, output_value}
use Rattle.stage_model.proofs.GateStepLemmas.{gate_bit, with_gate, step}
use Rattle.cert_laws.proofs.SizedLemmas.{sized_of, sized_sum, sized_same}
use Rattle.cert_laws.proofs.WalkLemmas.{Walk, IsLow, walk_none, walk_one, walk_then}
use Rattle.cert_laws.proofs.VariableLemmas.{stands_in}
use Rattle.stage_model.proofs.InterpolationLemmas.{is_bit_point}
use Rattle.stage_model.proofs.SharedLemmas.{index_same}
use Rattle.stage_model.proofs.StepLemmas.{lacks_or}

-- ---- the gate that drives a net

position_first : (gates : List GateValue) (n i pos : ℕ) (g : GateValue) → slice_get gates pos ≡ Some g → g.out ≡ n → ((j : ℕ) (h : GateValue) → slice_get gates j ≡ Some h → h.out ≡ n → j ≡ pos) → position_from (λ (h : GateValue). h.out == n) i gates ≡ Some (i + pos)
position_first [] n i pos g at out only = absurd (cc)
position_first (x ∷ xs) n i zero g at out only =
    let same : x ≡ g = cc in
    ap (λ b. cond b (Some i) (position_from (λ (h : GateValue). h.out == n) (i + 1) xs)) (eq-eqb x.out n (ap (λ (y : GateValue). y.out) same ∙ out)) ∙ ap Some (omega arith)
position_first (x ∷ xs) n i (suc pos) g at out only =
    let other : x.out ≢ n = λ same. (let bad = only 0 x refl same in omega (arith, bad)) in
    ap (λ b. cond b (Some i) (position_from (λ (h : GateValue). h.out == n) (i + 1) xs)) (ne_eqb x.out n other)
    ∙ position_first xs n (i + 1) pos g at out (λ j h got same. (let e = only (suc j) h got same in omega (arith, e)))
    ∙ ap Some (omega arith)

driver_is : (net : NetList) → IsSound net → (position : ℕ) (g : GateValue) → slice_get net.gates position ≡ Some g → driver net g.out ≡ Some g
driver_is net sound position g at =
    ap (option_and_then (slice_get net.gates)) (position_first net.gates g.out 0 position g at refl (λ j h got same. gates_apart net j position h g sound.inside sound.one got at same) ∙ ap Some (omega arith)) ∙ at

-- and it is found
pub driver_found : (net : NetList) → IsSound net → (position : ℕ) (g : GateValue) → slice_get net.gates position ≡ Some g → is_driven net g.out ≡ true
driver_found net sound position g at =
    ap is_some (position_first net.gates g.out 0 position g at refl (λ j h got same. gates_apart net j position h g sound.inside sound.one got at same))

-- a point is itself with its own bit
own_bit : (p : Point) (r : ℕ) → at_bit p r (p.is_one r) ≡ p
own_bit p r = λ i. record { words = p.words; is_one = λ s. same s i }
  where
    same : (s : ℕ) → cond (nat_eq s r) (p.is_one r) (p.is_one s) ≡ p.is_one s
    same s = (elim (nat_eq s r) as (λ b. nat_eq s r ≡ b → cond b (p.is_one r) (p.is_one s) ≡ p.is_one s) [
      | true ↦ λ e. ap p.is_one (sym (eqb-true s r e))
      | false ↦ λ e. refl
    ]) refl

module _ (k : ℕ) (mul : ℕ → ℕ → ℕ) (ring : IsRing k mul) (field : HasNoZeroDivisors k mul) where
  abbrev pub f : IsField k mul
  f = field_of k mul ring field

  -- the generator times the sum of both values puts the gate's bit in place of the point's
  pub put_in : (old new : Bool) (x y : ℕ) → IsElement k x → IsElement k y → bit_xor (cond old x y) (mul (bit_xor (cond old 1 0) (cond new 1 0)) (bit_xor x y)) ≡ cond new x y
  put_in true true x y hx hy = ap (bit_xor x) (ap (λ z. mul z (bit_xor x y)) (xor_self 1) ∙ product_zero f (bit_xor x y) (xor_lt k x y hx hy)) ∙ xor_zero_r x
  put_in false false x y hx hy = ap (bit_xor y) (ap (λ z. mul z (bit_xor x y)) (xor_self 0) ∙ product_zero f (bit_xor x y) (xor_lt k x y hx hy)) ∙ xor_zero_r y
  put_in true false x y hx hy =
      ap (bit_xor x) (ap (λ z. mul z (bit_xor x y)) (xor_zero_r 1) ∙ ring.one (bit_xor x y) (xor_lt k x y hx hy)) ∙ sym (xor_assoc x x y) ∙ ap (λ z. bit_xor z y) (xor_self x) ∙ xor_zero_l y
  put_in false true x y hx hy =
      ap (bit_xor y) (ap (λ z. mul z (bit_xor x y)) (xor_zero_l 1) ∙ ring.one (bit_xor x y) (xor_lt k x y hx hy) ∙ swapped x y) ∙ sym (xor_assoc y y x) ∙ ap (λ z. bit_xor z x) (xor_self y) ∙ xor_zero_l x
    where
      swapped : (a b : ℕ) → bit_xor a b ≡ bit_xor b a
      swapped a b = xor_comm a b

  -- with the claim a polynomial of at most n terms is within the bound
  pub low_of : (bound : BoundNet) (bases : List Basis) (claim : Terms) (n most : ℕ) → IsReduced k claim → length claim ≤ n → 4 * n ≤ most → (ts : Terms) → IsReduced k ts → length ts ≤ n → IsLow k mul bound bases f claim most (λ p. value mul p ts)
  low_of bound bases claim n most claimed small four ts reduced few =
      sized_same f (λ p. bit_xor (value mul p ts) (value mul p claim)) (λ p. bit_xor (value mul p ts) (value mul p claim)) (n + n) most (omega (arith, four)) (λ p at. refl)
      (sized_sum f (λ p. value mul p ts) (λ p. value mul p claim) n n (sized_of f ts n reduced few) (sized_of f claim n claimed small))

  module _ (bound : BoundNet) (bases : List Basis) (sound : IsSound bound.net) (one : IsOneCycle bound.net bound.binding) (claim : Terms) (n most : ℕ) (claimed : IsReduced k claim) (small : length claim ≤ n) (four : 4 * n ≤ most) where
    abbrev list : List ℕ
    list = variables (nets bound.net) bound.binding.words

    abbrev basis : List ℕ
    basis = output_basis bound.binding.words (map elements_of bases)

    abbrev Cut : ℕ → Point → ℕ → Type 0
    Cut t = IsCut bound.net list (output_word bound.binding.words basis) t

    abbrev WalkTo : (Point → ℕ) → (Point → ℕ) → List Step → Type 0
    WalkTo v w steps = Walk k mul bound bases f claim most v w steps

    -- cut 0 is the output word's element at the point's bits
    output_at : (p : Point) (e : ℕ) → Cut 0 p e → output_value k mul bound bases p ≡ e
    output_at p e cut =
        let same : index_of cut.bits (output_bits bound.binding.words) ≡ index (point_bit list p) (output_bits bound.binding.words) =
        index_same cut.bits (point_bit list p) (output_bits bound.binding.words) (λ m has. cut.settled.free m (one.outputs m has) (λ g first. absurd (let less = first.2 in omega (arith, less)))) in
        ap (combination basis) (sym same) ∙ cut.element.sum.is

    start : (ts : Terms) → IsOfStage k mul (Cut 0) ts → length ts ≤ n → WalkTo (output_value k mul bound bases) (λ p. value mul p ts) []
    start ts is few =
        let same : (p : Point) → IsPoint k p → output_value k mul bound bases p ≡ value mul p ts = λ p at. output_at p (value mul p ts) (is.values p at) in
        let low = low_of bound bases claim n most claimed small four ts is.reduced few in
        walk_none k mul bound bases f claim most (output_value k mul bound bases) (λ p. value mul p ts)
        (sized_same f (λ p. bit_xor (value mul p ts) (value mul p claim)) (λ p. bit_xor (output_value k mul bound bases p) (value mul p claim)) most most (omega arith) (λ p at. ap (λ x. bit_xor x (value mul p claim)) (sym (same p at))) low)
        same

    stands : (m : ℕ) → m < nets bound.net → Has list m
    stands m less = stands_in bound.net bound.binding m one less

    -- the cut after is the cut before with the gate's bit at its output
    next_value : (order : List ℕ) → IsElimination bound.net order → (t position : ℕ) (g : GateValue) (old new : Terms) → slice_get order t ≡ Some position → slice_get bound.net.gates position ≡ Some g
        → IsOfStage k mul (Cut t) old → IsOfStage k mul (Cut (suc t)) new → (p : Point) → IsPoint k p → value mul p new ≡ value mul (with_gate list g p) old
    next_value order is t position g old new at gate before after p point =
        let q : Point = with_gate list g p in
        let cut = before.values q (is_bit_point k p (rank_in list g.out) (gate_bit list g p) point) in
        let P : List ℕ → Type 0 = λ o. IsSettled bound.net list o t q cut.bits in
        let settled = subst P (one_elimination bound.net sound cut.order order cut.elimination is) cut.settled in
        let next = step bound.net sound list stands is.0 is.1 order is.2 t position g at gate p cut.bits settled in
        one_cut_of bound.net sound list (output_word bound.binding.words basis) (suc t) p (value mul p new) (value mul q old) (after.values p point) (record { order = order; elimination = is; bits = cut.bits; settled = next; element = cut.element })

    -- the pairs of one elimination
    one_step : (order : List ℕ) → IsElimination bound.net order → (t : ℕ) (last : List Step) (before after : Terms) → AreStepsOf k mul bound.net list (output_word bound.binding.words basis) order t last
        → IsOfStage k mul (Cut t) before → length before ≤ n → IsOfStage k mul (Cut (suc t)) after → length after ≤ n → WalkTo (λ p. value mul p before) (λ p. value mul p after) last
    one_step order is t last before after steps old few new few' =
        let g : GateValue = steps.gate in
        let r : ℕ = rank_in list g.out in
        let same : steps.terms ≡ before = same_terms k mul ring field (Cut t) (λ p x y at a b. one_cut_of bound.net sound list (output_word bound.binding.words basis) t p x y a b) steps.terms before steps.before old in
        let P : Terms → Type 0 = λ ts. AreStepsAt k r g.out ts last in
        let are : AreStepsAt k r g.out before last = subst P same steps.are in
        let next = next_value order is t steps.position g before after steps.at_order steps.at_net old new in
        elim (lacks_or r before) [
          | inl none ↦
              let Q : List Step → Type 0 = λ xs. WalkTo (λ p. value mul p before) (λ p. value mul p after) xs in
              subst Q (sym (are.absent none))
              (walk_none k mul bound bases f claim most (λ p. value mul p before) (λ p. value mul p after) (low_of bound bases claim n most claimed small four before old.reduced few) (λ p at. free p none ∙ sym (next p at)))
          | inr some ↦
              let one = are.present some in
              let Q : List Step → Type 0 = λ xs. WalkTo (λ p. value mul p before) (λ p. value mul p after) xs in
              subst Q (sym one.steps_are)
              (walk_one k mul bound bases f claim most (λ p. value mul p before) (λ p. value mul p after) (Net g.out, one.cofactor) (low_of bound bases claim n most claimed small four before old.reduced few) (low_of bound bases claim n most claimed small four after new.reduced few')
              (λ p at. stepped one.cofactor one.reduced one.is p at ∙ sym (next p at)))
        ]
      where
        free : (p : Point) → LacksBit (rank_in list steps.gate.out) before → value mul p before ≡ value mul (with_gate list steps.gate p) before
        free p none =
            let r : ℕ = rank_in list steps.gate.out in
            let at_false : (q : Point) → value mul q before ≡ value mul (at_bit q r false) before = λ q. ap (value mul q) (sym (all_lacking r before none)) ∙ value-lacking mul q r before in
            at_false p ∙ ap (λ (q : Point). value mul q before) (again p r (gate_bit list steps.gate p)) ∙ sym (at_false (with_gate list steps.gate p))
          where
            again : (p : Point) (r : ℕ) (b : Bool) → at_bit p r false ≡ at_bit (at_bit p r b) r false
            again p r b = λ i. record { words = p.words; is_one = λ s. same s i }
              where
                same : (s : ℕ) → cond (nat_eq s r) false (p.is_one s) ≡ cond (nat_eq s r) false (cond (nat_eq s r) b (p.is_one s))
                same s = elim (nat_eq s r) as (λ v. cond v false (p.is_one s) ≡ cond v false (cond v b (p.is_one s))) [ true ↦ refl | false ↦ refl ]

        stepped : (c : Terms) → IsReduced k c → IsCofactor (rank_in list steps.gate.out) before c → (p : Point) → IsPoint k p
            → bit_xor (value mul p before) (mul (generator_value k mul bound bases (Net steps.gate.out) p) (value mul p c)) ≡ value mul (with_gate list steps.gate p) before
        stepped c reduced is_c p at =
            let g : GateValue = steps.gate in
            let r : ℕ = rank_in list g.out in
            let x : ℕ = value mul (at_bit p r true) before in
            let y : ℕ = value mul (at_bit p r false) before in
            let hx : IsElement k x = value_element f (at_bit p r true) (is_bit_point k p r true at) before old.reduced.terms in
            let hy : IsElement k y = value_element f (at_bit p r false) (is_bit_point k p r false at) before old.reduced.terms in
            let whole : (b : Bool) → value mul (at_bit p r b) before ≡ cond b x y = λ b. elim b as (λ v. value mul (at_bit p r v) before ≡ cond v x y) [ true ↦ refl | false ↦ refl ] in
            let own : value mul p before ≡ cond (p.is_one r) x y = ap (λ (q : Point). value mul q before) (sym (own_bit p r)) ∙ whole (p.is_one r) in
            let is_same : c ≡ cofactors r before = same_map c (cofactors r before) reduced.is_map (reduced_cofactors k r before old.reduced).is_map (λ m. is_c m ∙ sym (is_cofactor r before old.reduced.is_map m)) in
            let part : value mul p c ≡ bit_xor x y = ap (value mul p) is_same ∙ value-cofactors mul p r before in
            let generator : generator_value k mul bound bases (Net g.out) p ≡ bit_xor (cond (p.is_one r) 1 0) (cond (gate_bit list g p) 1 0) =
            ap (λ d. bit_xor (cond (p.is_one r) 1 0) (driven_value list p d)) (driver_is bound.net sound steps.position g steps.at_net) in
            (λ i. bit_xor (own i) (mul (generator i) (part i)))
            ∙ put_in (p.is_one r) (gate_bit list g p) x y hx hy
            ∙ sym (whole (gate_bit list g p))

    -- the pairs of the first eliminations, where each cut so far has such a polynomial
    pub cuts_walk : (order : List ℕ) → IsElimination bound.net order → (t count : ℕ) (steps : List Step) → t ≤ count → ((s : ℕ) → s ≤ count → (ts : Terms) × IsOfStage k mul (Cut s) ts × (length ts ≤ n))
        → AreStepsTo k mul bound.net list (output_word bound.binding.words basis) order t steps → (ts : Terms) → IsOfStage k mul (Cut t) ts → length ts ≤ n → WalkTo (output_value k mul bound bases) (λ p. value mul p ts) steps
    cuts_walk order is zero count steps less cuts are ts of_ts few =
        let P : List Step → Type 0 = λ xs. WalkTo (output_value k mul bound bases) (λ p. value mul p ts) xs in
        subst P (sym are) (start ts of_ts few)
    cuts_walk order is (suc t) count steps less cuts (front, last, before, own, same) ts of_ts few =
        let cut = cuts t (omega (arith, less)) in
        let P : List Step → Type 0 = λ xs. WalkTo (output_value k mul bound bases) (λ p. value mul p ts) xs in
        subst P (sym same)
        (walk_then k mul bound bases f claim most (output_value k mul bound bases) (λ p. value mul p cut.0) (λ p. value mul p ts) front last
        (cuts_walk order is t count front (omega (arith, less)) cuts before cut.0 cut.1 cut.2)
        (one_step order is t last cut.0 ts own cut.1 cut.2 of_ts few))

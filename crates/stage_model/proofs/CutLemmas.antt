-- A cut relates each point to exactly one element.
use Rattle.std.proofs.Common.{◌≡◌, ◌∙◌, sym, subst, ℕ, ◌<◌, ◌^◌, ◌↔◌, Bool, List, arith}
use Rattle.net_core.specs.NetList.{NetList, nets}
use Rattle.net_core.specs.Sound.{IsSound}
use Rattle.circuit_model.specs.Word.{Word, HasElement}
use Rattle.circuit_model.specs.Circuit.{Circuit}
use Rattle.circuit_model.specs.WellFormed.{IsWellFormed}
use Rattle.circuit_model.proofs.WordLemmas.{same_element}
use Rattle.poly_mixed.specs.Polynomial.{Point}
use Rattle.poly_mixed.proofs.FirstWordLemmas.{first_point}
use Rattle.stage_model.specs.Variables.{point_bits, variables_of}
use Rattle.stage_model.specs.Cut.{IsSettled, IsCut, CutOf}
use Rattle.stage_model.proofs.EliminationLemmas.{some_elimination, one_elimination}
use Rattle.stage_model.proofs.SettleLemmas.{IsFree, some_settled, one_settled}
use Rattle.stage_model.proofs.PointLemmas.{point_bits_at, same_word, some_element}

pub one_cut_of : (net : NetList) → IsSound net → (variables : List ℕ) (output : Word) (t : ℕ) (p : Point) (e other : ℕ) → IsCut net variables output t p e → IsCut net variables output t p other → e ≡ other
one_cut_of net sound variables output t p e other a b =
    let P : List ℕ → Type 0 = λ order. IsSettled net variables order t p b.bits in
    let settled = subst P (one_elimination net sound b.order a.order b.elimination a.elimination) b.settled in
    let same = one_settled net sound a.order t variables p b.bits a.bits settled a.settled in
    let Q : List Bool → Type 0 = λ bits. HasElement bits output other in
    same_element a.bits output e other a.element (subst Q same b.element)

module _ (c : Circuit) (well : IsWellFormed c) where
  pub some_cut : (t : ℕ) (p : Point) → (e : ℕ) × CutOf c t p e × (e < 2 ^ c.k)
  some_cut t p =
      let order = some_elimination c.net well.sound in
      let bits = some_settled c.net well.sound order.0 t (variables_of c) p in
      let e = some_element c.k bits.0 c.output well.output in
      (e.0, record { order = order.0; elimination = order.1; bits = bits.0; settled = bits.1; element = e.1 }, e.2)

  pub one_cut : (t : ℕ) (p : Point) (e other : ℕ) → CutOf c t p e → CutOf c t p other → e ≡ other
  one_cut t p e other a b = one_cut_of c.net well.sound (variables_of c) c.output t p e other a b

  none_first : (order : List ℕ) (n : ℕ) → IsFree c.net order 0 n
  none_first order n g is out = let less = is.2 in omega arith

  pub first_cut : (p : Point) (e : ℕ) → CutOf c 0 p e ↔ HasElement (point_bits (nets c.net) (variables_of c) p) c.output e
  first_cut p e = (
    (λ cut. same_word cut.bits (point_bits (nets c.net) (variables_of c) p) c.output e
        (λ n has. let less = well.output_nets n has in cut.settled.free n less (none_first cut.order n) ∙ sym (point_bits_at (nets c.net) (variables_of c) p n less)) cut.element),
    λ is.
        let order = some_elimination c.net well.sound in
        let bits = some_settled c.net well.sound order.0 0 (variables_of c) p in
        record {
          order = order.0;
          elimination = order.1;
          bits = bits.0;
          settled = bits.1;
          element = same_word (point_bits (nets c.net) (variables_of c) p) bits.0 c.output e
              (λ n has. let less = well.output_nets n has in point_bits_at (nets c.net) (variables_of c) p n less ∙ sym (bits.1.free n less (none_first order.0 n))) is;
        },
  )

-- cuts do not depend on the words' elements
pub wordless_cut : (net : NetList) (variables : List ℕ) (output : Word) (t : ℕ) (p : Point) (e : ℕ) → IsCut net variables output t (first_point 0 p) e → IsCut net variables output t p e
wordless_cut net variables output t p e cut = record {
  order = cut.order;
  elimination = cut.elimination;
  bits = cut.bits;
  settled = record { long = cut.settled.long; free = cut.settled.free; right = cut.settled.right };
  element = cut.element;
}

-- Inputs whose first words have the point's elements and whose other words have its bits.
use Rattle.std.proofs.Common.{◌≡◌, ◌∙◌, ap, sym, refl, subst, inl, inr, ℕ, zero, suc, ◌<◌, ◌≤◌, ◌^◌, ◌↔◌, Bool, List, [], ◌∷◌, length, take, Some, arith}
use Rattle.std.specs.Prelude.{slice_get}
use Rattle.std.proofs.lemmas.Bool.{cases_lt}
use Rattle.std.proofs.lemmas.List.{length-take}
use Rattle.std.proofs.lemmas.Option.{slice_get_within}
use Rattle.std.specs.List.{AllByRecursion}
use Rattle.lists.specs.Lists.{Has}
use Rattle.lists.specs.laws.HasLaws.{all_in}
use Rattle.lists.specs.laws.ReadLaws.{get_below, same_lists}
use Rattle.net_core.specs.NetList.{nets}
use Rattle.circuit_model.specs.Word.{Word, HasElement}
use Rattle.circuit_model.specs.WellFormed.{IsWord, IsWellFormed}
use Rattle.circuit_model.specs.Circuit.{Circuit, IsInput}
use Rattle.circuit_model.specs.Out.{IsOut}
use Rattle.circuit_model.proofs.WordLemmas.{same_element}
use Rattle.circuit_model.proofs.OutLemmas.{some_out, one_out}
use Rattle.poly_mixed.specs.Polynomial.{Point, IsPoint, IsElement}
use Rattle.stage_model.specs.Variables.{point_bits, variables_of}
use Rattle.stage_model.specs.Mix.{IsMixedInput, IsMix}
use Rattle.stage_model.specs.InputPoint.{input_of}
use Rattle.stage_model.specs.Cut.{CutOf}
use Rattle.stage_model.proofs.LastCutLemmas.{last_cut}
use Rattle.stage_model.proofs.PointLemmas.{some_element}

-- elements of words, the first w out of a list and the others by bits
record IsMixed (k : ℕ) (bits : List Bool) (w : ℕ) (words : List Word) (ys xs : List ℕ) : Type 0 where
  pub long : length xs ≡ length words
  pub elements : (x : ℕ) → Has xs x → x < 2 ^ k
  pub first : (i x : ℕ) → i < w → slice_get xs i ≡ Some x → slice_get ys i ≡ Some x
  pub others : (i x : ℕ) (word : Word) → w ≤ i → slice_get words i ≡ Some word → slice_get xs i ≡ Some x → HasElement bits word x

module _ (k : ℕ) (bits : List Bool) where
  by_bits : (word : Word) (words : List Word) (ys xs : List ℕ) (e : ℕ) → HasElement bits word e → e < 2 ^ k → IsMixed k bits 0 words ys xs → IsMixed k bits 0 (word ∷ words) ys (e ∷ xs)
  by_bits word words ys xs e is less rest = record { long = ap suc rest.long; elements = elements; first = λ i x low got. absurd (omega arith); others = others }
    where
      elements : (x : ℕ) → Has (e ∷ xs) x → x < 2 ^ k
      elements x (zero, got) = let same : e ≡ x = cc in let P : ℕ → Type 0 = λ y. y < 2 ^ k in subst P same less
      elements x (suc i, got) = rest.elements x (i, got)

      others : (i x : ℕ) (v : Word) → 0 ≤ i → slice_get (word ∷ words) i ≡ Some v → slice_get (e ∷ xs) i ≡ Some x → HasElement bits v x
      others zero x v high at got =
          let same : word ≡ v = cc in
          let equal : e ≡ x = cc in
          let P : Word → Type 0 = λ u. HasElement bits u x in
          let Q : ℕ → Type 0 = λ y. HasElement bits word y in
          subst P same (subst Q equal is)
      others (suc i) x v high at got = rest.others i x v (omega arith) at got

  by_point : (w : ℕ) (word : Word) (words : List Word) (y : ℕ) (ys xs : List ℕ) → y < 2 ^ k → IsMixed k bits w words ys xs → IsMixed k bits (suc w) (word ∷ words) (y ∷ ys) (y ∷ xs)
  by_point w word words y ys xs less rest = record { long = ap suc rest.long; elements = elements; first = first; others = others }
    where
      elements : (x : ℕ) → Has (y ∷ xs) x → x < 2 ^ k
      elements x (zero, got) = let same : y ≡ x = cc in let P : ℕ → Type 0 = λ z. z < 2 ^ k in subst P same less
      elements x (suc i, got) = rest.elements x (i, got)

      first : (i x : ℕ) → i < suc w → slice_get (y ∷ xs) i ≡ Some x → slice_get (y ∷ ys) i ≡ Some x
      first zero x low got = got
      first (suc i) x low got = rest.first i x (omega arith) got

      others : (i x : ℕ) (v : Word) → suc w ≤ i → slice_get (word ∷ words) i ≡ Some v → slice_get (y ∷ xs) i ≡ Some x → HasElement bits v x
      others zero x v high at got = absurd (omega arith)
      others (suc i) x v high at got = rest.others i x v (omega arith) at got

  some_mixed : (w : ℕ) (words : List Word) (ys : List ℕ) → ((v : Word) → Has words v → IsWord k v) → AllByRecursion (IsElement k) ys → length words ≤ length ys → (xs : List ℕ) × IsMixed k bits w words ys xs
  some_mixed w [] ys are below long = ([], record { long = refl; elements = λ x has. let got = has.1 in absurd (cc); first = λ i x low got. absurd (cc); others = λ i x v high at got. absurd (cc) })
  some_mixed w (word ∷ words) [] are below long = absurd (omega arith)
  some_mixed zero (word ∷ words) (y ∷ ys) are below long =
      let e = some_element k bits word (are word (0, refl)) in
      let rest = some_mixed zero words ys (λ v has. are v (suc has.0, has.1)) below.1 (omega arith) in
      let mixed : IsMixed k bits 0 words (y ∷ ys) rest.0 = record { long = rest.1.long; elements = rest.1.elements; first = λ i x low got. absurd (omega arith); others = rest.1.others } in
      (e.0 ∷ rest.0, by_bits word words (y ∷ ys) rest.0 e.0 e.1 e.2 mixed)
  some_mixed (suc w) (word ∷ words) (y ∷ ys) are below long =
      let rest = some_mixed w words ys (λ v has. are v (suc has.0, has.1)) below.1 (omega arith) in
      (y ∷ rest.0, by_point w word words y ys rest.0 below.0 rest.1)

pub of_taken : (m : ℕ) (ys : List ℕ) (i x : ℕ) → slice_get (take m ys) i ≡ Some x → slice_get ys i ≡ Some x
of_taken zero ys i x got = absurd (cc)
of_taken (suc m) [] i x got = got
of_taken (suc m) (y ∷ ys) zero x got = got
of_taken (suc m) (y ∷ ys) (suc i) x got = of_taken m ys i x got

below : (k : ℕ) (ys : List ℕ) (m x : ℕ) → AllByRecursion (IsElement k) ys → (i : ℕ) → slice_get (take m ys) i ≡ Some x → x < 2 ^ k
below k ys m x all i got = all_in (IsElement k) ys x all (i, of_taken m ys i x got)

-- for each number of words a point has such an input
pub some_mixed_input : (c : Circuit) → IsWellFormed c → (w : ℕ) (p : Point) → IsPoint c.k p → (xs : List ℕ) × IsInput c xs × IsMixedInput c w p xs
some_mixed_input c well w p at =
    let found = some_mixed c.k (point_bits (nets c.net) (variables_of c) p) w c.words p.words well.words at.elements (omega (arith, well.few, at.words)) in
    (found.0, record { long = found.1.long; elements = found.1.elements }, record { words = found.1.first; bits = found.1.others })

module _ (c : Circuit) (w : ℕ) (p : Point) (xs ys : List ℕ) (a : IsInput c xs) (b : IsInput c ys) (m : IsMixedInput c w p xs) (n : IsMixedInput c w p ys) where
  same_at : (i x y : ℕ) → slice_get xs i ≡ Some x → slice_get ys i ≡ Some y → x ≡ y
  same_at i x y got got' =
      elim (cases_lt i w) [
        | inl low ↦ let first : slice_get p.words i ≡ Some x = m.words i x low got in let second : slice_get p.words i ≡ Some y = n.words i y low got' in cc
        | inr high ↦
            let word = get_below c.words i (omega (arith, slice_get_within xs i x got, a.long)) in
            same_element (point_bits (nets c.net) (variables_of c) p) word.0 x y (m.bits i x word.0 high word.1 got) (n.bits i y word.0 high word.1 got')
      ]

  pub one_mixed_input : xs ≡ ys
  one_mixed_input = same_lists xs ys (a.long ∙ sym b.long) same_at

module _ (c : Circuit) (well : IsWellFormed c) where
  pub some_mix : (w : ℕ) (p : Point) → IsPoint c.k p → (e : ℕ) × IsMix c w p e × (e < 2 ^ c.k)
  some_mix w p at =
      let found = some_mixed_input c well w p at in
      let out = some_out c found.0 well found.1 in
      (out.0, record { xs = found.0; mixed = found.2; output = out.1 }, out.2)

  pub one_mix : (w : ℕ) (p : Point) (e other : ℕ) → IsMix c w p e → IsMix c w p other → e ≡ other
  one_mix w p e other a b =
      let same = one_mixed_input c w p b.xs a.xs b.output.is_run.open_run.input a.output.is_run.open_run.input b.mixed a.mixed in
      let P : List ℕ → Type 0 = λ xs. IsOut c xs other in
      one_out c a.xs e other well a.output (subst P same b.output)

  pub mix_none : c.net.latches ≡ [] → (p : Point) (e : ℕ) → IsPoint c.k p → IsMix c 0 p e ↔ CutOf c (length c.net.gates) p e
  mix_none flat p e at = (
    (λ mix. (last_cut c well flat p mix.xs e mix.output.is_run.open_run.input (λ i w x got here any. mix.mixed.bits i x w (omega arith) got here)).1 mix.output),
    λ cut.
        let found = some_mixed_input c well 0 p at in
        record { xs = found.0; mixed = found.2; output = (last_cut c well flat p found.0 e found.1 (λ i w x got here any. found.2.bits i x w (omega arith) got here)).0 cut },
  )

  pub mix_all : (p : Point) (e : ℕ) → IsPoint c.k p → IsMix c (length c.words) p e ↔ IsOut c (input_of c p) e
  mix_all p e at = (
    (λ mix. let P : List ℕ → Type 0 = λ xs. IsOut c xs e in
        subst P (one_mixed_input c (length c.words) p mix.xs (input_of c p) mix.output.is_run.open_run.input input mix.mixed mixed) mix.output),
    λ out. record { xs = input_of c p; mixed = mixed; output = out },
  )
    where
      long : length (input_of c p) ≡ length c.words
      long = omega (arith, length-take (length c.words) p.words, well.few, at.words)

      input : IsInput c (input_of c p)
      input = record { long = long; elements = λ x has. below c.k p.words (length c.words) x at.elements has.0 has.1 }

      mixed : IsMixedInput c (length c.words) p (input_of c p)
      mixed = record {
        words = λ i x low got. of_taken (length c.words) p.words i x got;
        bits = λ i x word high here got. absurd (omega (arith, slice_get_within c.words i word here));
      }

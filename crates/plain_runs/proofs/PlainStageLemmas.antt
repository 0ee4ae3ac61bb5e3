-- What the plain program makes of words are polynomials of their stages.
use Rattle.std.proofs.Common.{◌≡◌, ◌∙◌, sym, refl, subst, ℕ, ◌<◌, ◌≤◌, ◌+◌, ◌-◌, List, length, map, Some, arith}
use Rattle.std.specs.Prelude.{slice_get, slice_index}
use Rattle.std.proofs.lemmas.Option.{slice_get-map, slice_get_within, get_or_from_slice_get}
use Rattle.std.proofs.lemmas.List.{length-map}
use Rattle.net_core.specs.NetList.{NetList}
use Rattle.gf_basis.specs.Basis.{AreBits}
use Rattle.gf_basis.specs.BasisParts.{elements_of}
use Rattle.circuit_model.specs.declared.circuit_word.CircuitWord.{CircuitWord}
use Rattle.circuit_model.specs.Word.{Word}
use Rattle.circuit_model.specs.Flat.{word_of, circuit_of_parts}
use Rattle.poly_mixed.specs.Monomial.{Monomial}
use Rattle.poly_mixed.specs.Polynomial.{Terms, Point}
use Rattle.stage_model.specs.WordStage.{IsRead}
use Rattle.stage_model.specs.PlainWord.{IsProductOf, IsSumOf, HasBitAt, IsProductStage, IsSumStage}
use Rattle.stage_model.proofs.WordStageLemmas.{some_read}

module _ (k : ℕ) (mul : ℕ → ℕ → ℕ) (words : List CircuitWord) (w : ℕ) (word : CircuitWord) (at_word : slice_get words w ≡ Some word) where
  -- the bits that the plain program reads are those of the definition
  read_bits : (net : NetList) (output : CircuitWord) (p : Point) (d : ℕ) → IsRead (circuit_of_parts k mul net words output) w p d → AreBits (elements_of word.basis) (slice_index p.words w) d
  read_bits net output p d read =
      let here : slice_get (map word_of words) w ≡ Some (word_of word) = slice_get-map word_of words w ∙ rw at_word refl in
      let here' : slice_get (map word_of words) w ≡ Some read.word = read.at_word in
      let same : read.word ≡ word_of word = cc in
      let P : Word → Type 0 = λ v. AreBits v.basis read.element d in
      let Q : ℕ → Type 0 = λ x. AreBits (elements_of word.basis) x d in
      subst Q (sym (get_or_from_slice_get p.words w read.element 0 read.at_point)) (subst P same read.bits)

  inside : (net : NetList) (output : CircuitWord) → w < length (circuit_of_parts k mul net words output).words
  inside net output = omega (arith, slice_get_within words w word at_word, length-map words word_of)

  pub product_is : (terms : Terms) (place s j : ℕ) (t : Monomial × ℕ) (ts : Terms) → place + 1 ≡ s → slice_get terms place ≡ Some t → IsProductOf k mul (elements_of word.basis) w t j ts → IsProductStage k mul words terms w s j ts
  product_is terms place s j t ts number at is net output well before = record {
    reduced = is.reduced;
    values = λ p at_p.
        let read = some_read (circuit_of_parts k mul net words output) well w p at_p (inside net output) in
        record {
          term = t;
          is_term = record { terms = terms; before = before; place = place; number = number; at = at };
          d = read.0;
          read = read.1;
          element = sym (is.values p read.0 at_p (read_bits net output p read.0 read.1));
        };
  }

  pub sum_is : (terms : Terms) (s : ℕ) (ts : Terms) → IsSumOf k mul (elements_of word.basis) w terms s ts → IsSumStage k mul words terms w s ts
  sum_is terms s ts is net output well before = record {
    reduced = is.reduced;
    values = λ p at_p.
        let read = some_read (circuit_of_parts k mul net words output) well w p at_p (inside net output) in
        record { terms = terms; before = before; d = read.0; read = read.1; element = sym (is.values p read.0 at_p (read_bits net output p read.0 read.1)) };
  }

-- a bit of a term stands in a word and in a term that exist
pub has_places : (k count : ℕ) (terms : Terms) (w s j : ℕ) → HasBitAt k count terms w s j → (w < count) × (1 ≤ s) × (s ≤ length terms)
has_places k count terms w s j has = (has.within, omega (arith, has.number), omega (arith, has.number, slice_get_within terms has.place has.term has.at))

pub term_place : (s : ℕ) → 1 ≤ s → s - 1 + 1 ≡ s
term_place s some = omega arith

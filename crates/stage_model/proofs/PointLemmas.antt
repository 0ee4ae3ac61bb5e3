-- The bits of points, and the elements of words.
use Rattle.std.proofs.Common.{◌≡◌, ◌∙◌, ap, sym, refl, ℕ, ◌<◌, ◌^◌, Bool, false, List, length, arith}
use Rattle.std.specs.Prelude.{unwrap_or}
use Rattle.std.proofs.lemmas.List.FromFn.{get_or-map-range_with_len, length-map-range_with_len}
use Rattle.std.proofs.lemmas.Option.{slice_get-get_or}
use Rattle.lists.specs.Lists.{Has}
use Rattle.irreducible.specs.Span.{combination}
use Rattle.irreducible.specs.laws.SpanLaws.{combination_below}
use Rattle.net_core.specs.Value.{bit_of, index_of}
use Rattle.net_core.proofs.EvalLemmas.{index_agree}
use Rattle.circuit_model.specs.Word.{Word, HasElement}
use Rattle.circuit_model.specs.WellFormed.{IsWord}
use Rattle.circuit_model.proofs.WordLemmas.{index_small, moved}
use Rattle.poly_mixed.specs.Polynomial.{Point}
use Rattle.stage_model.specs.Variables.{point_bit, point_bits}

pub point_bits_long : (count : ℕ) (variables : List ℕ) (p : Point) → length (point_bits count variables p) ≡ count
point_bits_long count variables p = length-map-range_with_len (point_bit variables p) 0 count

pub point_bits_at : (count : ℕ) (variables : List ℕ) (p : Point) (n : ℕ) → n < count → bit_of (point_bits count variables p) n ≡ point_bit variables p n
point_bits_at count variables p n less =
    ap (λ o. unwrap_or o false) (slice_get-get_or (point_bits count variables p) n false (omega (arith, less, point_bits_long count variables p)))
    ∙ get_or-map-range_with_len (point_bit variables p) 0 count n n false less (omega arith)

-- bits in which each net of the word has the same bit
pub same_word : (u v : List Bool) (w : Word) (x : ℕ) → ((n : ℕ) → Has w.nets n → bit_of u n ≡ bit_of v n) → HasElement u w x → HasElement v w x
same_word u v w x same is = moved u v w x (index_agree u v w.nets (λ k n got. same n (k, got))) is

-- a word has an element in any bits
pub some_element : (k : ℕ) (bits : List Bool) (w : Word) → IsWord k w → (x : ℕ) × HasElement bits w x × (x < 2 ^ k)
some_element k bits w is =
    let long : length w.basis ≡ length w.nets = is.basis.size ∙ sym is.nets in
    let short : index_of bits w.nets < 2 ^ length w.basis = rw long (index_small bits w.nets) in (
      combination w.basis (index_of bits w.nets),
      record { long = long; sum = record { short = short; is = refl } },
      combination_below w.basis k (index_of bits w.nets) (λ i less. is.basis.inside i less),
    )

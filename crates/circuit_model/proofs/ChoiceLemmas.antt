-- Bits for words that have given elements.
use Rattle.std.proofs.Common.{◌≡◌, ◌∙◌, ap, sym, refl, subst, ℕ, zero, suc, ◌<◌, ◌^◌, Bool, List, [], ◌∷◌, ◌++◌, length, Some, arith}
use Rattle.std.specs.Prelude.{slice_get}
use Rattle.lists.specs.Lists.{Has}
use Rattle.lists.specs.laws.HasLaws.{Has_left, Has_right}
use Rattle.net_core.specs.Value.{bit_of}
use Rattle.gf_basis.specs.Basis.{IsBasis, AreBits}
use Rattle.circuit_model.specs.Word.{Word, HasElement, word_nets}
use Rattle.circuit_model.proofs.GivenLemmas.{Pairs, keys, Gives, has_key}
use Rattle.circuit_model.proofs.WordLemmas.{word_pairs, word_index, keys_word, keys_append}

-- the word's nets have the pairs' bits
abbrev pub GivesAt : List Bool → Word → Pairs → Type 0
GivesAt bits w ps = (n : ℕ) (b : Bool) → Has ps (n, b) → Has w.nets n → bit_of bits n ≡ b

-- where the nets of word i have the pairs' bits, and it has a net for each element of its basis, it has element i
abbrev pub GiveElements : List Word → List ℕ → Pairs → Type 0
GiveElements ws xs ps = (bits : List Bool) (i : ℕ) (w : Word) (x : ℕ) → slice_get ws i ≡ Some w → slice_get xs i ≡ Some x → length w.basis ≡ length w.nets → GivesAt bits w ps → HasElement bits w x

own : (w : Word) (x d : ℕ) (bits : List Bool) → length w.basis ≡ length w.nets → AreBits w.basis x d → GivesAt bits w (word_pairs w.nets d) → HasElement bits w x
own w x d bits long chosen gives =
    let short : d < 2 ^ length w.nets = rw (← long) (chosen.short) in
    let P : ℕ → Type 0 = AreBits w.basis x in
    let all : Gives (bit_of bits) (word_pairs w.nets d) = λ n b has. gives n b has (in_word n b has) in
    record { long = long; sum = subst P (sym (word_index bits w.nets d short all)) chosen }
  where
    in_word : (n : ℕ) (b : Bool) → Has (word_pairs w.nets d) (n, b) → Has w.nets n
    in_word n b has =
        let R : List ℕ → Type 0 = λ ns. Has ns n in
        subst R (keys_word w.nets d) (has_key (word_pairs w.nets d) n b has)

-- a bit for each net of the words
pub choose : (k : ℕ) (ws : List Word) (xs : List ℕ) → length xs ≡ length ws → ((w : Word) → Has ws w → IsBasis k w.basis) → ((x : ℕ) → Has xs x → x < 2 ^ k) → (ps : Pairs) × (keys ps ≡ word_nets ws) × GiveElements ws xs ps
choose k [] xs long words below = ([], refl, λ bits i w x got at gives. absurd (cc))
choose k (w ∷ ws) [] long words below = absurd (omega arith)
choose k (w ∷ ws) (x ∷ xs) long words below =
    let rest = choose k ws xs (omega arith) (λ u has. words u (suc has.0, has.1)) (λ y has. below y (suc has.0, has.1)) in
    let is : IsBasis k w.basis = words w (0, refl) in
    let only = is.sums x (below x (0, refl)) in
    let first : Pairs = word_pairs w.nets only.choice in (
      first ++ rest.0,
      keys_append first rest.0 ∙ (ap (λ ms. ms ++ keys rest.0) (keys_word w.nets only.choice) ∙ ap (λ ms. w.nets ++ ms) rest.1),
      split first rest.0 only.choice only.chosen refl rest.2,
    )
  where
    split : (first others : Pairs) (d : ℕ) → AreBits w.basis x d → first ≡ word_pairs w.nets d → GiveElements ws xs others → GiveElements (w ∷ ws) (x ∷ xs) (first ++ others)
    split first others d chosen made later bits zero u y got at long gives =
        let same : w ≡ u = cc in
        let equal : x ≡ y = cc in
        let S : Word → Type 0 = λ v. GivesAt bits v (first ++ others) in
        let whole : GivesAt bits w (first ++ others) = subst S (sym same) gives in
        let left : GivesAt bits w first = λ n b has in_w. whole n b (Has_left first others (n, b) has) in_w in
        let P : Pairs → Type 0 = λ ps. GivesAt bits w ps in
        let Q : Word → Type 0 = λ v. HasElement bits v y in
        let R : ℕ → Type 0 = λ z. HasElement bits w z in
        subst Q same (subst R equal (own w x d bits (let T : Word → Type 0 = λ v. length v.basis ≡ length v.nets in subst T (sym same) long) chosen (subst P made left)))
    split first others d chosen made later bits (suc i) u y got at long gives = later bits i u y got at long (λ n b has in_u. gives n b (Has_right first others (n, b) has) in_u)

-- The bits that the plain program finds for feeds.
use Rattle.std.proofs.Common.{◌≡◌, ◌∙◌, ap, sym, subst, ℕ, ◌<◌, ◌≤◌, ◌^◌, Bool, false, List, map, Some}
use Rattle.std.specs.Prelude.{slice_get, ◌==◌}
use Rattle.std.specs.Int.{bit_at}
use Rattle.std.proofs.lemmas.Nat.Bits.{bit_at_above}
use Rattle.lists.specs.laws.ReadLaws.{from_map}
use Rattle.net_core.specs.Value.{bit_of}
use Rattle.gf_basis.specs.Basis.{AreBits}
use Rattle.gf_basis.specs.BasisParts.{elements_of, IsBasisOver}
use Rattle.circuit_model.specs.declared.circuit_feed.CircuitFeed.{CircuitFeed}
use Rattle.circuit_model.specs.declared.circuit_feed.FeedSource.TheVariants.{Bit}
use Rattle.circuit_model.specs.declared.circuit_word.CircuitWord.{CircuitWord}
use Rattle.circuit_model.specs.Word.{Word}
use Rattle.circuit_model.specs.Run.{HasSource}
use Rattle.circuit_model.specs.Flat.{word_of}
use Rattle.plain_runs.specs.private.Cycle.{HasItsSource, AreFed}

pub high_bit : (bits place : ℕ) → bits < 2 ^ 64 → 64 ≤ place → false ≡ (bit_at bits place == 1)
high_bit bits place small high = ap (λ b. b == 1) (sym (bit_at_above bits 64 place small high))

-- an element has one choice of a basis
pub same_choice : (k : ℕ) (product : ℕ → ℕ → ℕ) (v w : CircuitWord) (y x e d place : ℕ) → IsBasisOver k product v.basis → y < 2 ^ k → v ≡ w → y ≡ x → AreBits (elements_of v.basis) y e → AreBits (elements_of w.basis) x d → (bit_at e place == 1) ≡ (bit_at d place == 1)
same_choice k product v w y x e d place over less same equal a b =
    let only = over.elements.sums y less in
    let P : CircuitWord → Type 0 = λ u. AreBits (elements_of u.basis) y d in
    let Q : ℕ → Type 0 = λ z. AreBits (elements_of w.basis) z d in
    let b' : AreBits (elements_of v.basis) y d = subst P (sym same) (subst Q (sym equal) b) in
    ap (λ n. bit_at n place == 1) (only.only e a ∙ sym (only.only d b'))

-- the bit of a place of a word is the bit of the source
pub place_source : (words : List CircuitWord) (xs : List ℕ) (i place : ℕ) (b : Bool) → ((w : CircuitWord) (x d : ℕ) → slice_get words i ≡ Some w → slice_get xs i ≡ Some x → AreBits (elements_of w.basis) x d → b ≡ (bit_at d place == 1)) → HasSource (map word_of words) xs (Bit i place) b
place_source words xs i place b is w x d got value chosen =
    let found = from_map word_of words i w got in
    let P : Word → Type 0 = λ v. AreBits v.basis x d in
    is found.0 x d found.1 value (subst P (sym found.2) chosen)

-- where each feed's net has its bit, each fed net has
pub each_fed : (words : List CircuitWord) (xs : List ℕ) (feeds : List CircuitFeed) (t : ℕ) (bits : List Bool) → ((k : ℕ) (f : CircuitFeed) → slice_get feeds k ≡ Some f → HasItsSource words xs feeds t f.net (bit_of bits f.net)) → AreFed words xs feeds t bits
each_fed words xs feeds t bits each n has =
    let found = from_map (λ (f : CircuitFeed). f.net) feeds has.0 n has.1 in
    let P : ℕ → Type 0 = λ m. HasItsSource words xs feeds t m (bit_of bits m) in
    subst P found.2 (each has.0 found.0 found.1)

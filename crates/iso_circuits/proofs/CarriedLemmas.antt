-- Runs of a circuit are those of the same nets over an isomorphic field.
use Rattle.std.proofs.Common.{◌≡◌, ◌∙◌, ap, sym, refl, subst, ℕ, zero, suc, ◌<◌, ◌*◌, ◌^◌, Bool, List, [], ◌∷◌, ◌++◌, length, map, Some, slice_get}
use Rattle.lists.specs.Lists.{Has}
use Rattle.lists.specs.laws.ListLaws.{length_map}
use Rattle.lists.specs.laws.ReadLaws.{from_map, mapped_at}
use Rattle.net_core.specs.Value.{bit_of, index_of}
use Rattle.gf_basis.specs.Basis.{AreBits, IsBasis, first_values}
use Rattle.gf_iso.specs.Images.{KeepsBases}
use Rattle.gf_iso.proofs.ImageLemmas.{KeepsBases-iso}
use Rattle.circuit_model.specs.Circuit.{Circuit, IsInNoWord, IsInput}
use Rattle.circuit_model.specs.Feeds.{source_at}
use Rattle.circuit_model.specs.Out.{IsOut}
use Rattle.circuit_model.specs.Run.{HasSource, HasZeros, HaveElements, IsClockCycle, IsFirst, IsRun}
use Rattle.circuit_model.specs.Word.{HasElement, IsInputWord, IsStateWord, Word, word_nets}
use Rattle.circuit_model.specs.declared.circuit_feed.FeedSource.{FeedSource}
use Rattle.circuit_model.specs.declared.circuit_feed.FeedSource.TheVariants.{Bit, Constant}
use Rattle.iso_circuits.specs.Carried.{AreUnitImages, HasBases, HaveImageOutputs, carried, carried_word}

nets_same : (there : ℕ → ℕ) (ws : List Word) → word_nets (map (carried_word there) ws) ≡ word_nets ws
nets_same there [] = refl
nets_same there (w ∷ ws) = ap (λ (ns : List ℕ). w.nets ++ ns) (nets_same there ws)

-- ---- words
module _ (k : ℕ) (there : ℕ → ℕ) (keeps : KeepsBases k there) where
  element_to : (bits : List Bool) (w : Word) (x : ℕ) → IsBasis k w.basis → x < 2 ^ k → HasElement bits w x → HasElement bits (carried_word there w) (there x)
  element_to bits w x basis low has = record {
    long = length_map there w.basis ∙ has.long;
    sum = (keeps.same_bits w.basis x (index_of bits w.nets) basis low).0 has.sum;
  }

  element_from : (bits : List Bool) (w : Word) (x : ℕ) → IsBasis k w.basis → x < 2 ^ k → HasElement bits (carried_word there w) (there x) → HasElement bits w x
  element_from bits w x basis low has = record {
    long = sym (length_map there w.basis) ∙ has.long;
    sum = (keeps.same_bits w.basis x (index_of bits w.nets) basis low).1 has.sum;
  }

-- ---- runs
module _ (big : ℕ → ℕ → ℕ) (there : ℕ → ℕ) (c : Circuit) (keeps : KeepsBases c.k there) (closed : (x : ℕ) → x < 2 ^ c.k → there x < 2 ^ c.k) (bases : HasBases c) (xs : List ℕ) (input : IsInput c xs) where
  abbrev d : Circuit
  d = carried big there c

  abbrev ys : List ℕ
  ys = map there xs

  low_at : (i x : ℕ) → slice_get xs i ≡ Some x → x < 2 ^ c.k
  low_at i x got = input.elements x (i, got)

  basis_at : (i : ℕ) (w : Word) → slice_get c.words i ≡ Some w → IsBasis c.k w.basis
  basis_at i w got = bases.words w (i, got)

  image_input : IsInput d ys
  image_input = record {
    long = length_map there xs ∙ (input.long ∙ sym (length_map (carried_word there) c.words));
    elements = λ y has.
        let x = from_map there xs has.0 y has.1 in
        let P : ℕ → Type 0 = λ v. v < 2 ^ c.k in
        subst P x.2 (closed x.0 (low_at has.0 x.0 x.1));
  }

  -- words that have elements have the images of these, and back
  have_to : (P : Word → Type 0) → ((w : Word) → P (carried_word there w) → P w) → (bits : List Bool) → HaveElements c P xs bits → HaveElements d P ys bits
  have_to P own bits have i v y got_v got_y p =
      let w = from_map (carried_word there) c.words i v got_v in
      let x = from_map there xs i y got_y in
      let Q : Word → Type 0 = λ u. HasElement bits u y in
      let R : ℕ → Type 0 = λ z. HasElement bits (carried_word there w.0) z in
      subst Q w.2 (subst R x.2
      (element_to c.k there keeps bits w.0 x.0 (basis_at i w.0 w.1) (low_at i x.0 x.1) (have i w.0 x.0 w.1 x.1 (own w.0 (subst P (sym w.2) p)))))

  have_from : (P : Word → Type 0) → ((w : Word) → P w → P (carried_word there w)) → (bits : List Bool) → HaveElements d P ys bits → HaveElements c P xs bits
  have_from P own bits have i w x got_w got_x p =
      element_from c.k there keeps bits w x (basis_at i w got_w) (low_at i x got_x)
      (have i (carried_word there w) (there x) (mapped_at (carried_word there) c.words i w got_w) (mapped_at there xs i x got_x) (own w p))

  -- and sources have the same bits
  source_to : (s : FeedSource) (b : Bool) → HasSource c.words xs s b → HasSource d.words ys s b
  source_to (Constant constant) b has = has
  source_to (Bit i place) b has = λ v y bits got_v got_y are.
      let w = from_map (carried_word there) c.words i v got_v in
      let x = from_map there xs i y got_y in
      let Q : Word → Type 0 = λ u. AreBits u.basis y bits in
      let R : ℕ → Type 0 = λ z. AreBits (map there (w.0).basis) z bits in
      has w.0 x.0 bits w.1 x.1
      ((keeps.same_bits (w.0).basis x.0 bits (basis_at i w.0 w.1) (low_at i x.0 x.1)).1 (subst R (sym x.2) (subst Q (sym w.2) are)))

  source_from : (s : FeedSource) (b : Bool) → HasSource d.words ys s b → HasSource c.words xs s b
  source_from (Constant constant) b has = has
  source_from (Bit i place) b has = λ w x bits got_w got_x are.
      has (carried_word there w) (there x) bits (mapped_at (carried_word there) c.words i w got_w) (mapped_at there xs i x got_x)
      ((keeps.same_bits w.basis x bits (basis_at i w got_w) (low_at i x got_x)).0 are)

  -- a net is in no word of the one exactly if it is in none of the other
  unnamed_to : (n : ℕ) → IsInNoWord c n → IsInNoWord d n
  unnamed_to n none has = let P : List ℕ → Type 0 = λ ns. Has ns n in none (subst P (nets_same there c.words) has)

  unnamed_from : (n : ℕ) → IsInNoWord d n → IsInNoWord c n
  unnamed_from n none has = let P : List ℕ → Type 0 = λ ns. Has ns n in none (subst P (sym (nets_same there c.words)) has)

  zeros_to : (bits : List Bool) → HasZeros c bits → HasZeros d bits
  zeros_to bits zeros n free = zeros n (record { input = free.input; unnamed = unnamed_from n free.unnamed; unfed = free.unfed })

  zeros_from : (bits : List Bool) → HasZeros d bits → HasZeros c bits
  zeros_from bits zeros n free = zeros n (record { input = free.input; unnamed = unnamed_to n free.unnamed; unfed = free.unfed })

  cycle_to : (t : ℕ) (bits : List Bool) → IsClockCycle c xs t bits → IsClockCycle d ys t bits
  cycle_to t bits is = record {
    consistent = is.consistent;
    inputs = have_to IsInputWord (λ w p. p) bits is.inputs;
    feeds = λ n fed. source_to (source_at c.feeds n t) (bit_of bits n) (is.feeds n fed);
  }

  cycle_from : (t : ℕ) (bits : List Bool) → IsClockCycle d ys t bits → IsClockCycle c xs t bits
  cycle_from t bits is = record {
    consistent = is.consistent;
    inputs = have_from IsInputWord (λ w p. p) bits is.inputs;
    feeds = λ n fed. source_from (source_at c.feeds n t) (bit_of bits n) (is.feeds n fed);
  }

  first_to : (bits : List Bool) → IsFirst c xs bits → IsFirst d ys bits
  first_to bits is = record {
    states = have_to IsStateWord (λ w p. p) bits is.states;
    latches = λ l has unnamed. is.latches l has (unnamed_from l.out unnamed);
  }

  first_from : (bits : List Bool) → IsFirst d ys bits → IsFirst c xs bits
  first_from bits is = record {
    states = have_from IsStateWord (λ w p. p) bits is.states;
    latches = λ l has unnamed. is.latches l has (unnamed_to l.out unnamed);
  }

  run_to : (run : List (List Bool)) → IsRun c xs run → IsRun d ys run
  run_to run is = record {
    open_run = record {
      input = image_input;
      long = is.open_run.long;
      each = λ t bits got. cycle_to t bits (is.open_run.each t bits got);
      first = λ bits got. first_to bits (is.open_run.first bits got);
      next = is.open_run.next;
    };
    zeros = λ t bits got. zeros_to bits (is.zeros t bits got);
  }

  run_from : (run : List (List Bool)) → IsRun d ys run → IsRun c xs run
  run_from run is = record {
    open_run = record {
      input = input;
      long = is.open_run.long;
      each = λ t bits got. cycle_from t bits (is.open_run.each t bits got);
      first = λ bits got. first_from bits (is.open_run.first bits got);
      next = is.open_run.next;
    };
    zeros = λ t bits got. zeros_from bits (is.zeros t bits got);
  }

  out_to : (e : ℕ) → e < 2 ^ c.k → IsOut c xs e → IsOut d ys (there e)
  out_to e low out = record {
    run = out.run;
    is_run = run_to out.run out.is_run;
    ends = record { last = out.ends.last; at = out.ends.at; element = element_to c.k there keeps out.ends.last c.output e bases.output low out.ends.element };
  }

  out_from : (e : ℕ) → e < 2 ^ c.k → IsOut d ys (there e) → IsOut c xs e
  out_from e low out = record {
    run = out.run;
    is_run = run_from out.run out.is_run;
    ends = record { last = out.ends.last; at = out.ends.at; element = element_from c.k there keeps out.ends.last c.output e bases.output low out.ends.element };
  }

pub image_outputs : HaveImageOutputs
image_outputs n g cs big there back c xs e iso same bases input low =
    let P : ℕ → Type 0 = λ k. KeepsBases k there in
    let Q : ℕ → Type 0 = λ k. (x : ℕ) → x < 2 ^ k → there x < 2 ^ k in
    let keeps : KeepsBases c.k there = subst P (sym same) (KeepsBases-iso (n * length cs) _ _ there back iso.isomorphism) in
    let closed : Q c.k = subst Q (sym same) iso.isomorphism.there_keeps.element in
    (out_to big there c keeps closed bases xs input e low, out_from big there c keeps closed bases xs input e low)

first_images : (there : ℕ → ℕ) (k : ℕ) (f : ℕ → ℕ) → map there (first_values k f) ≡ first_values k (λ i. there (f i))
first_images there zero f = refl
first_images there (suc k) f = ap (λ (xs : List ℕ). there (f 0) ∷ xs) (first_images there k (λ i. f (suc i)))

pub unit_images : AreUnitImages
unit_images k there = first_images there k (λ i. 2 ^ i)

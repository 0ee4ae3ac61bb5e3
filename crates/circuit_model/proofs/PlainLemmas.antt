-- Evaluation gives the output.
use Rattle.std.proofs.Common.{◌≡◌, ◌≢◌, ◌∙◌, ap, sym, refl, subst, ℕ, zero, suc, ◌<◌, ◌≤◌, ◌+◌, ◌^◌, Bool, true, false, List, [], ◌∷◌, length, get_or, map, Option, None, Some, IfSome, arith}
use Rattle.std.specs.Prelude.{slice_get, unwrap_or, eqb, IsSome, ◌==◌}
use Rattle.std.specs.Int.{bit_at}
use Rattle.std.specs.Option.{option_eq}
use Rattle.std.proofs.lemmas.Bool.Decides.{nat_tests}
use Rattle.std.proofs.lemmas.List.{length-map}
use Rattle.std.proofs.lemmas.Option.{slice_get_within}
use Rattle.lists.specs.Lists.{Has}
use Rattle.lists.specs.laws.HasLaws.{Has_left, Has_right}
use Rattle.lists.specs.laws.ReadLaws.{from_map, get_below}
use Rattle.lists.specs.laws.TestLaws.{same_bit}
use Rattle.net_core.specs.NetList.{NetList}
use Rattle.net_core.specs.LatchValue.{LatchValue}
use Rattle.net_core.specs.Value.{bit_of, IsConsistent, HasValues}
use Rattle.net_words.specs.BoundTo.{StandsOn}
use Rattle.net_words.specs.declared.word.Role.{Role}
use Rattle.net_words.specs.declared.word.Role.TheVariants.{Input, State, Fed, Output}
use Rattle.gf_basis.specs.Basis.{AreBits, HasOnlyBits}
use Rattle.gf_basis.specs.BasisParts.{elements_of}
use Rattle.circuit_model.specs.declared.circuit_word.CircuitWord.{CircuitWord}
use Rattle.circuit_model.specs.Word.{Word, HasElement, word_nets}
use Rattle.circuit_model.specs.Circuit.{Circuit, IsFed}
use Rattle.circuit_model.specs.WellFormed.{IsWellFormed, IsWord}
use Rattle.circuit_model.specs.Run.{HaveElements, IsInputWord, IsStateWord, IsClockCycle, IsFirst, HasZeros}
use Rattle.circuit_model.specs.Out.{IsOut}
use Rattle.circuit_model.specs.Flat.{word_of, circuit_of_parts}
use Rattle.circuit_model.specs.private.Found.{HaveAll, HaveZeros, HaveBits}
use Rattle.circuit_model.proofs.BitLemmas.{mapped, index_is}
use Rattle.circuit_model.proofs.SliceLemmas.{rest, rest_is, rest_get, get_rest}

pub first_at : (words : List CircuitWord) (w : CircuitWord) → 1 ≤ length words → w ≡ get_or words 0 w → slice_get words 0 ≡ Some w
first_at [] w some is = absurd (omega arith)
first_at (u ∷ us) w some is = ap Some (sym is)

pub named_first : (words : List CircuitWord) (w : CircuitWord) (n : ℕ) → 1 ≤ length words → w ≡ get_or words 0 w → Has w.nets.items n → Has (word_nets (map word_of words)) n
named_first [] w n some is has = absurd (omega arith)
named_first (u ∷ us) w n some is has =
    let P : CircuitWord → Type 0 = λ v. Has v.nets.items n in
    Has_left u.nets.items (word_nets (map word_of us)) n (subst P is has)

pub named_rest : (words : List CircuitWord) (n : ℕ) → Has (word_nets (map word_of (rest words))) n → Has (word_nets (map word_of words)) n
named_rest [] n has = has
named_rest (u ∷ us) n has =
    let P : List CircuitWord → Type 0 = λ ws. Has (word_nets (map word_of ws)) n in
    Has_right u.nets.items (word_nets (map word_of us)) n (subst P (rest_is u us) has)

pub have_all : (words : List CircuitWord) (xs : List ℕ) (bits : List Bool) (first : CircuitWord) (e : ℕ) → slice_get words 0 ≡ Some first → slice_get xs 0 ≡ Some e → HasElement bits (word_of first) e → HaveAll (rest words) (rest xs) bits → HaveAll words xs bits
have_all words xs bits first e is here has later zero w x got at =
    let same : first ≡ w = cc in
    let equal : e ≡ x = cc in
    let P : CircuitWord → Type 0 = λ v. HasElement bits (word_of v) x in
    let Q : ℕ → Type 0 = λ y. HasElement bits (word_of first) y in
    subst P same (subst Q equal has)
have_all words xs bits first e is here has later (suc i) w x got at = later i w x (get_rest words i w got) (get_rest xs i x at)

pub have_rest : (words : List CircuitWord) (xs : List ℕ) (bits : List Bool) → HaveAll words xs bits → HaveAll (rest words) (rest xs) bits
have_rest words xs bits have i w x got at = have (suc i) w x (rest_get words i w got) (rest_get xs i x at)

pub found_is : (o : Option ℕ) (P : ℕ → Type 0) (e : ℕ) → IfSome o P → o ≡ Some e → P e
found_is None P e some is = absurd (cc)
found_is (Some x) P e some is = let same : x ≡ e = cc in subst P same some

module _ (k : ℕ) (product : ℕ → ℕ → ℕ) (net : NetList) (words : List CircuitWord) (output : CircuitWord) (xs : List ℕ) (bits values : List Bool) where
  abbrev circuit : Circuit
  circuit = circuit_of_parts k product net words output

  all_words : (P : Word → Type 0) → HaveAll words xs bits → HaveElements circuit P xs bits
  all_words P have i w x got at p =
      let found = from_map word_of words i w got in
      let Q : Word → Type 0 = λ v. HasElement bits v x in
      subst Q found.2 (have i found.0 x found.1 at)

  no_latch : net.latches ≡ [] → (l : LatchValue) → Has net.latches l → ⊥
  no_latch flat l has = let got : slice_get net.latches has.0 ≡ Some l = has.1 in let got' = rw flat at got in absurd (cc)

  zeros : length values ≡ length net.inputs → HasValues net values bits → HaveZeros words net.inputs values → HasZeros circuit bits
  zeros long has empty n free =
      let input = free.input in
      let none = free.unnamed in
      let v = get_below values input.0 (omega (arith, slice_get_within net.inputs input.0 n input.1)) in
      ap (λ o. unwrap_or o false) (has input.0 n v.0 input.1 v.1) ∙ empty input.0 n v.0 input.1 v.1 none

  one_at : (P : List Bool → Type 0) → P bits → (t : ℕ) (b : List Bool) → slice_get (bits ∷ []) t ≡ Some b → P b
  one_at P p zero b got = let same : bits ≡ b = cc in subst P same p
  one_at P p (suc t) b got = absurd (cc)

  no_next : (t : ℕ) (b : List Bool) → slice_get (bits ∷ []) (t + 1) ≡ Some b → ⊥
  no_next t b got =
      let e : t + 1 ≡ suc t = omega arith in
      let P : ℕ → Type 0 = λ s. slice_get (bits ∷ []) s ≡ Some b in
      let got' : slice_get (bits ∷ []) (suc t) ≡ Some b = subst P e got in
      none t got'
    where
      none : (t : ℕ) → slice_get (bits ∷ []) (suc t) ≡ Some b → ⊥
      none t got = cc

  no_feed : (n : ℕ) → IsFed circuit n → ⊥
  no_feed n has = let got = has.1 in absurd (cc)

  pub plain_out : net.latches ≡ [] → length xs ≡ length words → ((x : ℕ) → Has xs x → x < 2 ^ k) → length values ≡ length net.inputs → IsConsistent net bits → HasValues net values bits → HaveZeros words net.inputs values → HaveAll words xs bits → (e : ℕ) → HasElement bits (word_of output) e → IsOut circuit xs e
  plain_out flat many elements long consistent has empty have e ends = record {
    run = bits ∷ [];
    is_run = record {
      open_run = record {
        input = record { long = many ∙ sym (length-map words word_of); elements = elements };
        long = refl;
        each = λ t b got. one_at (IsClockCycle circuit xs t) (record { consistent = consistent; inputs = all_words (IsInputWord) have; feeds = λ n fed. absurd (no_feed n fed) }) t b got;
        first = λ b got. one_at (IsFirst circuit xs) (record { states = all_words IsStateWord have; latches = λ l in_net. absurd (no_latch flat l in_net) }) 0 b got;
        next = λ t u b at_u at_b. absurd (no_next t b at_b);
      };
      zeros = one_at (HasZeros circuit) (zeros long has empty);
    };
    ends = record { last = bits; at = refl; element = ends };
  }

  stands_input : net.latches ≡ [] → (role : Role) (n : ℕ) → role ≢ Output → StandsOn net role n → Has net.inputs n
  stands_input flat Input n inner stands = stands
  stands_input flat State n inner stands =
      let found = from_map (λ (l : LatchValue). l.out) net.latches stands.0 n stands.1 in
      absurd (no_latch flat found.0 (stands.0, found.1))
  stands_input flat Fed n inner stands = absurd stands
  stands_input flat Output n inner stands = absurd (inner refl)

  -- in a well-formed circuit each word has its element, where the inputs have the bits of the words
  pub plain_all : net.latches ≡ [] → IsWellFormed circuit → ((x : ℕ) → Has xs x → x < 2 ^ k) → length values ≡ length net.inputs → HasValues net values bits → HaveBits words xs net.inputs values → HaveAll words xs bits
  plain_all flat well elements long has have i w x got at = record { long = size; sum = subst P (sym (index_is bits w.nets.items only.choice short each)) only.chosen }
    where
      in_words : Has (map word_of words) (word_of w)
      in_words = (i, mapped words i w got)

      is : IsWord k (word_of w)
      is = well.words (word_of w) in_words

      only : HasOnlyBits (elements_of w.basis) x
      only = is.basis.sums x (elements x (i, at))

      size : length (elements_of w.basis) ≡ length w.nets.items
      size = is.basis.size ∙ sym is.nets

      short : only.choice < 2 ^ length w.nets.items
      short = let Q : ℕ → Type 0 = λ m. only.choice < 2 ^ m in subst Q size only.chosen.short

      P : ℕ → Type 0
      P d = AreBits (elements_of w.basis) x d

      each : (place n : ℕ) → slice_get w.nets.items place ≡ Some n → bit_of bits n ≡ (bit_at only.choice place == 1)
      each place n in_w =
          let input = stands_input flat w.role n (well.inner (word_of w) in_words) (well.places (word_of w) n in_words (place, in_w)) in
          let v = get_below values input.0 (omega (arith, slice_get_within net.inputs input.0 n input.1)) in
          let bit = have input.0 n v.0 input.1 v.1 (well.once n) i place w x got at in_w in
          same_bit (bit_of bits n) v.0 bit.0 only.choice place (ap (λ o. unwrap_or o false) (has input.0 n v.0 input.1 v.1)) bit.2 (only.only bit.0 bit.1)

pub option_is : (o : Option ℕ) (r : Bool) (x : ℕ) → r ≡ option_eq eqb o (Some x) → r ≡ true → o ≡ Some x
option_is None r x is r_true = absurd (cc)
option_is (Some y) r x is r_true = ap Some (both y x (sym is ∙ r_true))
  where
    both : (a b : ℕ) → eqb a b ≡ true → a ≡ b
    both a b same = grind (arith, nat_tests)

both_equal : (a b : ℕ) → a ≡ b → eqb a b ≡ true
both_equal a b same = grind (arith, nat_tests)

-- a value that is found and can only be x is x
pub must_be : (o : Option ℕ) (P : ℕ → Type 0) (r : Bool) (x : ℕ) → IsSome o → IfSome o P → ((e : ℕ) → P e → e ≡ x) → r ≡ option_eq eqb o (Some x) → r ≡ false → ⊥
must_be None P r x found some only is no_x = absurd (cc)
must_be (Some y) P r x found some only is no_x = let yes_x : eqb y x ≡ true = both_equal y x (only y some) in absurd (cc)

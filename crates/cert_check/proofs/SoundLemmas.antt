-- At a run's bits each generator is 0, so that a claim whose last running sum is empty is the output.
use Rattle.std.proofs.Common.{◌≡◌, ◌∙◌, ap, sym, refl, subst, ℕ, zero, suc, ◌<◌, ◌+◌, ◌*◌, ◌^◌, Bool, true, false, cond, ◌==◌, List, [], ◌∷◌, ◌++◌, length, map, take, get_or, Some, bit_xor, arith}
use Rattle.std.specs.Prelude.{slice_get, Option, is_some}
use Rattle.std.specs.Int.{bit_at}
use Rattle.std.specs.List.{AllByRecursion, range_with_len, position_from}
use Rattle.std.specs.Option.{option_and_then}
use Rattle.std.proofs.lemmas.Bool.{eqb-true}
use Rattle.std.proofs.lemmas.List.{length-map, length-take, get_or-take}
use Rattle.std.proofs.lemmas.List.FromFn.{get_or-map-range_with_len}
use Rattle.std.proofs.lemmas.Nat.Bits.{bit_at_lowest, bit_at-suc}
use Rattle.std.proofs.lemmas.Option.{slice_get_within, get_or_from_slice_get}
use Rattle.lists.specs.Lists.{Has, times}
use Rattle.lists.specs.laws.HasLaws.{all_in, times_some}
use Rattle.lists.specs.laws.NumberLaws.{lowest_of_choice, rest_of_choice}
use Rattle.lists.specs.laws.ReadLaws.{get_below, get_front, from_map}
use lib.Bits.{xor_self}
use Rattle.gf_field.specs.Ring.{IsRing}
use Rattle.gf_field.specs.Field.{HasNoZeroDivisors}
use Rattle.gf_field.specs.laws.RingLaws.{zero_mul}
use Rattle.gf_field.specs.Trace.{frobenius}
use Rattle.irreducible.specs.Span.{combination}
use Rattle.gf_basis.specs.Basis.{IsBasis, AreBits}
use Rattle.gf_basis.specs.Dual.{linear_value}
use Rattle.gf_basis.specs.BasisParts.{elements_of, duals_of, IsBasisOver}
use Rattle.gf_basis.specs.declared.bases.Basis.{Basis}
use Rattle.gf_basis.proofs.BasisLaws.{linear_bit}
use Rattle.net_core.specs.GateValue.{GateValue}
use Rattle.net_core.specs.NetList.{NetList, nets}
use Rattle.net_core.specs.Sound.{IsSound}
use Rattle.net_core.specs.Value.{bit_of, index_of}
use Rattle.net_words.specs.Binding.{BoundNet}
use Rattle.net_words.specs.OneCycle.{IsOneCycle}
use Rattle.net_words.specs.Variables.{bits, others, variables}
use Rattle.net_words.specs.declared.bound.BoundWord.{BoundWord}
use Rattle.net_words.specs.declared.word.Role.{Role}
use Rattle.net_words.specs.declared.word.Role.TheVariants.{Input, State, Fed, Output}
use Rattle.net_words.proofs.RankLemmas.{variables_once}
use Rattle.circuit_model.specs.Bases.{AreBases, circuit_in}
use Rattle.circuit_model.specs.Circuit.{Circuit, IsInput}
use Rattle.circuit_model.specs.OfBinding.{word_with, words_of, HaveBases}
use Rattle.circuit_model.specs.Out.{IsOut}
use Rattle.circuit_model.specs.Run.{IsRun, IsClockCycle, IsFirst}
use Rattle.circuit_model.specs.WellFormed.{IsWellFormed}
use Rattle.circuit_model.specs.Word.{Word, word_nets}
use Rattle.circuit_model.proofs.BoundLemmas.{bound_well, word_nets_of}
use Rattle.circuit_model.proofs.JobLemmas.{well_formed_is_job, first_elements}
use Rattle.circuit_model.proofs.SomeRunLemmas.{some_run}
use Rattle.circuit_model.proofs.WordLemmas.{index_small}
use Rattle.poly_mixed.specs.Polynomial.{Point, IsPoint, IsElement, value}
use Rattle.poly_mixed.specs.Steps.{Step}
use Rattle.poly_mixed.specs.Table.{index, table_bit}
use Rattle.poly_mixed.specs.declared.steps.Generator.{Generator}
use Rattle.poly_mixed.specs.declared.steps.Generator.TheVariants.{Net, Bit}
use Rattle.cert_check.specs.Driver.{driver, driver_position, is_driven}
use Rattle.cert_check.specs.Running.{net_bit, rank_among, dual_form, dual_words, dual_at, driven_value, generator_value, products, output_value}
use Rattle.cert_check.proofs.RankLemmas.{at_rank}
use Rattle.circuit_model.proofs.SharedLemmas.{place_in}
use Rattle.gf_field.proofs.SharedLemmas.{same_sum}
use Rattle.net_core.proofs.SharedLemmas.{input_below}

-- ---- lists

taken_has : (n : ℕ) (xs : List ℕ) (x : ℕ) → Has (take n xs) x → Has xs x
taken_has zero xs x has = let got = has.1 in absurd (cc)
taken_has (suc n) [] x has = let got = has.1 in absurd (cc)
taken_has (suc n) (y ∷ ys) x (zero, got) = (0, got)
taken_has (suc n) (y ∷ ys) x (suc i, got) = let rest = taken_has n ys x (i, got) in (suc rest.0, rest.1)

-- ---- bits of an index

pub index_bit : (v : List Bool) (ns : List ℕ) (i n : ℕ) → slice_get ns i ≡ Some n → ◌≡◌ {A = ℕ} (bit_at (index_of v ns) i) (cond (bit_of v n) 1 0)
index_bit v [] i n got = absurd (cc)
index_bit v (m ∷ ms) zero n got =
    let same : m ≡ n = cc in
    bit_at_lowest (cond (bit_of v m) 1 0 + 2 * index_of v ms) ∙ (lowest_of_choice (bit_of v m) (index_of v ms) ∙ ap (λ x. cond (bit_of v x) 1 0) same)
index_bit v (m ∷ ms) (suc i) n got =
    bit_at-suc (cond (bit_of v m) 1 0 + 2 * index_of v ms) i
    ∙ (ap (λ x. bit_at x i) (rest_of_choice (bit_of v m) (index_of v ms)) ∙ index_bit v ms i n got)

pub index_same : (v : List Bool) (f : ℕ → Bool) (ns : List ℕ) → ((n : ℕ) → Has ns n → f n ≡ bit_of v n) → index f ns ≡ index_of v ns
index_same v f [] same = refl
index_same v f (n ∷ ns) same = (λ j. cond (same n (0, refl) j) 1 0 + 2 * index_same v f ns (λ m has. same m (suc has.0, has.1)) j)

-- ---- the gate that drives a net

record IsFound (net : NetList) (n : ℕ) (o : Option ℕ) : Type 0 where
  pub gate : GateValue
  pub has : Has net.gates gate
  pub out : gate.out ≡ n
  pub driver_is : option_and_then (slice_get net.gates) o ≡ Some gate

found_from : (net : NetList) (n : ℕ) (before gates : List GateValue) → net.gates ≡ before ++ gates → is_some (position_from (λ (g : GateValue). g.out == n) (length before) gates) ≡ true → IsFound net n (position_from (λ (g : GateValue). g.out == n) (length before) gates)
found_from net n before [] is some = absurd (cc)
found_from net n before (g ∷ gs) is some =
    (elim (g.out == n) as (λ v. (g.out == n) ≡ v → is_some (cond v (Some (length before)) (position_from (λ (g : GateValue). g.out == n) (length before + 1) gs)) ≡ true → IsFound net n (cond v (Some (length before)) (position_from (λ (g : GateValue). g.out == n) (length before + 1) gs))) [
      | true ↦ λ e yes.
          let at : slice_get net.gates (length before) ≡ Some g = let P : List GateValue → Type 0 = λ xs. slice_get xs (length before) ≡ Some g in subst P (sym is) (here before gs) in
          record { gate = g; has = (length before, at); out = eqb-true g.out n e; driver_is = at }
      | false ↦ λ e yes.
          let long : length (before ++ g ∷ []) ≡ length before + 1 = longer before in
          let Q : ℕ → Type 0 = λ m. is_some (position_from (λ (g : GateValue). g.out == n) m gs) ≡ true in
          let R : ℕ → Type 0 = λ m. IsFound net n (position_from (λ (g : GateValue). g.out == n) m gs) in
          subst R long (found_from net n (before ++ g ∷ []) gs (is ∙ moved before gs) (subst Q (sym long) yes))
    ]) refl some
  where
    here : (xs ys : List GateValue) → slice_get (xs ++ g ∷ ys) (length xs) ≡ Some g
    here [] ys = refl
    here (x ∷ xs) ys = here xs ys

    longer : (xs : List GateValue) → length (xs ++ g ∷ []) ≡ length xs + 1
    longer [] = refl
    longer (x ∷ xs) = let rest = longer xs in omega (arith, rest)

    moved : (xs ys : List GateValue) → xs ++ g ∷ ys ≡ (xs ++ g ∷ []) ++ ys
    moved [] ys = refl
    moved (x ∷ xs) ys = ap (λ zs. x ∷ zs) (moved xs ys)

found : (net : NetList) (n : ℕ) → is_driven net n ≡ true → IsFound net n (driver_position net n)
found net n some = found_from net n [] net.gates refl some

-- ---- words with both bases

-- word w of one list has a basis as its elements, and that of the other its dual
pub record IsBoth (es ds : List Word) (bases : List Basis) (w : ℕ) : Type 0 where
  pub basis : Basis
  pub word : Word
  pub dual : Word
  pub has : Has bases basis
  pub word_at : slice_get es w ≡ Some word
  pub dual_at : slice_get ds w ≡ Some dual
  pub word_is : word.basis ≡ elements_of basis
  pub dual_is : dual.basis ≡ duals_of basis

later : (es ds : List Word) (bases : List Basis) (w : ℕ) (b : Basis) → IsBoth es ds bases w → IsBoth es ds (b ∷ bases) w
later es ds bases w b is = record { basis = is.basis; word = is.word; dual = is.dual; has = (suc is.has.0, is.has.1); word_at = is.word_at; dual_at = is.dual_at; word_is = is.word_is; dual_is = is.dual_is }

next : (es ds : List Word) (bases : List Basis) (w : ℕ) (e d : Word) → IsBoth es ds bases w → IsBoth (e ∷ es) (d ∷ ds) bases (suc w)
next es ds bases w e d is = record { basis = is.basis; word = is.word; dual = is.dual; has = is.has; word_at = is.word_at; dual_at = is.dual_at; word_is = is.word_is; dual_is = is.dual_is }

front_word : (es ds : List Word) (bases : List Basis) (b : Basis) (ns : List ℕ) → IsBoth (record { role = Input; nets = ns; basis = elements_of b } ∷ es) (record { role = Input; nets = ns; basis = duals_of b } ∷ ds) (b ∷ bases) 0
front_word es ds bases b ns = record { basis = b; word = record { role = Input; nets = ns; basis = elements_of b }; dual = record { role = Input; nets = ns; basis = duals_of b }; has = (0, refl); word_at = refl; dual_at = refl; word_is = refl; dual_is = refl }

by_role : (r : Role) (ns : List ℕ) (b : Basis) (bs : List Basis) (es ds : List Word) (v : ℕ) → v < length (word_with r ns (duals_of b) ++ ds) → ((v : ℕ) → v < length ds → IsBoth es ds bs v)
    → IsBoth (word_with r ns (elements_of b) ++ es) (word_with r ns (duals_of b) ++ ds) (b ∷ bs) v
by_role Input ns b bs es ds zero less more = front_word es ds bs b ns
by_role Input ns b bs es ds (suc v) less more = next es ds (b ∷ bs) v (record { role = Input; nets = ns; basis = elements_of b }) (record { role = Input; nets = ns; basis = duals_of b }) (later es ds bs v b (more v (omega arith)))
by_role State ns b bs es ds zero less more = front_word es ds bs b ns
by_role State ns b bs es ds (suc v) less more = next es ds (b ∷ bs) v (record { role = Input; nets = ns; basis = elements_of b }) (record { role = Input; nets = ns; basis = duals_of b }) (later es ds bs v b (more v (omega arith)))
by_role Fed ns b bs es ds zero less more = front_word es ds bs b ns
by_role Fed ns b bs es ds (suc v) less more = next es ds (b ∷ bs) v (record { role = Input; nets = ns; basis = elements_of b }) (record { role = Input; nets = ns; basis = duals_of b }) (later es ds bs v b (more v (omega arith)))
by_role Output ns b bs es ds v less more = later es ds bs v b (more v less)

pub both : (words : List BoundWord) (bases : List Basis) (w : ℕ) → length bases ≡ length words → w < length (words_of words (map duals_of bases)) → IsBoth (words_of words (map elements_of bases)) (words_of words (map duals_of bases)) bases w
both [] bases w long less = absurd (omega arith)
both (u ∷ us) [] w long less = absurd (omega arith)
both (u ∷ us) (b ∷ bs) w long less = by_role u.role u.nets b bs (words_of us (map elements_of bs)) (words_of us (map duals_of bs)) w less (λ v low. both us bs v (omega arith) low)

-- ---- a circuit and a run of it

module _ (k : ℕ) (mul : ℕ → ℕ → ℕ) (bound : BoundNet) (bases : List Basis) (ring : IsRing k mul) (field : HasNoZeroDivisors k mul) (sound : IsSound bound.net) (one : IsOneCycle bound.net bound.binding) (same : bound.binding.k ≡ k) (are : AreBases k mul bound bases) where
  all_long : length (map elements_of bases) ≡ length bound.binding.words
  all_long = length-map bases elements_of ∙ are.long

  have_bases : HaveBases k bound.binding.words (map elements_of bases)
  have_bases = record {
    long = all_long;
    each = λ elements has.
        let at = from_map elements_of bases has.0 elements has.1 in
        let P : List ℕ → Type 0 = IsBasis k in
        subst P at.2 (are.each at.0 (has.0, at.1)).elements;
  }

  pub well : IsWellFormed (circuit_in k mul bound bases)
  well = bound_well k mul bound (map elements_of bases) one same have_bases ring field sound

  module _ (p : Point) (at : IsPoint k p) where
    abbrev pub xs : List ℕ
    xs = take (length (circuit_in k mul bound bases).words) p.words

    pub input : IsInput (circuit_in k mul bound bases) xs
    input = record {
      long = length-take (length (circuit_in k mul bound bases).words) p.words ∙ omega (arith, well.few, at.words);
      elements = λ x has. all_in (IsElement k) p.words x at.elements (taken_has (length (circuit_in k mul bound bases).words) p.words x has);
    }

    pub run : (run : List (List Bool)) × IsRun (circuit_in k mul bound bases) xs run
    run = some_run (circuit_in k mul bound bases) xs (well_formed_is_job (circuit_in k mul bound bases) well) input

    pub last : (v : List Bool) × (slice_get run.0 0 ≡ Some v)
    last = get_below run.0 0 (omega (arith, run.1.open_run.long))

    abbrev pub v : List Bool
    v = last.0

    cycle : IsClockCycle (circuit_in k mul bound bases) xs 0 v
    cycle = run.1.open_run.each 0 last.0 last.1

    first : IsFirst (circuit_in k mul bound bases) xs v
    first = run.1.open_run.first last.0 last.1

    abbrev pub order : List ℕ
    order = variables (nets bound.net) bound.binding.words

    -- the point with the run's bits
    abbrev pub q : Point
    q = record { words = p.words; is_one = λ r. bit_of v (get_or order r 0) }

    net_is : (n : ℕ) → n < nets bound.net → net_bit order q n ≡ bit_of v n
    net_is n less =
        let once : times n order ≡ 1 = variables_once bound.net bound.binding n one less in
        let here : slice_get order (rank_among order n) ≡ Some n = at_rank order n (times_some n order (omega (arith, once))) in
        ap (bit_of v) (get_or_from_slice_get order (rank_among order n) n 0 here)

    net_zero : (n : ℕ) → n < nets bound.net → is_driven bound.net n ≡ true → generator_value k mul bound bases (Net n) q ≡ 0
    net_zero n less driven =
        let is = found bound.net n driven in
        let g : GateValue = is.gate in
        let right = cycle.consistent.gates g is.has in
        let own : net_bit order q n ≡ (bit_at g.table (index_of v g.inputs) == 1) = net_is n less ∙ (ap (bit_of v) (sym is.out) ∙ right) in
        let table : driven_value order q (driver bound.net n) ≡ cond (bit_at g.table (index_of v g.inputs) == 1) 1 0 =
        ap (driven_value order q) is.driver_is
        ∙ ap (λ d. cond (table_bit g.table d) 1 0) (index_same v (net_bit order q) g.inputs (λ m has. net_is m (input_below bound.net g sound is.has m has))) in
        (λ j. bit_xor (cond (own j) 1 0) (table j)) ∙ xor_self (cond (bit_at g.table (index_of v g.inputs) == 1) 1 0)

    bit_zero : (w i : ℕ) → w < length (dual_words bound bases) → i < k → generator_value k mul bound bases (Bit w i) q ≡ 0
    bit_zero w i less low =
        let is = both bound.binding.words bases w are.long less in
        let over : IsBasisOver k mul is.basis = are.each is.basis is.has in
        let word : Word = is.word in
        let n = get_below word.nets i (omega (arith, low, (well.words word (w, is.word_at)).nets)) in
        let within : w < length (circuit_in k mul bound bases).words = slice_get_within (circuit_in k mul bound bases).words w word is.word_at in
        let x = get_below xs w (omega (arith, within, input.long)) in
        let element = first_elements (circuit_in k mul bound bases) xs v well cycle first w word x.0 is.word_at x.1 tt in
        let number : ℕ = index_of v word.nets in
        let P : List ℕ → Type 0 = λ elements. AreBits elements x.0 number in
        let are_bits : AreBits (elements_of is.basis) x.0 number = subst P is.word_is element.sum in
        let d : ℕ = get_or (duals_of is.basis) i 0 in
        let cs : List ℕ = map (λ j. frobenius mul j d) (range_with_len 0 k) in
        let at_cs : (j : ℕ) → j < k → get_or cs j 0 ≡ frobenius mul j d = λ j h. get_or-map-range_with_len (λ j. frobenius mul j d) 0 k j j 0 h (omega arith) in
        let linear : linear_value k mul cs x.0 ≡ bit_at number i = linear_bit k mul ring field (elements_of is.basis) (duals_of is.basis) over.elements.size over.dual i x.0 number cs low at_cs are_bits in
        let form : dual_form k mul d x.0 ≡ linear_value k mul cs x.0 = same_sum k (λ j. mul (frobenius mul j d) (frobenius mul j x.0)) (λ j. mul (get_or cs j 0) (frobenius mul j x.0)) (λ j h. ap (λ c. mul c (frobenius mul j x.0)) (sym (at_cs j h))) in
        let own_x : get_or p.words w 0 ≡ x.0 = sym (get_or-take (length (circuit_in k mul bound bases).words) p.words w 0 within) ∙ get_or_from_slice_get xs w x.0 0 x.1 in
        let own_d : dual_at (slice_get (dual_words bound bases) w) i ≡ d = ap (λ o. dual_at o i) is.dual_at ∙ ap (λ ds. get_or ds i 0) is.dual_is in
        let front : slice_get (word_nets (circuit_in k mul bound bases).words) (k * w + i) ≡ Some n.0 = place_in k (circuit_in k mul bound bases).words (λ u has. (well.words u has).nets) w i n.0 word is.word_at n.1 in
        let Q : List ℕ → Type 0 = λ ns. slice_get ns (k * w + i) ≡ Some n.0 in
        let there : slice_get order (k * w + i) ≡ Some n.0 = get_front (bits bound.binding.words) (others (nets bound.net) (bits bound.binding.words)) (k * w + i) n.0 (subst Q (word_nets_of bound.binding.words (map elements_of bases) all_long) front) in
        let bit : bit_of v (get_or order (k * w + i) 0) ≡ bit_of v n.0 = ap (bit_of v) (get_or_from_slice_get order (k * w + i) n.0 0 there) in
        let value_is : dual_form k mul (dual_at (slice_get (dual_words bound bases) w) i) (get_or p.words w 0) ≡ cond (bit_of v n.0) 1 0 =
        (λ j. dual_form k mul (own_d j) (own_x j)) ∙ (form ∙ (linear ∙ index_bit v word.nets i n.0 n.1)) in
        (λ j. bit_xor (cond (bit j) 1 0) (value_is j)) ∙ xor_self (cond (bit_of v n.0) 1 0)

    -- a generator that there is
    abbrev pub IsThere : Generator → Type 0
    IsThere (Net n) = (n < nets bound.net) × (is_driven bound.net n ≡ true)
    IsThere (Bit w i) = (w < length (dual_words bound bases)) × (i < k)

    generator_zero : (g : Generator) → IsThere g → generator_value k mul bound bases g q ≡ 0
    generator_zero (Net n) is = net_zero n is.0 is.1
    generator_zero (Bit w i) is = bit_zero w i is.0 is.1

    pub products_zero : (steps : List Step) → AllByRecursion (λ s. IsThere s.0) steps → products k mul bound bases steps q ≡ 0
    products_zero [] all = refl
    products_zero (s ∷ steps) all =
        (λ j. bit_xor ((ap (λ x. mul x (value mul q s.1)) (generator_zero s.0 all.0) ∙ zero_mul k mul ring (value mul q s.1)) j) (products_zero steps all.1 j))

    pub output_is : IsOut (circuit_in k mul bound bases) xs (output_value k mul bound bases q)
    output_is =
        let c : Circuit = circuit_in k mul bound bases in
        let long : length c.output.basis ≡ length c.output.nets = well.output.basis.size ∙ sym well.output.nets in
        let short : index_of v c.output.nets < 2 ^ length c.output.basis = rw long (index_small v c.output.nets) in
        let value_is : output_value k mul bound bases q ≡ combination c.output.basis (index_of v c.output.nets) = ap (combination c.output.basis) (index_same v (net_bit order q) c.output.nets (λ n has. net_is n (one.outputs n has))) in
        record {
          run = run.0;
          is_run = run.1;
          ends = record {
            last = last.0;
            at = last.1;
            element = record { long = long; sum = record { short = short; is = sym value_is } };
          };
        }

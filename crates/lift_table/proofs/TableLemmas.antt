-- The table of a circuit, row by row.
use Rattle.std.proofs.Common.{◌≡◌, ◌∙◌, ap, sym, refl, subst, inl, inr, ℕ, zero, suc, ◌<◌, ◌≤◌, ◌+◌, ◌-◌, ◌*◌, ◌/◌, ◌%◌, ◌^◌, List, [], ◌∷◌, ◌++◌, length, map, get_or, Some, arith, append-nil}
use Rattle.std.specs.Prelude.{slice_get}
use Rattle.std.specs.List.{AllByRecursion}
use Rattle.std.proofs.Math.ListN.{get_or-append}
use Rattle.std.proofs.Math.Seq.{get_or-append_seam}
use Rattle.std.proofs.lemmas.Bool.{cases_eq}
use Rattle.std.proofs.lemmas.List.{append_assoc, length-map}
use Rattle.std.proofs.lemmas.Option.{get_or_from_slice_get, slice_get_within, slice_get-get_or}
use Rattle.lists.specs.Lists.{Has}
use Rattle.lists.specs.laws.HasLaws.{all_low}
use Rattle.lists.specs.laws.ReadLaws.{from_map, same_lists}
use Rattle.net_core.specs.NetList.{NetList}
use Rattle.net_core.specs.Sound.{IsSound}
use Rattle.net_words.specs.Binding.{BoundNet}
use Rattle.net_words.specs.OneCycle.{IsOneCycle}
use Rattle.gf_field.specs.Ring.{IsRing}
use Rattle.gf_field.specs.Field.{HasNoZeroDivisors}
use Rattle.gf_basis.specs.Basis.{IsBasis}
use Rattle.gf_basis.specs.BasisParts.{elements_of, IsBasisOver}
use Rattle.gf_basis.specs.declared.bases.Basis.{Basis}
use Rattle.gf_field.specs.Element.{AreElements}
use Rattle.circuit_model.proofs.BoundLemmas.{bound_well}
use Rattle.circuit_model.proofs.OutLemmas.{some_out, one_out}
use Rattle.circuit_model.specs.Bases.{AreBases, circuit_in}
use Rattle.circuit_model.specs.Circuit.{Circuit, IsInput}
use Rattle.circuit_model.specs.Flat.{AreOver, circuit_of_parts, word_of}
use Rattle.circuit_model.specs.OfBinding.{HaveBases}
use Rattle.circuit_model.specs.Out.{IsOut}
use Rattle.circuit_model.specs.WellFormed.{IsWellFormed}
use Rattle.circuit_model.specs.Word.{Word}
use Rattle.circuit_model.specs.declared.circuit_word.CircuitWord.{CircuitWord}
use Rattle.lift_table.specs.CircuitTable.{IsTableOf}
use Rattle.lift_table.specs.Table.{row_of}
use Rattle.lift_table.specs.private.Circuits.{AreParts}
use Rattle.lift_table.specs.private.Digits.{digits_of}
use Rattle.lift_table.proofs.RowLemmas.{row_below, one_input, digits_long, digits_below, row_of_digits}

-- one digit more
pub digit_more : (k count counter left v : ℕ) (list after whole : List ℕ) → counter < count → v ≡ left % 2 ^ k → after ≡ list ++ v ∷ [] → list ++ digits_of k (count - counter) left ≡ whole
    → after ++ digits_of k (count - (counter + 1)) (left / 2 ^ k) ≡ whole
digit_more k count counter left v list after whole less is added so_far =
    let rest = digits_of k (count - (counter + 1)) (left / 2 ^ k) in
    let next : suc (count - (counter + 1)) ≡ count - counter = omega arith in
    ap (λ (xs : List ℕ). xs ++ rest) added
    ∙ (append_assoc list (v ∷ []) rest
    ∙ (ap (λ n. list ++ n ∷ rest) is ∙ (ap (λ n. list ++ digits_of k n left) next ∙ so_far)))

pub digits_end : (k count counter left : ℕ) (list whole : List ℕ) → count ≤ counter → list ++ digits_of k (count - counter) left ≡ whole → list ≡ whole
digits_end k count counter left list whole past so_far =
    let none : count - counter ≡ 0 = omega arith in
    sym (append-nil list) ∙ (ap (λ n. list ++ digits_of k n left) (sym none) ∙ so_far)

has_below : (bound : ℕ) (xs : List ℕ) → AllByRecursion (λ x. x < bound) xs → (x : ℕ) → Has xs x → x < bound
has_below bound [] each x (i, got) = absurd (cc got)
has_below bound (y ∷ ys) each x (zero, got) = let same : y ≡ x = cc got in subst (λ (m : ℕ). m < bound) same each.0
has_below bound (y ∷ ys) each x (suc i, got) = has_below bound ys each.1 x (i, got)

pub digits_elements : (k count row : ℕ) (list : List ℕ) → list ≡ digits_of k count row → (x : ℕ) → Has list x → x < 2 ^ k
digits_elements k count row list is x has =
    let P : List ℕ → Type 0 = λ xs. Has xs x in
    has_below (2 ^ k) (digits_of k count row) (digits_below k count row) x (subst P is has)

-- the parts of a circuit are the circuit
pub same_circuit : (k : ℕ) (mul : ℕ → ℕ → ℕ) (b : BoundNet) (bases : List Basis) (net : NetList) (words : List CircuitWord) (to : CircuitWord) → net ≡ b.net → map word_of words ≡ (circuit_in k mul b bases).words → word_of to ≡ (circuit_in k mul b bases).output
    → circuit_of_parts k mul net words to ≡ circuit_in k mul b bases
same_circuit k mul b bases net words to same are is = λ i. record { k = k; product = mul; net = same i; words = are i; output = is i; feeds = []; cycles = 0 }

-- the words of a list are those of another that is the same
pub words_are : (list words : List CircuitWord) (all : List Word) → words ≡ list → map word_of list ≡ all → map word_of words ≡ all
words_are list words all same are = ap (λ (ws : List CircuitWord). map word_of ws) same ∙ are

pub as_many : (words : List CircuitWord) (all : List Word) → map word_of words ≡ all → length words ≡ length all
as_many words all are = sym (length-map words word_of) ∙ ap (λ (ws : List Word). length ws) are

pub well_formed : (k : ℕ) (mul : ℕ → ℕ → ℕ) (b : BoundNet) (bases : List Basis) → AreBases k mul b bases → IsRing k mul → HasNoZeroDivisors k mul → IsSound b.net → IsOneCycle b.net b.binding → b.binding.k ≡ k → IsWellFormed (circuit_in k mul b bases)
well_formed k mul b bases are ring field sound bound bits = bound_well k mul b (map elements_of bases) bound bits have ring field sound
  where
    have : HaveBases k b.binding.words (map elements_of bases)
    have = record {
      long = length-map bases elements_of ∙ are.long;
      each = λ elements has.
          let found = from_map elements_of bases has.0 elements has.1 in
          let P : List ℕ → Type 0 = IsBasis k in
          subst P found.2 (are.each found.0 (has.0, found.1)).elements;
    }

pub are_parts : (k : ℕ) (mul : ℕ → ℕ → ℕ) (b : BoundNet) (bases : List Basis) (net : NetList) (list words : List CircuitWord) (to : CircuitWord) → AreBases k mul b bases → IsRing k mul → HasNoZeroDivisors k mul → net ≡ b.net → b.net.latches ≡ [] → IsSound b.net → IsOneCycle b.net b.binding → b.binding.k ≡ k
    → words ≡ list → map word_of list ≡ (circuit_in k mul b bases).words → word_of to ≡ (circuit_in k mul b bases).output → AreOver k mul list → IsBasisOver k mul to.basis → AreParts k mul net words to
are_parts k mul b bases net list words to have ring field is flat sound bound bits same are out over over_output =
    let all = (circuit_in k mul b bases).words in
    let whole = same_circuit k mul b bases net words to is (words_are list words all same are) out in
    let P : Circuit → Type 0 = λ circuit. IsWellFormed circuit in
    let Q : List CircuitWord → Type 0 = AreOver k mul in
    record {
      flat = ap (λ (n : NetList). n.latches) is ∙ flat;
      over = subst Q (sym same) over;
      over_output = over_output;
      well = subst P (sym whole) (well_formed k mul b bases have ring field sound bound bits);
    }

-- one row more
pub row_more : (P : ℕ → ℕ → Type 0) (before after : List ℕ) (v i : ℕ) → after ≡ before ++ v ∷ [] → length before ≡ i → P i v → ((r : ℕ) → r < i → P r (get_or before r 0)) → (r : ℕ) → r < i + 1 → P r (get_or after r 0)
row_more P before after v i is long here so_far r less =
    let Q : List ℕ → Type 0 = λ xs. P r (get_or xs r 0) in
    subst Q (sym is) (elim (cases_eq r i) [
      | inl e ↦
          let last : get_or (before ++ v ∷ []) r 0 ≡ v = ap (λ n. get_or (before ++ v ∷ []) n 0) (e ∙ sym long) ∙ get_or-append_seam before v [] 0 in
          subst (λ (n : ℕ). P r n) (sym last) (subst (λ (n : ℕ). P n v) (sym e) here)
      | inr n ↦
          let small : r < i = omega arith in
          let within : r < length before = omega (arith, long) in
          subst (λ (m : ℕ). P r m) (sym (get_or-append before (v ∷ []) 0 r within)) (so_far r small)
    ])

-- the outputs at all rows are the table
pub table_of : (circuit : Circuit) (table : List ℕ) (count : ℕ) → count ≡ length circuit.words → length table ≡ 2 ^ (circuit.k * count) → ((row : ℕ) → row < 2 ^ (circuit.k * count) → IsOut circuit (digits_of circuit.k count row) (get_or table row 0)) → IsTableOf circuit table
table_of circuit table count words long outputs = record {
  long = long ∙ ap (λ n. 2 ^ (circuit.k * n)) words;
  values = λ xs e input got.
      let k = circuit.k in
      let row = row_of k xs in
      let elements = all_low (2 ^ k) xs input.elements in
      let size : length xs ≡ count = input.long ∙ sym words in
      let below : row < 2 ^ (k * count) = subst (λ (n : ℕ). row < 2 ^ (k * n)) size (row_below k xs elements) in
      let same : digits_of k count row ≡ xs = one_input k (digits_of k count row) xs (digits_long k count row ∙ sym size) (digits_below k count row) elements (row_of_digits k count row below) in
      let value : get_or table row 0 ≡ e = get_or_from_slice_get table row e 0 got in
      let P : List ℕ → Type 0 = λ ys. IsOut circuit ys (get_or table row 0) in
      let Q : ℕ → Type 0 = λ n. IsOut circuit xs n in
      subst Q value (subst P same (outputs row below));
}

module _ (circuit : Circuit) (well : IsWellFormed circuit) where
  -- the input of a row
  row_input : (row : ℕ) → IsInput circuit (digits_of circuit.k (length circuit.words) row)
  row_input row = record {
    long = digits_long circuit.k (length circuit.words) row;
    elements = digits_elements circuit.k (length circuit.words) row (digits_of circuit.k (length circuit.words) row) refl;
  }

  -- its output is the value of the row
  row_output : (table : List ℕ) (row e : ℕ) → IsTableOf circuit table → slice_get table row ≡ Some e → IsOut circuit (digits_of circuit.k (length circuit.words) row) e
  row_output table row e is got =
      let k = circuit.k in
      let count = length circuit.words in
      let within = slice_get_within table row e got in
      let below : row < 2 ^ (k * count) = omega (arith, within, is.long) in
      is.values (digits_of k count row) e (row_input row) (ap (slice_get table) (row_of_digits k count row below) ∙ got)

  -- a circuit has one table at most
  pub one_table : (table other : List ℕ) → IsTableOf circuit table → IsTableOf circuit other → table ≡ other
  one_table table other a b =
      same_lists table other (a.long ∙ sym b.long)
      (λ row x y got there. one_out circuit (digits_of circuit.k (length circuit.words) row) x y well (row_output table row x a got) (row_output other row y b there))

  -- whose values are elements
  pub table_elements : (table : List ℕ) → IsTableOf circuit table → AreElements circuit.k table
  table_elements table is row within =
      let xs = digits_of circuit.k (length circuit.words) row in
      let e = get_or table row 0 in
      let out = row_output table row e is (slice_get-get_or table row 0 within) in
      let found = some_out circuit xs well (row_input row) in
      let same : found.0 ≡ e = one_out circuit xs found.0 e well found.1 out in
      subst (λ (n : ℕ). n < 2 ^ circuit.k) same found.2

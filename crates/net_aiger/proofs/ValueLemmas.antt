-- The values of literals in consistent lists of bits.
use Rattle.std.proofs.Common.{◌≡◌, ◌∙◌, ap, sym, refl, subst, inl, inr, ◌⊎◌, ℕ, zero, suc, ◌+◌, ◌*◌, ◌%◌, ◌&&◌, Bool, true, false, cond, not, List, [], ◌∷◌, ◌++◌, drop, Option, None, Some, Ok}
use Rattle.std.specs.Prelude.{nat_lt, ◌==◌}
use Rattle.std.specs.Fmt.{decimal}
use Rattle.std.specs.Int.{bit_at}
use Rattle.std.proofs.lemmas.Bool.{ltb-true}
use Rattle.std.proofs.Math.Bool.{and-true, and-false}
use Rattle.lists.specs.Lists.{Has}
use Rattle.lists.specs.laws.HasLaws.{Has_left}
use Rattle.lists.specs.laws.NumberLaws.{bit_cases}
use Rattle.net_core.specs.GateValue.{GateValue}
use Rattle.net_core.specs.NetList.{NetList, empty, nets}
use Rattle.net_core.specs.Value.{bit_of, index_of}
use Rattle.net_aiger.specs.Checks.{own}
use Rattle.net_aiger.specs.Nets.{and_gate, and_made, and_table, ands_made, fresh_latch, gated, inputs_of, is_plain, labelled, latch_made, latch_on, latched, latches_made, literal_gate, net_made, output_made, outputs_made, variables_made, with_output}
use Rattle.net_aiger.specs.Reading.{Reading, driven, net_of, port_name, variable_net}
use Rattle.net_aiger.specs.Steps.{◌>>=◌}
use Rattle.net_aiger.specs.Values.{HasConjunctions, literal_value}
use Rattle.net_aiger.specs.declared.reading.AndLine.{AndLine}
use Rattle.net_aiger.specs.declared.reading.LatchLine.{LatchLine}
use Rattle.net_aiger.proofs.DriveLemmas.{split_ok}
use Rattle.net_aiger.proofs.MakeLemmas.{gated_gates, labelled_is, latched_is}

-- ---- tables

-- two literals of variables with these bits, where each is even or odd
two_values : (e f x y : Bool) → (bit_at (cond f (cond e 8 4) (cond e 2 1)) (cond x 1 0 + 2 * (cond y 1 0 + 2 * 0)) == 1) ≡ (cond e x (not x) && cond f y (not y))
two_values true true true true = refl
two_values true true true false = refl
two_values true true false true = refl
two_values true true false false = refl
two_values true false true true = refl
two_values true false true false = refl
two_values true false false true = refl
two_values true false false false = refl
two_values false true true true = refl
two_values false true true false = refl
two_values false true false true = refl
two_values false true false false = refl
two_values false false true true = refl
two_values false false true false = refl
two_values false false false true = refl
two_values false false false false = refl

pub one_value : (e x : Bool) → (bit_at (cond e 2 1) (cond x 1 0 + 2 * 0) == 1) ≡ cond e x (not x)
one_value true true = refl
one_value true false = refl
one_value false true = refl
one_value false false = refl

zero_bit : (x : Bool) → (bit_at 0 (cond x 1 0 + 2 * 0) == 1) ≡ false
zero_bit true = refl
zero_bit false = refl

-- the conjunction's table at the bits of its variables
module _ (reading : Reading) (bits : List Bool) where
  table_value : (left right : ℕ) → (bit_at (and_table left right) (index_of bits (inputs_of reading left ++ inputs_of reading right)) == 1) ≡ (literal_value reading bits left && literal_value reading bits right)
  table_value left right = by (nat_lt left 2) refl (nat_lt right 2) refl
    where
      x : Bool
      x = bit_of bits (variable_net reading left)

      y : Bool
      y = bit_of bits (variable_net reading right)

      Value : ℕ → ℕ → Bool → Bool → Type 0
      Value l r a b =
          (bit_at (cond a (cond (l == 0) 0 (cond b r (cond (r % 2 == 0) 2 1))) (cond b (cond (r == 0) 0 (cond a l (cond (l % 2 == 0) 2 1))) (cond (r % 2 == 0) (cond (l % 2 == 0) 8 4) (cond (l % 2 == 0) 2 1))))
          (index_of bits (cond a [] (variable_net reading left ∷ []) ++ cond b [] (variable_net reading right ∷ []))) == 1)
          ≡ (cond a (l == 1) (cond (l % 2 == 0) x (not x)) && cond b (r == 1) (cond (r % 2 == 0) y (not y)))

      left_constant : (b : Bool) → nat_lt right 2 ≡ b → (left ≡ 0) ⊎ (left ≡ 1) → Value left right true b
      left_constant true e (inl is) = subst (λ (l : ℕ). Value l right true true) (sym is) refl
      left_constant true e (inr is) = both (bit_cases right (ltb-true right 2 e))
        where
          both : (right ≡ 0) ⊎ (right ≡ 1) → Value left right true true
          both (inl r) = subst (λ (l : ℕ). Value l right true true) (sym is) (subst (λ (r : ℕ). Value 1 r true true) (sym r) refl)
          both (inr r) = subst (λ (l : ℕ). Value l right true true) (sym is) (subst (λ (r : ℕ). Value 1 r true true) (sym r) refl)
      left_constant false e (inl is) = subst (λ (l : ℕ). Value l right true false) (sym is) (zero_bit y)
      left_constant false e (inr is) = subst (λ (l : ℕ). Value l right true false) (sym is) (one_value (right % 2 == 0) y)

      right_constant : (right ≡ 0) ⊎ (right ≡ 1) → Value left right false true
      right_constant (inl is) = subst (λ (r : ℕ). Value left r false true) (sym is) (zero_bit x ∙ sym (and-false (cond (left % 2 == 0) x (not x))))
      right_constant (inr is) = subst (λ (r : ℕ). Value left r false true) (sym is) (one_value (left % 2 == 0) x ∙ sym (and-true (cond (left % 2 == 0) x (not x))))

      by : (a : Bool) → nat_lt left 2 ≡ a → (b : Bool) → nat_lt right 2 ≡ b → Value left right a b
      by true e b f = left_constant b f (bit_cases left (ltb-true left 2 e))
      by false e true f = right_constant (bit_cases right (ltb-true right 2 f))
      by false e false f = two_values (left % 2 == 0) (right % 2 == 0) x y

-- ---- gates stay

abbrev pub KeepsGates : NetList → NetList → Type 0
KeepsGates net more = (g : GateValue) → Has net.gates g → Has more.gates g

has_last : (xs : List GateValue) (g : GateValue) → Has (xs ++ g ∷ []) g
has_last [] g = (zero, refl)
has_last (x ∷ xs) g = let more = has_last xs g in (suc more.0, more.1)

pub same_gates : (net more : NetList) → more.gates ≡ net.gates → KeepsGates net more
same_gates net more same = λ g has. let P : List GateValue → Type 0 = λ gs. Has gs g in subst P (sym same) has

pub one_gate : (gate : GateValue) (net more : NetList) → gated gate net ≡ Ok more → KeepsGates net more
one_gate gate net more made = λ g has. let P : List GateValue → Type 0 = λ gs. Has gs g in subst P (sym (gated_gates gate net more made)) (Has_left net.gates (gate ∷ []) g has)

module _ (reading : Reading) where
  keep_and : (found : Option ℕ) (line : AndLine) (net more : NetList) → and_made reading found line net ≡ Ok more → KeepsGates net more
  keep_and None line net more made = let is : net ≡ more = cc in same_gates net more (ap (λ (x : NetList). x.gates) (sym is))
  keep_and (Some out) line net more made = one_gate (and_gate reading out line) net more made

  keep_ands : (lines : List AndLine) (net more : NetList) → ands_made reading lines net ≡ Ok more → KeepsGates net more
  keep_ands [] net more made = let is : net ≡ more = cc in same_gates net more (ap (λ (x : NetList). x.gates) (sym is))
  keep_ands (line ∷ lines) net more made =
      let (next, one, rest) = split_ok (and_made reading (net_of reading line.literal) line net) (λ m. ands_made reading lines m) more made in
      λ g has. keep_ands lines next more rest g (keep_and (net_of reading line.literal) line net next one g has)

  -- the gate of each AND is there
  has_and : (lines : List AndLine) (net more : NetList) (line : AndLine) (n : ℕ) → ands_made reading lines net ≡ Ok more → Has lines line → net_of reading line.literal ≡ Some n → Has more.gates (and_gate reading n line)
  has_and [] net more line n made (k, at) is = absurd (cc)
  has_and (first ∷ lines) net more line n made has is =
      let (next, one, rest) = split_ok (and_made reading (net_of reading first.literal) first net) (λ m. ands_made reading lines m) more made in
      by next one rest (λ later. has_and lines next more line n rest later is) has
    where
      by : (next : NetList) → and_made reading (net_of reading first.literal) first net ≡ Ok next → ands_made reading lines next ≡ Ok more → (Has lines line → Has more.gates (and_gate reading n line)) → Has (first ∷ lines) line → Has more.gates (and_gate reading n line)
      by next one rest further (zero, at) =
          let same : first ≡ line = cc in
          let P : AndLine → Type 0 = λ l. and_made reading (net_of reading l.literal) l net ≡ Ok next in
          let here : gated (and_gate reading n line) net ≡ Ok next = rw is at (subst P same one) in
          let Q : List GateValue → Type 0 = λ gs. Has gs (and_gate reading n line) in
          keep_ands lines next more rest (and_gate reading n line) (subst Q (sym (gated_gates (and_gate reading n line) net next here)) (has_last net.gates (and_gate reading n line)))
      by next one rest further (suc k, at) = further (k, at)

  keep_fresh : (out : ℕ) (latch : LatchLine) (net more : NetList) → fresh_latch reading out latch net ≡ Ok more → KeepsGates net more
  keep_fresh out latch net more made =
      let (first, one, rest) = split_ok (labelled (decimal latch.next) false net) (λ m. gated (literal_gate reading (nets net) latch.next) m >>= (λ with. latched (latch_on (nets net) out latch) with)) more made in
      let (second, two, last) = split_ok (gated (literal_gate reading (nets net) latch.next) first) (λ with. latched (latch_on (nets net) out latch) with) more rest in
      λ g has. same_gates second more (ap (λ (x : NetList). x.gates) (latched_is (latch_on (nets net) out latch) second more last)) g
      (one_gate (literal_gate reading (nets net) latch.next) first second two g (same_gates net first (ap (λ (x : NetList). x.gates) (labelled_is (decimal latch.next) false net first one)) g has))

  pub keep_latch : (found : Option ℕ) (latch : LatchLine) (net more : NetList) → latch_made reading found latch net ≡ Ok more → KeepsGates net more
  keep_latch None latch net more made = let is : net ≡ more = cc in same_gates net more (ap (λ (x : NetList). x.gates) (sym is))
  keep_latch (Some out) latch net more made = by (is_plain latch.next) made
    where
      by : (b : Bool) → cond b (latched (latch_on (variable_net reading latch.next) out latch) net) (fresh_latch reading out latch net) ≡ Ok more → KeepsGates net more
      by true is = same_gates net more (ap (λ (x : NetList). x.gates) (latched_is (latch_on (variable_net reading latch.next) out latch) net more is))
      by false is = keep_fresh out latch net more is

  pub keep_latches : (lines : List LatchLine) (net more : NetList) → latches_made reading lines net ≡ Ok more → KeepsGates net more
  keep_latches [] net more made = let is : net ≡ more = cc in same_gates net more (ap (λ (x : NetList). x.gates) (sym is))
  keep_latches (line ∷ lines) net more made =
      let (next, one, rest) = split_ok (latch_made reading (net_of reading line.literal) line net) (λ m. latches_made reading lines m) more made in
      λ g has. keep_latches lines next more rest g (keep_latch (net_of reading line.literal) line net next one g has)

  pub keep_output : (port literal : ℕ) (found : Option ℕ) (net more : NetList) → output_made reading port literal found net ≡ Ok more → KeepsGates net more
  keep_output port literal (Some n) net more made = let is : with_output n net ≡ more = cc in same_gates net more (ap (λ (x : NetList). x.gates) (sym is))
  keep_output port literal None net more made =
      let (first, one, rest) = split_ok (labelled (port_name reading port) true net) (λ m. gated (literal_gate reading (nets net) literal) m >>= (λ with. Ok (with_output (nets net) with))) more made in
      let (second, two, last) = split_ok (gated (literal_gate reading (nets net) literal) first) (λ with. Ok (with_output (nets net) with)) more rest in
      let is : with_output (nets net) second ≡ more = cc in
      λ g has. same_gates second more (ap (λ (x : NetList). x.gates) (sym is)) g
      (one_gate (literal_gate reading (nets net) literal) first second two g (same_gates net first (ap (λ (x : NetList). x.gates) (labelled_is (port_name reading port) true net first one)) g has))

  pub keep_outputs : (port : ℕ) (literals : List ℕ) (net more : NetList) → outputs_made reading port literals net ≡ Ok more → KeepsGates net more
  keep_outputs port [] net more made = let is : net ≡ more = cc in same_gates net more (ap (λ (x : NetList). x.gates) (sym is))
  keep_outputs port (literal ∷ literals) net more made =
      let (next, one, rest) = split_ok (output_made reading port literal (own reading port literal) net) (λ m. outputs_made reading (port + 1) literals m) more made in
      λ g has. keep_outputs (port + 1) literals next more rest g (keep_output port literal (own reading port literal) net next one g has)

-- in each consistent list of bits an AND's net is the conjunction of its literals
pub conjunctions : (reading : Reading) (net : NetList) → net_made reading ≡ Ok net → HasConjunctions reading net
conjunctions reading net made = λ bits line n consistent has is.
    let (variables, one, rest) = split_ok (variables_made reading 0 reading.defined empty) (λ v. ands_made reading reading.ands v >>= (λ a. latches_made reading reading.latches a >>= (λ l. outputs_made reading (driven reading.header) (drop (driven reading.header) reading.ports) l))) net made in
    let (ands, two, rest') = split_ok (ands_made reading reading.ands variables) (λ a. latches_made reading reading.latches a >>= (λ l. outputs_made reading (driven reading.header) (drop (driven reading.header) reading.ports) l)) net rest in
    let (latches, three, four) = split_ok (latches_made reading reading.latches ands) (λ l. outputs_made reading (driven reading.header) (drop (driven reading.header) reading.ports) l) net rest' in
    let gate = and_gate reading n line in
    let here = keep_outputs reading (driven reading.header) (drop (driven reading.header) reading.ports) latches net four gate (keep_latches reading reading.latches ands latches three gate (has_and reading reading.ands variables ands line n two has is)) in
    consistent.gates gate here ∙ table_value reading bits line.left line.right

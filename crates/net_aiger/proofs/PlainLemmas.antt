-- Each literal that a text defines is that of a variable, and not negated.
use Rattle.std.proofs.Common.{◌≡◌, refl, sym, subst, ℕ, zero, suc, ◌&&◌, Bool, true, false, cond, not, List, [], ◌∷◌, ◌++◌, map, Some, Result, Ok, Err}
use Rattle.std.specs.Prelude.{slice_get}
use Rattle.lists.specs.laws.BoolLaws.{first_true}
use Rattle.lists.specs.laws.ReadLaws.{from_map}
use Rattle.net_aiger.specs.Nets.{is_plain}
use Rattle.net_aiger.specs.Reading.{Reading, literals_of, ports_of, stands}
use Rattle.net_aiger.specs.Sections.{And, AreEntries, Input, Latch, Text, defining, fits, within}
use Rattle.net_aiger.specs.declared.fault.AigerFault.{AigerFault}
use Rattle.net_aiger.specs.declared.fault.AigerFault.TheVariants.{DefinedTwice, Literal}
use Rattle.net_aiger.specs.declared.reading.AndLine.{AndLine}
use Rattle.net_aiger.specs.declared.reading.Header.{Header}
use Rattle.net_aiger.specs.declared.reading.LatchLine.{LatchLine}

-- each literal is even and at least 2
abbrev pub ArePlain : List ℕ → Type 0
ArePlain literals = (k literal : ℕ) → slice_get literals k ≡ Some literal → is_plain literal ≡ true

plain_append : (xs ys : List ℕ) → ArePlain xs → ArePlain ys → ArePlain (xs ++ ys)
plain_append [] ys a b = b
plain_append (x ∷ xs) ys a b = λ k literal got. by k literal got (plain_append xs ys (λ j l at. a (suc j) l at) b)
  where
    by : (k literal : ℕ) → slice_get (x ∷ (xs ++ ys)) k ≡ Some literal → ArePlain (xs ++ ys) → is_plain literal ≡ true
    by zero literal got further = a zero literal got
    by (suc k) literal got further = further k literal got

plain_map : {A : Type 0} (literal_of : A → ℕ) (xs : List A) → ((k : ℕ) (x : A) → slice_get xs k ≡ Some x → is_plain (literal_of x) ≡ true) → ArePlain (map literal_of xs)
plain_map literal_of xs each = λ k literal got.
    let found = from_map literal_of xs k literal got in
    subst (λ (n : ℕ). is_plain n ≡ true) found.2 (each k found.0 found.1)

-- a literal that a line may define
defined_plain : (header : Header) (defined : List ℕ) (n literal left right : ℕ) → ◌≡◌ {A = Result (Unit {0}) AigerFault} (Ok tt) (defining header defined n literal left right) → is_plain literal ≡ true
defined_plain header defined n literal left right is = by (fits header literal left right) (λ f. first_true (is_plain literal) (within header literal && (within header left && within header right)) f) is
  where
    by : (b : Bool) → (b ≡ true → is_plain literal ≡ true) → ◌≡◌ {A = Result (Unit {0}) AigerFault} (Ok tt) (cond (not b) (Err (Literal n)) (cond (stands defined literal) (Err (DefinedTwice n)) (Ok tt))) → is_plain literal ≡ true
    by true further e = further refl
    by false further e = absurd (cc)

module _ (header : Header) (body : List (List ℕ)) where
  inputs_plain : (first : ℕ) (inputs : List ℕ) → AreEntries (Input header body) first inputs → ArePlain inputs
  inputs_plain first inputs are = λ k literal got.
      let (spelled, said, (u, allowed, same)) = are k literal got in
      subst (λ (l : ℕ). is_plain l ≡ true) (sym same) (defined_plain header _ _ spelled 0 0 allowed)

  latches_plain : (inputs : List ℕ) (first : ℕ) (latches : List LatchLine) → AreEntries (Latch header body inputs) first latches → ArePlain (literals_of latches)
  latches_plain inputs first latches are = plain_map (λ (l : LatchLine). l.literal) latches (λ k latch got.
      let (spelled, said, (u, allowed, same)) = are k latch got in
      subst (λ (l : LatchLine). is_plain l.literal ≡ true) (sym same) (defined_plain header _ _ spelled.literal spelled.next 0 allowed))

  ands_plain : (defined : List ℕ) (first : ℕ) (ands : List AndLine) → AreEntries (And header body defined) first ands → ArePlain (map (λ (a : AndLine). a.literal) ands)
  ands_plain defined first ands are = plain_map (λ (a : AndLine). a.literal) ands (λ k line got.
      let (spelled, said, (u, allowed, same)) = are k line got in
      subst (λ (l : AndLine). is_plain l.literal ≡ true) (sym same) (defined_plain header _ _ spelled.literal spelled.left spelled.right allowed))

-- what a text defines
pub text_plain : (text : List (List ℕ)) (reading : Reading) → Text text (Ok reading) → ArePlain reading.defined
text_plain [] reading is = absurd (cc)
text_plain (line ∷ body) reading (header, heads, (inputs, (_, inputs_are), (latches, (_, latches_are), (outputs, (_, outputs_are), (ands, (_, ands_are), (symbols, symbols_are, same)))))) =
    subst (λ (r : Reading). ArePlain r.defined) (sym same)
    (plain_append (inputs ++ literals_of latches) (map (λ (a : AndLine). a.literal) ands)
    (plain_append inputs (literals_of latches) (inputs_plain header body 0 inputs inputs_are) (latches_plain header body inputs header.inputs latches latches_are))
    (ands_plain header body (inputs ++ literals_of latches) (ports_of header) ands ands_are))

-- What a text says again: names of its symbols, and the word of the header that is left out.
use Rattle.std.proofs.Common.{◌≡◌, ◌⊎◌, inl, inr, sym, refl, subst, ℕ, not, Bool, true, false, cond, List, [], ◌∷◌, codes, decimal, drop, Option, None, Some, Result, Ok, Err}
use Rattle.std.specs.Prelude.{slice_get}
use Rattle.std.specs.Str.{bytes_eq}
use Rattle.net_aiger.specs.Reading.{Name, Reading, stands}
use Rattle.net_aiger.specs.Sections.{Text, defining, fits, using, within}
use Rattle.net_aiger.specs.Spelling.{first_other, is_port_name, left_number, left_out}
use Rattle.net_aiger.specs.declared.fault.AigerFault.{AigerFault}
use Rattle.net_aiger.specs.declared.fault.AigerFault.TheVariants.{DefinedTwice, LeftOut, Literal, Syntax}
use Rattle.net_aiger.specs.declared.reading.Header.{Header}

-- each symbol that was read is a name
pub text_names : (text : List (List ℕ)) (reading : Reading) → Text text (Ok reading) → (k : ℕ) (symbol : ℕ × Name) → slice_get reading.symbols k ≡ Some symbol → is_port_name symbol.1 ≡ true
text_names [] reading is k symbol at = absurd (cc)
text_names (line ∷ body) reading (header, heads, (inputs, i, (latches, l, (outputs, o, (ands, a, (symbols, (are, ends), same)))))) k symbol at =
    let P : Reading → Type 0 = λ r. slice_get r.symbols k ≡ Some symbol in
    let (text, there, (letter, place, digits, line_is, said, port, fits), new) = are k symbol (subst P same at) in
    fits

-- a word that a fault of a text repeats is `aig`, or a number
abbrev pub Repeats : AigerFault → Type 0
Repeats (LeftOut line word) = (word ≡ codes "aig") ⊎ ((n : ℕ) × (word ≡ decimal n))
Repeats (Syntax line) = Unit {0}
Repeats (Literal line) = Unit {0}
Repeats (DefinedTwice line) = Unit {0}
Repeats fault = ⊥

-- a fault is one of a result, all of whose faults repeat no more
abbrev Refuses : {A : Type 0} → Result A AigerFault → Type 0
Refuses (Ok a) = Unit {0}
Refuses (Err fault) = Repeats fault

refused : {A : Type 0} (result : Result A AigerFault) (fault : AigerFault) → Refuses result → Err fault ≡ result → Repeats fault
refused (Ok a) fault all is = absurd (cc)
refused (Err other) fault all is = let same : other ≡ fault = cc in subst Repeats same all

syntax_repeats : (line : ℕ) (fault : AigerFault) → fault ≡ Syntax line → Repeats fault
syntax_repeats line fault is = subst Repeats (sym is) tt

left_refuses : (word : List ℕ) (numbers : List ℕ) → Refuses (left_out word numbers)
left_refuses word numbers = by (bytes_eq word (codes "aig")) (first_other (drop 5 numbers))
  where
    by : (b : Bool) (found : Option ℕ) → Refuses (cond b (Err (LeftOut 1 (codes "aig"))) (left_number found))
    by true found = inl refl
    by false None = tt
    by false (Some n) = inr (n, refl)

defining_refuses : (header : Header) (defined : List ℕ) (line literal left right : ℕ) → Refuses (defining header defined line literal left right)
defining_refuses header defined line literal left right = by (fits header literal left right) (stands defined literal)
  where
    by : (f s : Bool) → Refuses {A = Unit {0}} (cond (not f) (Err (Literal line)) (cond s (Err (DefinedTwice line)) (Ok tt)))
    by true true = tt
    by true false = tt
    by false s = tt

using_refuses : (header : Header) (line literal : ℕ) → Refuses (using header line literal)
using_refuses header line literal = by (within header literal)
  where
    by : (b : Bool) → Refuses {A = Unit {0}} (cond b (Ok tt) (Err (Literal line)))
    by true = tt
    by false = tt

pub text_repeats : (text : List (List ℕ)) (fault : AigerFault) → Text text (Err fault) → Repeats fault
text_repeats [] fault is = refused (Err (Syntax 1)) fault tt is
text_repeats (line ∷ body) fault (inl (inl none)) = syntax_repeats 1 fault none.1
text_repeats (line ∷ body) fault (inl (inr (head, spelled, inl left))) = refused (left_out head.0 head.1) fault (left_refuses head.0 head.1) left
text_repeats (line ∷ body) fault (inl (inr (head, spelled, inr (u, some, never)))) = absurd never
text_repeats (line ∷ body) fault (inr (header, heads, inl (before, few, are, inl none))) = syntax_repeats _ fault none.1
text_repeats (line ∷ body) fault (inr (header, heads, inl (before, few, are, inr (literal, spelled, inl wrong)))) = refused _ fault (defining_refuses header before _ literal 0 0) wrong
text_repeats (line ∷ body) fault (inr (header, heads, inl (before, few, are, inr (literal, spelled, inr (u, some, never))))) = absurd never
text_repeats (line ∷ body) fault (inr (header, heads, inr (inputs, i, inl (before, few, are, inl none)))) = syntax_repeats _ fault none.1
text_repeats (line ∷ body) fault (inr (header, heads, inr (inputs, i, inl (before, few, are, inr (latch, spelled, inl wrong))))) = refused _ fault (defining_refuses header _ _ latch.literal latch.next 0) wrong
text_repeats (line ∷ body) fault (inr (header, heads, inr (inputs, i, inl (before, few, are, inr (latch, spelled, inr (u, some, never)))))) = absurd never
text_repeats (line ∷ body) fault (inr (header, heads, inr (inputs, i, inr (latches, l, inl (before, few, are, inl none))))) = syntax_repeats _ fault none.1
text_repeats (line ∷ body) fault (inr (header, heads, inr (inputs, i, inr (latches, l, inl (before, few, are, inr (literal, spelled, inl wrong)))))) = refused _ fault (using_refuses header _ literal) wrong
text_repeats (line ∷ body) fault (inr (header, heads, inr (inputs, i, inr (latches, l, inl (before, few, are, inr (literal, spelled, inr (u, some, never))))))) = absurd never
text_repeats (line ∷ body) fault (inr (header, heads, inr (inputs, i, inr (latches, l, inr (outputs, o, inl (before, few, are, inl none)))))) = syntax_repeats _ fault none.1
text_repeats (line ∷ body) fault (inr (header, heads, inr (inputs, i, inr (latches, l, inr (outputs, o, inl (before, few, are, inr (and, spelled, inl wrong))))))) = refused _ fault (defining_refuses header _ _ and.literal and.left and.right) wrong
text_repeats (line ∷ body) fault (inr (header, heads, inr (inputs, i, inr (latches, l, inr (outputs, o, inl (before, few, are, inr (and, spelled, inr (u, some, never)))))))) = absurd never
text_repeats (line ∷ body) fault (inr (header, heads, inr (inputs, i, inr (latches, l, inr (outputs, o, inr (ands, a, inl (before, further, are, none))))))) = syntax_repeats _ fault none.1
text_repeats (line ∷ body) fault (inr (header, heads, inr (inputs, i, inr (latches, l, inr (outputs, o, inr (ands, a, inr (symbols, s, never))))))) = absurd never

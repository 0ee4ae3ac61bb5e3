-- Each text in AIGER has a net or a fault.
use Rattle.std.proofs.Common.{◌≡◌, refl, sym, subst, ℕ, zero, suc, ◌≤◌, ◌+◌, ◌&&◌, Bool, true, false, cond, List, [], ◌∷◌, ◌++◌, length, take, get_or, Option, None, Some, Result, Ok, arith}
use Rattle.std.specs.Prelude.{nat_le, nat_lt, All}
use Rattle.std.specs.List.{list_all}
use Rattle.std.specs.Str.Lines.{lines}
use Rattle.std.proofs.lemmas.Bool.{le-leb, leb-true}
use Rattle.std.proofs.lemmas.List.{length-append}
use Rattle.lists.specs.laws.BoolLaws.{and_made, both_true, first_true}
use Rattle.lists.specs.laws.HasLaws.{all_from}
use Rattle.lists.specs.laws.ListLaws.{length_map}
use Rattle.outcome.specs.Outcome.{◌>>=◌, Returns, Within}
use Rattle.outcome.proofs.SomeLemmas.{some_bind, some_returns, some_within}
use Rattle.text_core.specs.Numbers.{value_of}
use Rattle.net_core.specs.Finish.{Settles}
use Rattle.net_core.specs.Inside.{IsNetName}
use Rattle.net_core.specs.NetList.{NetList}
use Rattle.reader_laws.proofs.SettleExists.{some_settles}
use Rattle.net_aiger.specs.AigerNet.{AigerNet, NetOf}
use Rattle.net_aiger.specs.Checks.{apart, known}
use Rattle.net_aiger.specs.Nets.{net_made}
use Rattle.net_aiger.specs.Numbers.{is_digit, is_number, number_of, numbers_of, put_first}
use Rattle.net_aiger.specs.Reading.{Name, Reading, literals_of, ports_of}
use Rattle.net_aiger.specs.Sections.{AreEntries, Heading, Symbol, Text}
use Rattle.net_aiger.specs.Spelling.{is_port_name, is_shown}
use Rattle.net_aiger.specs.declared.fault.AigerFault.{AigerFault}
use Rattle.net_aiger.specs.declared.fault.AigerFault.TheVariants.{Net}
use Rattle.net_aiger.specs.declared.reading.Header.{Header}
use Rattle.net_aiger.specs.declared.reading.LatchLine.{LatchLine}
use Rattle.net_aiger.specs.private.Run.{text_read}
use Rattle.reader_laws.proofs.AigerInside.{net_inside, IsNameable}
use Rattle.net_aiger.proofs.TextLemmas.{read_is_text}

-- ---- numbers of a header

number_small : (word : List ℕ) (n : ℕ) → number_of word ≡ Some n → n ≤ 4294967295
number_small word n is = by (is_number word) refl is
  where
    by : (b : Bool) → is_number word ≡ b → cond b (Some (value_of 10 word)) None ≡ Some n → n ≤ 4294967295
    by true all e =
        let same : value_of 10 word ≡ n = cc in
        let fits = both_true (nat_lt 0 (length word) && list_all is_digit word) (nat_le (value_of 10 word) 4294967295) all in
        omega (arith, same, leb-true (value_of 10 word) 4294967295 fits.1)
    by false all e = absurd (cc)

numbers_small : (words : List (List ℕ)) (numbers : List ℕ) → numbers_of words ≡ Some numbers → (k : ℕ) → get_or numbers k 0 ≤ 4294967295
numbers_small [] numbers is k = let same : [] ≡ numbers = cc in let P : List ℕ → Type 0 = λ ns. get_or ns k 0 ≤ 4294967295 in subst P same (omega arith)
numbers_small (word ∷ words) numbers is k = by (λ ns more. numbers_small words ns more) (number_of word) refl (numbers_of words) refl is
  where
    first : (n : ℕ) (ns : List ℕ) → n ≤ 4294967295 → ((j : ℕ) → get_or ns j 0 ≤ 4294967295) → (j : ℕ) → get_or (n ∷ ns) j 0 ≤ 4294967295
    first n ns small rest zero = small
    first n ns small rest (suc j) = rest j

    by : ((ns : List ℕ) → numbers_of words ≡ Some ns → (j : ℕ) → get_or ns j 0 ≤ 4294967295) → (a : Option ℕ) → number_of word ≡ a → (b : Option (List ℕ)) → numbers_of words ≡ b → put_first a b ≡ Some numbers → get_or numbers k 0 ≤ 4294967295
    by rest None one b more e = absurd (cc)
    by rest (Some n) one None more e = absurd (cc)
    by rest (Some n) one (Some ns) more e =
        let same : n ∷ ns ≡ numbers = cc in
        let P : List ℕ → Type 0 = λ all. get_or all k 0 ≤ 4294967295 in
        subst P same (first n ns (number_small word n one) (rest ns more) k)

-- inputs, latches and outputs of a header
abbrev IsSmall : Header → Type 0
IsSmall header = (header.inputs ≤ 4294967295) × (header.latches ≤ 4294967295) × (header.outputs ≤ 4294967295)

heading_small : (line : List ℕ) (header : Header) → Heading line (Ok header) → IsSmall header
heading_small line header (head, (words, begins, numbers, is), (u, left, same)) =
    let P : Header → Type 0 = IsSmall in
    subst P (sym same) (numbers_small words head.1 numbers 1, numbers_small words head.1 numbers 2, numbers_small words head.1 numbers 3)

-- ---- names that a text gives

name_fits : (name : Name) → is_port_name name ≡ true → IsNetName name
name_fits name is =
    let sizes = both_true (nat_le 1 (length name)) (nat_le (length name) 255) (first_true (nat_le 1 (length name) && nat_le (length name) 255) (list_all is_shown name) is) in
    (leb-true 1 (length name) sizes.0, leb-true (length name) 255 sizes.1)

symbols_fit : (header : Header) (body : List (List ℕ)) (first : ℕ) (symbols : List (ℕ × Name)) → AreEntries (Symbol header body) first symbols → All (λ (s : ℕ × Name). IsNetName s.1) symbols
symbols_fit header body first symbols are =
    all_from (λ (s : ℕ × Name). IsNetName s.1) symbols (λ symbol has. one (take has.0 symbols) (first + has.0) symbol (are has.0 symbol has.1))
  where
    one : (before : List (ℕ × Name)) (line_at : ℕ) (symbol : ℕ × Name) → Symbol header body before line_at (Ok symbol) → IsNetName symbol.1
    one before line_at symbol (line, at, (letter, place, digits, is, number, port, named), new) = name_fits symbol.1 named

-- ---- what a text says

text_nameable : (text : List (List ℕ)) (reading : Reading) → Text text (Ok reading) → IsNameable reading
text_nameable [] reading is = absurd (cc)
text_nameable (line ∷ body) reading (header, heads, (inputs, (many_inputs, _), (latches, (many_latches, _), (outputs, (many_outputs, _), (ands, (many_ands, _), (symbols, (symbols_are, ends), same)))))) =
    let small = heading_small line header heads in
    let long : length ((inputs ++ literals_of latches) ++ outputs) ≡ header.inputs + header.latches + header.outputs =
    omega (arith, length-append (inputs ++ literals_of latches) outputs, length-append inputs (literals_of latches), length_map (λ (l : LatchLine). l.literal) latches, many_inputs, many_latches, many_outputs) in
    let P : Reading → Type 0 = IsNameable in
    subst P (sym same) (record {
      complete = and_made (nat_le (ports_of header) (length ((inputs ++ literals_of latches) ++ outputs))) (nat_le header.ands (length ands)) (le-leb (ports_of header) (length ((inputs ++ literals_of latches) ++ outputs)) (omega (arith, long))) (le-leb header.ands (length ands) (omega (arith, many_ands)));
      symbols = symbols_fit header body (ports_of header + header.ands) symbols symbols_are;
      few = omega (arith, long, small.0, small.1, small.2);
    })

-- ---- what comes of a text

some_net_of : (reading : Reading) → IsNameable reading → (outcome : Result NetList AigerFault) × NetOf reading outcome
some_net_of reading is =
    some_bind (Returns (known reading.defined reading.uses)) (λ _. Returns (apart reading 0 [] reading.ports) >>= (λ _. Within Net (Returns (net_made reading)) >>= (λ made. Within Net (Settles made)))) (some_returns (known reading.defined reading.uses))
    (λ first are_known. some_bind (Returns (apart reading 0 [] reading.ports)) (λ _. Within Net (Returns (net_made reading)) >>= (λ made. Within Net (Settles made))) (some_returns (apart reading 0 [] reading.ports))
    (λ second are_apart. some_bind (Within Net (Returns (net_made reading))) (λ made. Within Net (Settles made)) (some_within Net (Returns (net_made reading)) (some_returns (net_made reading)))
    (λ made is_made. some_within Net (Settles made) (some_settles made (net_inside reading is made (sym are_apart) (sym is_made))))))

pub some_net : (text : List ℕ) → (outcome : Result NetList AigerFault) × AigerNet text outcome
some_net text = some_bind (Text (lines text)) NetOf (text_read (lines text), read_is_text (lines text)) (λ reading says. some_net_of reading (text_nameable (lines text) reading says))

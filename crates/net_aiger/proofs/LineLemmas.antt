-- What lines spell, found by looking at them, and what comes of each line.
use Rattle.std.proofs.Common.{◌≡◌, ◌≢◌, ◌∙◌, ap, sym, refl, subst, inl, inr, ℕ, suc, ◌≤◌, ◌+◌, ◌==◌, ◌&&◌, not, Bool, true, false, cond, List, [], ◌∷◌, ◌++◌, length, length-append, drop, map, take, Option, None, Some, Result, Ok, arith}
use Rattle.std.specs.Prelude.{slice_get, nat_eq, nat_le, nat_lt, codes, option_and_then, is_some}
use Rattle.std.specs.List.{list_all}
use Rattle.std.specs.Map.{lookup}
use Rattle.std.specs.Option.{option_map}
use Rattle.std.proofs.lemmas.Bool.{eqb-true, eq-eqb, ne_eqb, leb-true}
use Rattle.lists.specs.laws.BoolLaws.{first_true, second_true}
use Rattle.lists.specs.laws.TakeLaws.{drop_none}
use Rattle.outcome.proofs.DeterminedLemmas.{determined_bind, determined_returns}
use Rattle.outcome.specs.Outcome.{Determined, Exactly, Returns, ◌>>=◌}
use Rattle.text_core.specs.Numbers.{value_of}
use Rattle.outcome.proofs.DeterminedLemmas.{determined_exactly}
use Rattle.net_core.specs.declared.latch.Start.{Start}
use Rattle.net_core.specs.declared.latch.Start.TheVariants.{Zero, One, Unknown}
use Rattle.net_aiger.specs.Numbers.{is_digit, is_number, number_of, numbers_of, words_of}
use Rattle.net_aiger.specs.Reading.{Name, literals_of}
use Rattle.net_aiger.specs.Sections.{And, Ends, Heading, Input, Latch, Output, Spelled, Symbol, defining, numbers_at, using}
use Rattle.net_aiger.specs.Spelling.{IsStart, SpellsHeader, SpellsLatch, SpellsSymbol, counts, is_header, is_port_name, is_shown, left_out}
use Rattle.net_aiger.specs.declared.fault.AigerFault.{AigerFault}
use Rattle.net_aiger.specs.declared.reading.AndLine.{AndLine}
use Rattle.net_aiger.specs.declared.reading.Header.{Header}
use Rattle.net_aiger.specs.declared.reading.LatchLine.{LatchLine}
use Rattle.net_aiger.specs.private.Run.{before_space, latch_of, latch_with, port_of, start_of}
use Rattle.net_aiger.proofs.EntryLemmas.{Finds, both_come, or_syntax, spelled_determined, spelled_found, then_by}

-- ---- the header

abbrev Head : Type 0
Head = List ℕ × List ℕ

abbrev pub head_with : List ℕ → Option (List ℕ) → Option Head
head_with word None = None
head_with word (Some numbers) = cond (is_header word numbers) (Some (word, numbers)) None

abbrev pub head_found : List (List ℕ) → Option Head
head_found [] = None
head_found (word ∷ words) = head_with word (numbers_of words)

finds_head : (line : List ℕ) → Finds (SpellsHeader line) (head_found (words_of line))
finds_head line = record { each = λ head s. each head s; is = λ head e. is (words_of line) refl head e }
  where
    each : (head : Head) → SpellsHeader line head → head_found (words_of line) ≡ Some head
    each head (words, line_is, numbers, right) = rw (line_is, numbers, right) refl

    with : (word : List ℕ) (words : List (List ℕ)) → words_of line ≡ word ∷ words → (found : Option (List ℕ)) → numbers_of words ≡ found → (head : Head) → head_with word found ≡ Some head → SpellsHeader line head
    with word words line_is None said head e = absurd (cc)
    with word words line_is (Some numbers) said head e = by (is_header word numbers) refl e
      where
        by : (b : Bool) → is_header word numbers ≡ b → cond b (Some (word, numbers)) None ≡ Some head → SpellsHeader line head
        by true right f = let same : (word, numbers) ≡ head = cc in let P : Head → Type 0 = SpellsHeader line in subst P same (words, line_is, said, right)
        by false right f = absurd (cc)

    is : (words : List (List ℕ)) → words_of line ≡ words → (head : Head) → head_found words ≡ Some head → SpellsHeader line head
    is [] line_is head e = absurd (cc)
    is (word ∷ words) line_is head e = with word words line_is (numbers_of words) refl head e

abbrev pub heading : List ℕ → Result Header AigerFault
heading line = then_by (or_syntax 1 (head_found (words_of line))) (λ head. then_by (left_out head.0 head.1) (λ _. Ok (counts head.1)))

pub heading_comes : (line : List ℕ) → Heading line (heading line)
heading_comes line =
    both_come (Spelled 1 (SpellsHeader line)) (λ head. Returns (left_out head.0 head.1) >>= (λ _. Exactly (counts head.1))) (or_syntax 1 (head_found (words_of line))) (λ head. then_by (left_out head.0 head.1) (λ _. Ok (counts head.1))) (spelled_found 1 (SpellsHeader line) (head_found (words_of line)) (finds_head line))
    (λ head may. both_come (Returns (left_out head.0 head.1)) (λ _. Exactly (counts head.1)) (left_out head.0 head.1) (λ _. Ok (counts head.1)) refl (λ _ may'. refl))

pub heading_determined : (line : List ℕ) → Determined (Heading line)
heading_determined line =
    determined_bind (Spelled 1 (SpellsHeader line)) (λ head. Returns (left_out head.0 head.1) >>= (λ _. Exactly (counts head.1))) (spelled_determined 1 (SpellsHeader line) (head_found (words_of line)) (finds_head line))
    (λ head. determined_bind (Returns (left_out head.0 head.1)) (λ _. Exactly (counts head.1)) (determined_returns (left_out head.0 head.1)) (λ _. determined_exactly (counts head.1)))

-- ---- a line whose entry is spelled, and then allowed

abbrev pub allowing : {A : Type 0} → ℕ → Option A → (A → Result (Unit {0}) AigerFault) → Result A AigerFault
allowing n found allowed = then_by (or_syntax n found) (λ a. then_by (allowed a) (λ _. Ok a))

module _ {A : Type 0} (n : ℕ) (spells : A → Type 0) (found : Option A) (finds : Finds spells found) (allowed : A → Result (Unit {0}) AigerFault) where
  pub allowed_comes : ◌>>=◌ (Spelled n spells) (λ a. Returns (allowed a) >>= (λ _. Exactly a)) (allowing n found allowed)
  allowed_comes = both_come (Spelled n spells) (λ a. Returns (allowed a) >>= (λ _. Exactly a)) (or_syntax n found) (λ a. then_by (allowed a) (λ _. Ok a)) (spelled_found n spells found finds)
      (λ a may. both_come (Returns (allowed a)) (λ _. Exactly a) (allowed a) (λ _. Ok a) refl (λ _ may'. refl))

  pub allowed_determined : Determined (Spelled n spells >>= (λ a. Returns (allowed a) >>= (λ _. Exactly a)))
  allowed_determined = determined_bind (Spelled n spells) (λ a. Returns (allowed a) >>= (λ _. Exactly a)) (spelled_determined n spells found finds)
      (λ a. determined_bind (Returns (allowed a)) (λ _. Exactly a) (determined_returns (allowed a)) (λ _. determined_exactly a))

-- ---- one number

abbrev pub single : Option (List ℕ) → Option ℕ
single (Some (literal ∷ [])) = Some literal
single numbers = None

finds_single : (numbers : Option (List ℕ)) → Finds (λ literal. numbers ≡ Some (literal ∷ [])) (single numbers)
finds_single None = record { each = λ a s. absurd (cc); is = λ a e. absurd (cc) }
finds_single (Some []) = record { each = λ a s. absurd (cc); is = λ a e. absurd (cc) }
finds_single (Some (l ∷ [])) = record { each = λ a s. cc; is = λ a e. cc }
finds_single (Some (l ∷ m ∷ ms)) = record { each = λ a s. absurd (cc); is = λ a e. absurd (cc) }

-- ---- latches

finds_start : (literal begin : ℕ) (start : Start) → IsStart literal begin start → start_of literal begin ≡ Some start
finds_start literal begin Zero is = rw is refl
finds_start literal begin One is = rw is refl
finds_start literal begin Unknown (high, is) = rw (ne_eqb begin 0 (omega (arith, high)), ne_eqb begin 1 (omega (arith, high)), eq-eqb begin literal is) refl

is_start : (literal begin : ℕ) (start : Start) → start_of literal begin ≡ Some start → IsStart literal begin start
is_start literal begin start is = first (begin == 0) refl is
  where
    second : begin ≢ 0 → (b : Bool) → (begin == 1) ≡ b → (c : Bool) → (begin == literal) ≡ c → cond b (Some One) (cond c (Some Unknown) None) ≡ Some start → IsStart literal begin start
    second other true e c f g = let same : One ≡ start = cc in let P : Start → Type 0 = IsStart literal begin in subst P same (eqb-true begin 1 e)
    second other false e true f g =
        let same : Unknown ≡ start = cc in
        let apart : begin ≢ 1 = λ is. let wrong : (begin == 1) ≡ true = eq-eqb begin 1 is in absurd (cc) in
        let P : Start → Type 0 = IsStart literal begin in subst P same (omega (arith, other, apart), eqb-true begin literal f)
    second other false e false f g = absurd (cc)

    first : (b : Bool) → (begin == 0) ≡ b → cond b (Some Zero) (cond (begin == 1) (Some One) (cond (begin == literal) (Some Unknown) None)) ≡ Some start → IsStart literal begin start
    first true e f = let same : Zero ≡ start = cc in let P : Start → Type 0 = IsStart literal begin in subst P same (eqb-true begin 0 e)
    first false e f = second (λ is. let wrong : (begin == 0) ≡ true = eq-eqb begin 0 is in absurd (cc)) (begin == 1) refl (begin == literal) refl f

abbrev pub latch_in : Option (List ℕ) → Option LatchLine
latch_in None = None
latch_in (Some numbers) = latch_of numbers

-- a latch by its parts
latch_parts : (latch : LatchLine) (literal next : ℕ) (start : Start) → literal ≡ latch.literal → next ≡ latch.next → start ≡ latch.start → latch_with literal next start ≡ latch
latch_parts latch literal next start e f g = rw (e, f, g) refl

finds_latch : (numbers : Option (List ℕ)) → Finds (λ latch. (ns : List ℕ) × (numbers ≡ Some ns) × SpellsLatch ns latch) (latch_in numbers)
finds_latch numbers = record { each = λ latch s. each latch s; is = λ latch e. is numbers refl latch e }
  where
    each : (latch : LatchLine) → (ns : List ℕ) × (numbers ≡ Some ns) × SpellsLatch ns latch → latch_in numbers ≡ Some latch
    each latch (ns, said, inl (two, start)) = rw (said, two) (ap Some (latch_parts latch latch.literal latch.next Zero refl refl (sym start)))
    each latch (ns, said, inr (begin, three, start)) = rw (said, three, finds_start latch.literal begin latch.start start) (ap Some (latch_parts latch latch.literal latch.next latch.start refl refl refl))

    three : (literal next begin : ℕ) → numbers ≡ Some (literal ∷ next ∷ begin ∷ []) → (found : Option Start) → start_of literal begin ≡ found → (latch : LatchLine) → option_map (latch_with literal next) found ≡ Some latch → (ns : List ℕ) × (numbers ≡ Some ns) × SpellsLatch ns latch
    three literal next begin said None begins latch e = absurd (cc)
    three literal next begin said (Some start) begins latch e =
        let same : latch_with literal next start ≡ latch = cc in
        let P : LatchLine → Type 0 = λ l. (ns : List ℕ) × (numbers ≡ Some ns) × SpellsLatch ns l in
        subst P same (literal ∷ next ∷ begin ∷ [], said, inr (begin, refl, is_start literal begin start begins))

    is : (found : Option (List ℕ)) → numbers ≡ found → (latch : LatchLine) → latch_in found ≡ Some latch → (ns : List ℕ) × (numbers ≡ Some ns) × SpellsLatch ns latch
    is None said latch e = absurd (cc)
    is (Some []) said latch e = absurd (cc)
    is (Some (literal ∷ [])) said latch e = absurd (cc)
    is (Some (literal ∷ next ∷ [])) said latch e =
        let same : latch_with literal next Zero ≡ latch = cc in
        let P : LatchLine → Type 0 = λ l. (ns : List ℕ) × (numbers ≡ Some ns) × SpellsLatch ns l in
        subst P same (literal ∷ next ∷ [], said, inl (refl, refl))
    is (Some (literal ∷ next ∷ begin ∷ [])) said latch e = three literal next begin said (start_of literal begin) refl latch e
    is (Some (literal ∷ next ∷ begin ∷ other ∷ rest)) said latch e = absurd (cc)

-- ---- three numbers

abbrev pub triple : Option (List ℕ) → Option AndLine
triple (Some (literal ∷ left ∷ right ∷ [])) = Some (record { literal = literal; left = left; right = right })
triple numbers = None

finds_triple : (numbers : Option (List ℕ)) → Finds (λ line. numbers ≡ Some (line.literal ∷ line.left ∷ line.right ∷ [])) (triple numbers)
finds_triple numbers = record { each = λ line s. rw s refl; is = λ line e. is numbers refl line e }
  where
    is : (found : Option (List ℕ)) → numbers ≡ found → (line : AndLine) → triple found ≡ Some line → numbers ≡ Some (line.literal ∷ line.left ∷ line.right ∷ [])
    is None said line e = absurd (cc)
    is (Some []) said line e = absurd (cc)
    is (Some (a ∷ [])) said line e = absurd (cc)
    is (Some (a ∷ b ∷ [])) said line e = absurd (cc)
    is (Some (a ∷ b ∷ c ∷ [])) said line e =
        let made : AndLine = record { literal = a; left = b; right = c } in
        let same : made ≡ line = cc in
        let P : AndLine → Type 0 = λ l. numbers ≡ Some (l.literal ∷ l.left ∷ l.right ∷ []) in
        subst P same said
    is (Some (a ∷ b ∷ c ∷ d ∷ ds)) said line e = absurd (cc)

-- ---- symbols

take_one_more : (n x : ℕ) (xs : List ℕ) → take (1 + n) (x ∷ xs) ≡ x ∷ take n xs
take_one_more n x xs = let same : 1 + n ≡ suc n = omega arith in ap (λ m. take m (x ∷ xs)) same

before_none : (b : ℕ) (bs : List ℕ) → (b == 32) ≡ true → before_space (b ∷ bs) ≡ []
before_none b bs e = rw e refl

before_more : (b : ℕ) (bs : List ℕ) → (b == 32) ≡ false → before_space (b ∷ bs) ≡ b ∷ before_space bs
before_more b bs e = rw e (take_one_more _ b bs)

-- what is all digits before a space is what stands before the first space
before_is : (digits name : List ℕ) → list_all is_digit digits ≡ true → before_space (digits ++ 32 ∷ name) ≡ digits
before_is [] name all = refl
before_is (d ∷ ds) name all =
    let low : 48 ≤ d = leb-true 48 d (first_true (nat_le 48 d) (nat_le d 57) (first_true (is_digit d) (list_all is_digit ds) all)) in
    before_more d (ds ++ 32 ∷ name) (ne_eqb d 32 (omega (arith, low))) ∙ ap (λ (xs : List ℕ). d ∷ xs) (before_is ds name (second_true (is_digit d) (list_all is_digit ds) all))

behind_is : (digits name : List ℕ) → drop (length digits + 1) (digits ++ 32 ∷ name) ≡ name
behind_is [] name = drop_none name
behind_is (d ∷ ds) name = let same : suc (length ds) + 1 ≡ suc (length ds + 1) = omega arith in ap (λ n. drop n (d ∷ (ds ++ 32 ∷ name))) same ∙ behind_is ds name

-- where something stands behind so many bytes and one more
abbrev HasBehind : List ℕ → List ℕ → Type 0
HasBehind bytes front = 1 ≤ length (drop (length front + 1) bytes)

-- the bytes are these, a space, and what stands behind
abbrev AreAround : List ℕ → List ℕ → Type 0
AreAround bytes front = bytes ≡ front ++ 32 ∷ drop (length front + 1) bytes

around_one : (b : ℕ) (bs : List ℕ) (v : Bool) → (b == 32) ≡ v → (HasBehind bs (before_space bs) → AreAround bs (before_space bs)) → HasBehind (b ∷ bs) (before_space (b ∷ bs)) → AreAround (b ∷ bs) (before_space (b ∷ bs))
around_one b bs true e further some =
    let same : b ≡ 32 = eqb-true b 32 e in
    let P : List ℕ → Type 0 = AreAround (b ∷ bs) in
    subst P (sym (before_none b bs e)) (rw (same, drop_none bs) refl)
around_one b bs false e further some =
    let place : suc (length (before_space bs)) + 1 ≡ suc (length (before_space bs) + 1) = omega arith in
    let P : List ℕ → Type 0 = AreAround (b ∷ bs) in
    let Q : List ℕ → Type 0 = HasBehind (b ∷ bs) in
    let R : ℕ → Type 0 = λ n. 1 ≤ length (drop n (b ∷ bs)) in
    let behind : HasBehind bs (before_space bs) = subst R place (subst Q (before_more b bs e) some) in
    subst P (sym (before_more b bs e)) (ap (λ (xs : List ℕ). b ∷ xs) (further behind ∙ ap (λ n. before_space bs ++ 32 ∷ drop n (b ∷ bs)) (sym place)))

-- where something stands behind the first space, there is one
around_space : (bytes : List ℕ) → HasBehind bytes (before_space bytes) → AreAround bytes (before_space bytes)
around_space [] some = absurd (omega (arith, some))
around_space (b ∷ bs) some = around_one b bs (b == 32) refl (around_space bs) some

digits_of : (word : List ℕ) (n : ℕ) → number_of word ≡ Some n → list_all is_digit word ≡ true
digits_of word n is = by (is_number word) refl is
  where
    by : (b : Bool) → is_number word ≡ b → cond b (Some (value_of 10 word)) None ≡ Some n → list_all is_digit word ≡ true
    by true e f = second_true (nat_lt 0 (length word)) (list_all is_digit word) (first_true (nat_lt 0 (length word) && list_all is_digit word) (nat_le (value_of 10 word) 4294967295) e)
    by false e f = absurd (cc)

abbrev Symbols : Type 0
Symbols = List (ℕ × Name)

abbrev pub name_for : Symbols → Name → Option ℕ → Option (ℕ × Name)
name_for symbols name None = None
name_for symbols name (Some port) = cond (is_port_name name && not (is_some (lookup (nat_eq port) symbols))) (Some (port, name)) None

abbrev pub symbol_in : Header → Symbols → List ℕ → Option (ℕ × Name)
symbol_in header symbols [] = None
symbol_in header symbols (letter ∷ bytes) = name_for symbols (drop (length (before_space bytes) + 1) bytes) (port_of header letter (number_of (before_space bytes)))

module _ (header : Header) (symbols : Symbols) where
  abbrev IsSymbol : List ℕ → (ℕ × Name) → Type 0
  IsSymbol line symbol = SpellsSymbol header line symbol × (lookup (nat_eq symbol.0) symbols ≡ None)

  symbol_spelled : (line : List ℕ) (symbol : ℕ × Name) → IsSymbol line symbol → symbol_in header symbols line ≡ Some symbol
  symbol_spelled line symbol ((letter, place, digits, line_is, number, port, fits), new) =
      let before = before_is digits symbol.1 (digits_of digits place number) in
      rw (line_is, before, number, port, behind_is digits symbol.1, fits, new) refl

  new_port : (found : Option Name) → not (is_some found) ≡ true → found ≡ None
  new_port None e = refl
  new_port (Some name) e = absurd (cc)

  symbol_named : (letter : ℕ) (bytes : List ℕ) (found port : Option ℕ) → number_of (before_space bytes) ≡ found → port_of header letter found ≡ port → (symbol : ℕ × Name) → name_for symbols (drop (length (before_space bytes) + 1) bytes) port ≡ Some symbol → IsSymbol (letter ∷ bytes) symbol
  symbol_named letter bytes None None said at symbol e = absurd (cc)
  symbol_named letter bytes None (Some port) said at symbol e = absurd (cc)
  symbol_named letter bytes (Some place) None said at symbol e = absurd (cc)
  symbol_named letter bytes (Some place) (Some port) said at symbol e = by (is_port_name name) refl (not (is_some (lookup (nat_eq port) symbols))) refl e
    where
      name : Name
      name = drop (length (before_space bytes) + 1) bytes

      by : (a : Bool) → is_port_name name ≡ a → (b : Bool) → not (is_some (lookup (nat_eq port) symbols)) ≡ b → cond (a && b) (Some (port, name)) None ≡ Some symbol → IsSymbol (letter ∷ bytes) symbol
      by true fits true new f =
          let same : (port, name) ≡ symbol = cc in
          let long : 1 ≤ length name = leb-true 1 (length name) (first_true (nat_le 1 (length name)) (nat_le (length name) 255) (first_true (nat_le 1 (length name) && nat_le (length name) 255) (list_all is_shown name) fits)) in
          let P : (ℕ × Name) → Type 0 = IsSymbol (letter ∷ bytes) in
          subst P same ((letter, place, before_space bytes, ap (λ (xs : List ℕ). letter ∷ xs) (around_space bytes long), said, at, fits), new_port (lookup (nat_eq port) symbols) new)
      by true fits false new f = absurd (cc)
      by false fits b new f = absurd (cc)

  symbol_is : (line : List ℕ) (symbol : ℕ × Name) → symbol_in header symbols line ≡ Some symbol → IsSymbol line symbol
  symbol_is [] symbol e = absurd (cc)
  symbol_is (letter ∷ bytes) symbol e = symbol_named letter bytes (number_of (before_space bytes)) (port_of header letter (number_of (before_space bytes))) refl refl symbol e

  pub finds_symbol : (line : Option (List ℕ)) → Finds (λ symbol. (text : List ℕ) × (line ≡ Some text) × SpellsSymbol header text symbol × (lookup (nat_eq symbol.0) symbols ≡ None)) (option_and_then (symbol_in header symbols) line)
  finds_symbol None = record { each = λ symbol s. absurd (none s.1); is = λ symbol e. absurd (cc) }
    where
      none : {text : List ℕ} → ◌≡◌ {A = Option (List ℕ)} None (Some text) → ⊥
      none e = cc
  finds_symbol (Some line) = record { each = λ symbol s. each symbol s; is = λ symbol e. let found = symbol_is line symbol e in (line, refl, found.0, found.1) }
    where
      each : (symbol : ℕ × Name) → (text : List ℕ) × (◌≡◌ {A = Option (List ℕ)} (Some line) (Some text)) × SpellsSymbol header text symbol × (lookup (nat_eq symbol.0) symbols ≡ None) → symbol_in header symbols line ≡ Some symbol
      each symbol (text, same, spells, new) = let line_is : text ≡ line = cc in ap (symbol_in header symbols) (sym line_is) ∙ symbol_spelled text symbol (spells, new)

-- ---- the lines of sections

module _ (header : Header) (body : List (List ℕ)) where
  abbrev pub input : List ℕ → ℕ → Result ℕ AigerFault
  input inputs place = allowing (place + 2) (single (numbers_at body place)) (λ literal. defining header inputs (place + 2) literal 0 0)

  pub input_comes : (inputs : List ℕ) (place : ℕ) → Input header body inputs place (input inputs place)
  input_comes inputs place = allowed_comes (place + 2) (λ literal. numbers_at body place ≡ Some (literal ∷ [])) (single (numbers_at body place)) (finds_single (numbers_at body place)) (λ literal. defining header inputs (place + 2) literal 0 0)

  pub input_determined : (inputs : List ℕ) (place : ℕ) → Determined (Input header body inputs place)
  input_determined inputs place = allowed_determined (place + 2) (λ literal. numbers_at body place ≡ Some (literal ∷ [])) (single (numbers_at body place)) (finds_single (numbers_at body place)) (λ literal. defining header inputs (place + 2) literal 0 0)

  abbrev pub output : List ℕ → ℕ → Result ℕ AigerFault
  output outputs place = allowing (place + 2) (single (numbers_at body place)) (λ literal. using header (place + 2) literal)

  pub output_comes : (outputs : List ℕ) (place : ℕ) → Output header body outputs place (output outputs place)
  output_comes outputs place = allowed_comes (place + 2) (λ literal. numbers_at body place ≡ Some (literal ∷ [])) (single (numbers_at body place)) (finds_single (numbers_at body place)) (λ literal. using header (place + 2) literal)

  pub output_determined : (outputs : List ℕ) (place : ℕ) → Determined (Output header body outputs place)
  output_determined outputs place = allowed_determined (place + 2) (λ literal. numbers_at body place ≡ Some (literal ∷ [])) (single (numbers_at body place)) (finds_single (numbers_at body place)) (λ literal. using header (place + 2) literal)

  module _ (inputs : List ℕ) where
    abbrev pub latch : List LatchLine → ℕ → Result LatchLine AigerFault
    latch latches place = allowing (place + 2) (latch_in (numbers_at body place)) (λ l. defining header (inputs ++ literals_of latches) (place + 2) l.literal l.next 0)

    pub latch_comes : (latches : List LatchLine) (place : ℕ) → Latch header body inputs latches place (latch latches place)
    latch_comes latches place =
        allowed_comes (place + 2) (λ l. (numbers : List ℕ) × (numbers_at body place ≡ Some numbers) × SpellsLatch numbers l) (latch_in (numbers_at body place)) (finds_latch (numbers_at body place)) (λ l. defining header (inputs ++ literals_of latches) (place + 2) l.literal l.next 0)

    pub latch_determined : (latches : List LatchLine) (place : ℕ) → Determined (Latch header body inputs latches place)
    latch_determined latches place =
        allowed_determined (place + 2) (λ l. (numbers : List ℕ) × (numbers_at body place ≡ Some numbers) × SpellsLatch numbers l) (latch_in (numbers_at body place)) (finds_latch (numbers_at body place)) (λ l. defining header (inputs ++ literals_of latches) (place + 2) l.literal l.next 0)

  module _ (defined : List ℕ) where
    abbrev pub conjunction : List AndLine → ℕ → Result AndLine AigerFault
    conjunction ands place = allowing (place + 2) (triple (numbers_at body place)) (λ l. defining header (defined ++ map (λ (a : AndLine). a.literal) ands) (place + 2) l.literal l.left l.right)

    pub and_comes : (ands : List AndLine) (place : ℕ) → And header body defined ands place (conjunction ands place)
    and_comes ands place =
        allowed_comes (place + 2) (λ l. numbers_at body place ≡ Some (l.literal ∷ l.left ∷ l.right ∷ [])) (triple (numbers_at body place)) (finds_triple (numbers_at body place)) (λ l. defining header (defined ++ map (λ (a : AndLine). a.literal) ands) (place + 2) l.literal l.left l.right)

    pub and_determined : (ands : List AndLine) (place : ℕ) → Determined (And header body defined ands place)
    and_determined ands place =
        allowed_determined (place + 2) (λ l. numbers_at body place ≡ Some (l.literal ∷ l.left ∷ l.right ∷ [])) (triple (numbers_at body place)) (finds_triple (numbers_at body place)) (λ l. defining header (defined ++ map (λ (a : AndLine). a.literal) ands) (place + 2) l.literal l.left l.right)

  abbrev pub symbol_at : Symbols → ℕ → Option (ℕ × Name)
  symbol_at symbols place = option_and_then (symbol_in header symbols) (slice_get body place)

  pub symbol_comes : (symbols : Symbols) (place : ℕ) → Symbol header body symbols place (or_syntax (place + 2) (symbol_at symbols place))
  symbol_comes symbols place = spelled_found (place + 2) (λ symbol. (line : List ℕ) × (slice_get body place ≡ Some line) × SpellsSymbol header line symbol × (lookup (nat_eq symbol.0) symbols ≡ None)) (symbol_at symbols place) (finds_symbol header symbols (slice_get body place))

  pub symbol_determined : (symbols : Symbols) (place : ℕ) → Determined (Symbol header body symbols place)
  symbol_determined symbols place = spelled_determined (place + 2) (λ symbol. (line : List ℕ) × (slice_get body place ≡ Some line) × SpellsSymbol header line symbol × (lookup (nat_eq symbol.0) symbols ≡ None)) (symbol_at symbols place) (finds_symbol header symbols (slice_get body place))

  -- where the text ends no symbol stands
  pub no_symbol : (symbols : Symbols) (place : ℕ) (symbol : ℕ × Name) → Ends body place → Symbol header body symbols place (Ok symbol) → ⊥
  no_symbol symbols place symbol (inl none) (line, at, spells, new) = cc
  no_symbol symbols place symbol (inr comment) (line, at, (letter, number, digits, line_is, said, port, fits), new) =
      let same : codes "c" ≡ letter ∷ (digits ++ 32 ∷ symbol.1) = some_same (sym comment ∙ at) ∙ line_is in
      let long : length (codes "c") ≡ suc (length (digits ++ 32 ∷ symbol.1)) = ap length same in
      omega (arith, long, length-append digits (32 ∷ symbol.1))
    where
      some_same : {a b : List ℕ} → ◌≡◌ {A = Option (List ℕ)} (Some a) (Some b) → a ≡ b
      some_same e = cc

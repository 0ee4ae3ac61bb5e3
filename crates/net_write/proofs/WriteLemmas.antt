-- What each line of the text is made of.
use Rattle.std.proofs.Common.{◌≡◌, ◌∙◌, ap, sym, ℕ, ◌+◌, ◌≤◌, ◌==◌, Bool, true, List, [], ◌∷◌, ◌++◌, length, map, append-nil, append_assoc, add-one, codes, arith}
use Rattle.std.specs.Prelude.{flat_map, filter}
use Rattle.std.proofs.lemmas.List.{map-append}
use Rattle.std.proofs.lemmas.List.Elements.{filter-append}
use Rattle.std.specs.Int.{bit_at}
use Rattle.std.specs.List.{join_with_byte, range_with_len}
use Rattle.std.proofs.lemmas.Grind.{flat_map-append}
use Rattle.std.proofs.lemmas.List.Folds.{flat_map-map}
use Rattle.std.proofs.lemmas.List.FromFn.{map-range_with_len_more}
use Rattle.lists.specs.laws.ListLaws.{range_more}
use Rattle.net_core.specs.GateValue.{GateValue}
use Rattle.net_core.specs.NetList.{NetList, text_of}
use Rattle.net_blif.specs.Statement.{Token, row_tokens, spelled}
use Rattle.net_blif.specs.declared.statement.Statement.{Statement}
use Rattle.net_blif.specs.declared.statement.Statement.TheVariants.{Row}
use Rattle.net_write.specs.Written.{gate_statements, line_text, names_of, pattern, rows_of, text_with}
use Rattle.net_write.specs.private.Fields.{field, fields_of, rows_at}

-- the fields of a line, one after another
pub join_fields : (word : Token) (fields : List Token) → join_with_byte 32 (word ∷ fields) ≡ word ++ flat_map field fields
join_fields word [] = sym (append-nil word)
join_fields word (name ∷ names) = ap (λ (rest : List ℕ). word ++ 32 ∷ rest) (join_fields name names)

-- a line of a word and names
pub names_line : (net : NetList) (word : Token) (nets : List ℕ) → line_text (word ∷ names_of net nets) ≡ word ++ fields_of net nets ++ 10 ∷ []
names_line net word nets = ap (λ (line : List ℕ). line ++ 10 ∷ []) (join_fields word (names_of net nets) ∙ ap (λ (rest : List ℕ). word ++ rest) (flat_map-map field (text_of net) nets))

-- a line of a word, names, and one more name
pub cover_line : (net : NetList) (word : Token) (nets : List ℕ) (out : ℕ) → line_text (word ∷ (names_of net nets ++ text_of net out ∷ [])) ≡ word ++ fields_of net nets ++ field (text_of net out) ++ 10 ∷ []
cover_line net word nets out =
    let last : flat_map field (names_of net nets ++ text_of net out ∷ []) ≡ fields_of net nets ++ field (text_of net out) =
    flat_map-append field (names_of net nets) (text_of net out ∷ []) ∙ ap (λ (rest : List ℕ). rest ++ (field (text_of net out) ++ [])) (flat_map-map field (text_of net) nets) ∙ ap (λ (rest : List ℕ). fields_of net nets ++ rest) (append-nil (field (text_of net out))) in
    ap (λ (line : List ℕ). line ++ 10 ∷ []) (join_fields word (names_of net nets ++ text_of net out ∷ []) ∙ ap (λ (rest : List ℕ). word ++ rest) last ∙ sym (append_assoc word (fields_of net nets) (field (text_of net out))))

-- what was appended piece by piece
pub names_added : (net : NetList) (old word a b d : List ℕ) (nets : List ℕ) → a ≡ old ++ word → b ≡ a ++ fields_of net nets → d ≡ b ++ 10 ∷ [] → d ≡ old ++ line_text (word ∷ names_of net nets)
names_added net old word a b d nets first second third =
    third ∙ rw (second, first) (ap (λ (l : List ℕ). l ++ 10 ∷ []) (append_assoc old word (fields_of net nets)) ∙ append_assoc old (word ++ fields_of net nets) (10 ∷ []) ∙ ap (λ (l : List ℕ). old ++ l) (sym (names_line net word nets)))

pub cover_added : (net : NetList) (old word a b d e f : List ℕ) (nets : List ℕ) (out : ℕ) (rows : List Statement) → a ≡ old ++ word → b ≡ a ++ fields_of net nets → d ≡ b ++ field (text_of net out) → e ≡ d ++ 10 ∷ [] → f ≡ e ++ text_with rows
    → f ≡ old ++ (line_text (word ∷ (names_of net nets ++ text_of net out ∷ [])) ++ text_with rows)
cover_added net old word a b d e f nets out rows one two three four five =
    let front : e ≡ old ++ line_text (word ∷ (names_of net nets ++ text_of net out ∷ [])) =
    four ∙ rw (three, two, one) (ap (λ (l : List ℕ). l ++ field (text_of net out) ++ 10 ∷ []) (append_assoc old word (fields_of net nets))
    ∙ ap (λ (l : List ℕ). l ++ 10 ∷ []) (append_assoc old (word ++ fields_of net nets) (field (text_of net out)))
    ∙ append_assoc old (word ++ fields_of net nets ++ field (text_of net out)) (10 ∷ [])
    ∙ ap (λ (l : List ℕ). old ++ l) (sym (cover_line net word nets out))) in
    five ∙ ap (λ (l : List ℕ). l ++ text_with rows) front ∙ append_assoc old (line_text (word ∷ (names_of net nets ++ text_of net out ∷ []))) (text_with rows)

-- one more byte of a pattern
pub pattern_more : (n index : ℕ) → pattern (n + 1) index ≡ pattern n index ++ (48 + bit_at index n) ∷ []
pattern_more n index = map-range_with_len_more (λ i. 48 + bit_at index i) 0 n n (omega arith)

pub pattern_pushed : (old mid new : List ℕ) (n index byte : ℕ) → mid ≡ old ++ pattern n index → byte ≡ 48 + bit_at index n → new ≡ mid ++ byte ∷ [] → new ≡ old ++ pattern (n + 1) index
pattern_pushed old mid new n index byte so_far is pushed =
    pushed ∙ rw (so_far, is) (append_assoc old (pattern n index) ((48 + bit_at index n) ∷ []) ∙ ap (λ (l : List ℕ). old ++ l) (sym (pattern_more n index)))

pub row_behind : (old mid new cells : List ℕ) → 1 ≤ length cells → mid ≡ old ++ cells → new ≡ mid ++ codes " 1\n" → new ≡ old ++ line_text (row_tokens cells true)
row_behind old mid new [] some front back = absurd (omega (arith, some))
row_behind old mid new (b ∷ bs) some front back = back ∙ rw front (append_assoc old (b ∷ bs) (codes " 1\n") ∙ ap (λ (l : List ℕ). old ++ l) (sym (append_assoc (b ∷ bs) (32 ∷ 49 ∷ []) (10 ∷ []))))

rows_append : (n table : ℕ) (xs ys : List ℕ) → text_with (rows_at n table (xs ++ ys)) ≡ text_with (rows_at n table xs) ++ text_with (rows_at n table ys)
rows_append n table xs ys =
    let test : ℕ → Bool = λ index. bit_at table index == 1 in
    let row : ℕ → Statement = λ index. Row (pattern n index) true in
    ap (λ (l : List ℕ). text_with (map row l)) (filter-append test xs ys) ∙ ap text_with (map-append row (filter test xs) (filter test ys)) ∙ flat_map-append (λ s. line_text (spelled s)) (map row (filter test xs)) (map row (filter test ys))

-- the rows so far, and that of the next index
pub rows_more : (old mid new : List ℕ) (n table index : ℕ) → mid ≡ old ++ text_with (rows_at n table (range_with_len 0 index)) → new ≡ mid ++ text_with (rows_at n table (index ∷ [])) → new ≡ old ++ text_with (rows_at n table (range_with_len 0 (index + 1)))
rows_more old mid new n table index so_far more =
    let longer : range_with_len 0 (index + 1) ≡ range_with_len 0 index ++ index ∷ [] = let same : 0 + index ≡ index = omega arith in rw add-one (range_more 0 index ∙ ap (λ (k : ℕ). range_with_len 0 index ++ k ∷ []) same) in
    more ∙ rw (so_far, longer) (append_assoc old (text_with (rows_at n table (range_with_len 0 index))) (text_with (rows_at n table (index ∷ []))) ∙ ap (λ (l : List ℕ). old ++ l) (sym (rows_append n table (range_with_len 0 index) (index ∷ []))))

-- the cover and the rows of a gate
pub gate_added : (net : NetList) (gate : GateValue) (old a b d e f inputs : List ℕ) (out n table : ℕ) → inputs ≡ gate.inputs → out ≡ gate.out → n ≡ length gate.inputs → table ≡ gate.table
    → a ≡ old ++ codes ".names" → b ≡ a ++ fields_of net inputs → d ≡ b ++ field (text_of net out) → e ≡ d ++ 10 ∷ [] → f ≡ e ++ text_with (rows_of n table) → f ≡ old ++ text_with (gate_statements net gate)
gate_added net gate old a b d e f inputs out n table reads drives long bits one two three four five =
    cover_added net old (codes ".names") a b d e f gate.inputs gate.out (rows_of (length gate.inputs) gate.table) one
    (two ∙ ap (λ (ns : List ℕ). a ++ fields_of net ns) reads) (three ∙ ap (λ (m : ℕ). b ++ field (text_of net m)) drives) four
    (five ∙ ap (λ (m : ℕ). e ++ text_with (rows_of m table)) long ∙ ap (λ (t : ℕ). e ++ text_with (rows_of (length gate.inputs) t)) bits)

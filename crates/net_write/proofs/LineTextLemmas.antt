-- A written line, read back: where it ends, that nothing of it is a comment or trails, and its fields.
use Rattle.std.proofs.Common.{◌≡◌, ◌∙◌, ap, sym, refl, ℕ, zero, suc, ◌+◌, ◌-◌, ◌≤◌, ◌==◌, Bool, true, false, cond, not, List, [], ◌∷◌, ◌++◌, length, drop, get_or, arith, append_assoc}
use Rattle.std.specs.Prelude.{◌≢◌, All, filter, nat_lt}
use Rattle.std.specs.List.{AllByRecursion, join_with_byte, slice_split}
use Rattle.std.specs.Str.Lines.{lines, strip_carriage_return}
use Rattle.std.proofs.lemmas.Bool.Decides.{nat_tests}
use Rattle.std.proofs.lemmas.List.Sums.{take_while-cons}
use Rattle.std.proofs.lemmas.List.Splits.{slice_split_at, slice_split_none}
use Rattle.std.proofs.lemmas.Bool.{ne_eqb}
use Rattle.std.proofs.Math.Bool.{and-false}
use Rattle.lists.specs.laws.LineLaws.{front_byte, line_end, after_line_plus, line_within}
use Rattle.lists.specs.laws.ListLaws.{some_after}
use Rattle.lists.specs.laws.TakeLaws.{front_of}
use Rattle.text_core.specs.Lines.{before_comment, is_blank, tokens_of}
use Rattle.text_core.proofs.LineLemmas.{lines_at}
use Rattle.net_blif.specs.Lines.{Numbered, before_trimmed, clean, goes_on, is_trailing, joined, trim_end}
use Rattle.net_blif.specs.Statement.{IsToken, Token, spelled}
use Rattle.net_blif.specs.declared.statement.Statement.{Statement}
use Rattle.net_write.specs.Plain.{IsPlainByte}
use Rattle.net_write.specs.Written.{line_text, text_with}

-- a byte of a line: a space, or one of a field
abbrev pub IsLineByte : ℕ → Type 0
IsLineByte b = (32 ≤ b) × (b ≢ 35) × (b ≢ 92)

abbrev pub ArePlain : List ℕ → Type 0
ArePlain bytes = AllByRecursion IsPlainByte bytes

-- a field: 1 to 255 plain bytes
abbrev pub IsField : Token → Type 0
IsField token = (1 ≤ length token) × (length token ≤ 255) × ArePlain token

abbrev pub AreFields : List Token → Type 0
AreFields tokens = AllByRecursion IsField tokens

plain_line : (bytes : List ℕ) → ArePlain bytes → AllByRecursion IsLineByte bytes
plain_line [] plain = tt
plain_line (b ∷ bs) (first, rest) = ((omega (arith, first.0), first.2, first.3), plain_line bs rest)

line_append : (xs ys : List ℕ) → AllByRecursion IsLineByte xs → AllByRecursion IsLineByte ys → AllByRecursion IsLineByte (xs ++ ys)
line_append [] ys h k = k
line_append (x ∷ xs) ys h k = (h.0, line_append xs ys h.1 k)

space : IsLineByte 32
space = (omega arith, λ e. omega (arith, e), λ e. omega (arith, e))

-- the bytes of a line
pub line_bytes : (first : Token) (rest : List Token) → AreFields (first ∷ rest) → AllByRecursion IsLineByte (join_with_byte 32 (first ∷ rest))
line_bytes first [] fields = plain_line first fields.0.2
line_bytes first (second ∷ rest) fields = line_append first _ (plain_line first fields.0.2) (space, line_bytes second rest fields.1)

-- a byte of a line at its place; past the end there is 0
at : (bytes : List ℕ) (k : ℕ) → AllByRecursion IsLineByte bytes → (get_or bytes k 0 ≢ 92) × (get_or bytes k 0 ≢ 13) × (get_or bytes k 0 ≢ 10) × (get_or bytes k 0 ≢ 35)
at [] k all = ((λ e. omega (arith, e)), (λ e. omega (arith, e)), (λ e. omega (arith, e)), (λ e. omega (arith, e)))
at (b ∷ bs) zero all = (all.0.2, (λ e. omega (arith, e, all.0.0)), (λ e. omega (arith, e, all.0.0)), all.0.1)
at (b ∷ bs) (suc k) all = at bs k all.1

-- there is no comment
pub uncommented : (bytes : List ℕ) → AllByRecursion IsLineByte bytes → before_comment bytes ≡ bytes
uncommented [] all = refl
uncommented (b ∷ bs) all =
    take_while-cons (λ c. not (c == 35)) b bs
    ∙ ap (λ (v : Bool). cond (not v) (b ∷ before_comment bs) []) (ne_eqb b 35 all.0.1)
    ∙ ap (λ (l : List ℕ). b ∷ l) (uncommented bs all.1)

-- a byte that does not trail stays, and so does one before others
stays : (b : ℕ) (bs : List ℕ) → is_trailing b ≡ false → before_trimmed b bs ≡ b ∷ bs
stays b [] kept = rw kept refl
stays b (c ∷ cs) kept = refl

stays_before : (b : ℕ) (bs : List ℕ) → 1 ≤ length bs → before_trimmed b bs ≡ b ∷ bs
stays_before b [] some = absurd (omega (arith, some))
stays_before b (c ∷ cs) some = refl

not_trailing : (b : ℕ) → 33 ≤ b → is_trailing b ≡ false
not_trailing b least = rw (ne_eqb b 32 (λ e. omega (arith, e, least)), ne_eqb b 9 (λ e. omega (arith, e, least)), ne_eqb b 13 (λ e. omega (arith, e, least))) refl

plain_kept : (bytes : List ℕ) → ArePlain bytes → trim_end bytes ≡ bytes
plain_kept [] plain = refl
plain_kept (b ∷ bs) plain = ap (before_trimmed b) (plain_kept bs plain.1) ∙ stays b bs (not_trailing b plain.0.0)

front_kept : (xs ys : List ℕ) → 1 ≤ length ys → trim_end ys ≡ ys → trim_end (xs ++ ys) ≡ xs ++ ys
front_kept [] ys some kept = kept
front_kept (x ∷ xs) ys some kept = ap (before_trimmed x) (front_kept xs ys some kept) ∙ stays_before x (xs ++ ys) (some_after xs ys some)

join_long : (first : Token) (rest : List Token) → 1 ≤ length first → 1 ≤ length (join_with_byte 32 (first ∷ rest))
join_long first [] some = some
join_long first (second ∷ rest) some = some_after first _ (omega arith)

-- nothing trails
kept : (first : Token) (rest : List Token) → AreFields (first ∷ rest) → trim_end (join_with_byte 32 (first ∷ rest)) ≡ join_with_byte 32 (first ∷ rest)
kept first [] fields = plain_kept first fields.0.2
kept first (second ∷ rest) fields =
    front_kept first (32 ∷ join_with_byte 32 (second ∷ rest)) (omega arith)
    (ap (before_trimmed 32) (kept second rest fields.1) ∙ stays_before 32 (join_with_byte 32 (second ∷ rest)) (join_long second rest fields.1.0.0))

-- no line goes on
ends : (bytes : List ℕ) → AllByRecursion IsLineByte bytes → goes_on bytes ≡ false
ends bytes all = rw (ne_eqb (get_or bytes (length bytes - 1) 0) 92 (at bytes (length bytes - 1) all).0) (and-false (nat_lt 0 (length bytes)))

no_return : (bytes : List ℕ) → AllByRecursion IsLineByte bytes → strip_carriage_return bytes ≡ bytes
no_return bytes all = rw (ne_eqb (get_or bytes (length bytes - 1) 0) 13 (at bytes (length bytes - 1) all).1) refl

-- the first line of a text
pub first_line : (bytes rest : List ℕ) → AllByRecursion IsLineByte bytes → lines (bytes ++ 10 ∷ rest) ≡ bytes ∷ lines rest
first_line bytes rest all =
    lines_at (bytes ++ 10 ∷ rest) (length bytes) (λ k less found. (at bytes k all).2 (sym (front_byte bytes (10 ∷ rest) k less) ∙ found)) (line_within bytes rest) (line_end bytes rest)
    ∙ ap (λ (l : List ℕ). strip_carriage_return l ∷ lines (drop (length bytes + 1) (bytes ++ 10 ∷ rest))) (front_of bytes (10 ∷ rest))
    ∙ ap (λ (l : List ℕ). l ∷ lines (drop (length bytes + 1) (bytes ++ 10 ∷ rest))) (no_return bytes all)
    ∙ ap (λ (l : List ℕ). bytes ∷ lines l) (after_line_plus bytes rest)

-- no byte of a field is a blank
no_blank : (token : Token) → ArePlain token → All (λ b. is_blank b ≡ false) token
no_blank [] plain k d less = absurd (omega (arith, less))
no_blank (b ∷ bs) plain zero d less = rw (ne_eqb b 32 (λ e. omega (arith, e, plain.0.0)), ne_eqb b 9 (λ e. omega (arith, e, plain.0.0))) refl
no_blank (b ∷ bs) plain (suc k) d less = no_blank bs plain.1 k d (omega (arith, less))

split : (first : Token) (rest : List Token) → AreFields (first ∷ rest) → slice_split is_blank (join_with_byte 32 (first ∷ rest)) ≡ first ∷ rest
split first [] fields = slice_split_none is_blank first (no_blank first fields.0.2)
split first (second ∷ rest) fields =
    slice_split_at is_blank first 32 (join_with_byte 32 (second ∷ rest)) (no_blank first fields.0.2) refl ∙ ap (λ (l : List Token). first ∷ l) (split second rest fields.1)

some_bytes : (token : Token) → 1 ≤ length token → nat_lt 0 (length token) ≡ true
some_bytes [] some = absurd (omega (arith, some))
some_bytes (b ∷ bs) some = grind (arith, nat_tests)

all_some : (tokens : List Token) → AreFields tokens → filter (λ token. nat_lt 0 (length token)) tokens ≡ tokens
all_some [] fields = refl
all_some (token ∷ tokens) fields = rw (some_bytes token fields.0.0) (ap (λ (l : List Token). token ∷ l) (all_some tokens fields.1))

-- the tokens of a line are its fields
pub fields_read : (first : Token) (rest : List Token) → AreFields (first ∷ rest) → tokens_of (join_with_byte 32 (first ∷ rest)) ≡ first ∷ rest
fields_read first rest fields = ap (filter (λ (token : Token). nat_lt 0 (length token))) (split first rest fields) ∙ all_some (first ∷ rest) fields

printing : (token : Token) → ArePlain token → All (λ b. (33 ≤ b) × (b ≤ 126)) token
printing [] plain k d less = absurd (omega (arith, less))
printing (b ∷ bs) plain zero d less = (plain.0.0, plain.0.1)
printing (b ∷ bs) plain (suc k) d less = printing bs plain.1 k d (omega (arith, less))

-- fields are tokens
pub fields_tokens : (tokens : List Token) → AreFields tokens → All IsToken tokens
fields_tokens [] fields k d less = absurd (omega (arith, less))
fields_tokens (token ∷ tokens) fields zero d less = (fields.0.0, fields.0.1, printing token fields.0.2)
fields_tokens (token ∷ tokens) fields (suc k) d less = fields_tokens tokens fields.1 k d (omega (arith, less))

-- at least one field
abbrev pub IsLine : List Token → Type 0
IsLine fields = (1 ≤ length fields) × AreFields fields

-- lines with their numbers from n
abbrev pub numbered : ℕ → List Statement → List Numbered
numbered n [] = []
numbered n (s ∷ ss) = (n, join_with_byte 32 (spelled s)) ∷ numbered (n + 1) ss

-- a line is as it stands, and the next is another
line_joined : (n : ℕ) (fields : List Token) (rest : List ℕ) → IsLine fields → joined n (lines (line_text fields ++ rest)) ≡ (n, join_with_byte 32 fields) ∷ joined (n + 1) (lines rest)
line_joined n [] rest line = absurd (omega (arith, line.0))
line_joined n (first ∷ more) rest line =
    let bytes : List ℕ = join_with_byte 32 (first ∷ more) in
    let all : AllByRecursion IsLineByte bytes = line_bytes first more line.1 in
    let same : clean bytes ≡ bytes = ap trim_end (uncommented bytes all) ∙ kept first more line.1 in
    ap (λ (text : List ℕ). joined n (lines text)) (append_assoc bytes (10 ∷ []) rest) ∙ ap (joined n) (first_line bytes rest all) ∙ rw (same, ends bytes all) refl

-- the lines of a text of statements
pub text_lines : (n : ℕ) (statements : List Statement) → AllByRecursion (λ s. IsLine (spelled s)) statements → joined n (lines (text_with statements)) ≡ numbered n statements
text_lines n [] all = refl
text_lines n (s ∷ ss) all = line_joined n (spelled s) (text_with ss) all.0 ∙ ap (λ (l : List Numbered). (n, join_with_byte 32 (spelled s)) ∷ l) (text_lines (n + 1) ss all.1)

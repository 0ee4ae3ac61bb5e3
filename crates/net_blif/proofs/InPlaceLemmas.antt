-- Lines that stand alone, one run of bytes after another.
use Rattle.std.proofs.Common.{◌≡◌, ◌⊎◌, ◌∙◌, inl, inr, ap, sym, refl, subst, ℕ, zero, suc, ◌<◌, ◌≤◌, ◌+◌, ◌-◌, Bool, true, false, cond, List, [], ◌∷◌, ◌++◌, length, take, drop, get_or, append-nil, take-append-drop, get_or-take, length-take-le, not, arith, ne_eqb, eqb-true, ltb, lt-ltb}
use Rattle.std.specs.Prelude.{◌==◌, ◌||◌, nat_lt, All, filter}
use Rattle.std.specs.List.{slice_split, onto_first, prefix_len}
use Rattle.std.specs.Str.Lines.{lines, lines_of_parts, strip_carriage_return}
use Rattle.std.proofs.lemmas.List.{drop_more, take_rest}
use Rattle.std.proofs.lemmas.List.Elements.{All-head, All-tail, All-push, All-weaker, All-from_get_or}
use Rattle.std.proofs.lemmas.List.Splits.{slice_split_at, slice_split_none}
use Rattle.lists.specs.laws.TestLaws.{suc_not_zero}
use Rattle.text_core.specs.Lines.{before_comment, is_blank, tokens_of}
use Rattle.text_core.proofs.LineLemmas.{lines_at}
use Rattle.net_blif.specs.Lines.{before_trimmed, clean, goes_on, is_trailing, trim_end}
use Rattle.net_blif.specs.Statement.{IsToken, Token}
use Rattle.net_blif.specs.private.FirstLine.{as_word, IsWordByte, StandsAlone}

-- ---- bytes

-- what is known of a byte that belongs to a line
pub record IsInner (b : ℕ) : Type 0 where
  pub no_feed : (b == 10) ≡ false
  pub no_return : (b == 13) ≡ false
  pub no_hash : (b == 35) ≡ false

inner : (b : ℕ) → IsWordByte b → IsInner b
inner b is = record { no_feed = ne_eqb b 10 (λ e. omega (arith, is.0, e)); no_return = ne_eqb b 13 (λ e. omega (arith, is.0, e)); no_hash = ne_eqb b 35 (λ e. omega (arith, is.0, e)) }

unblank : (b : ℕ) → IsWordByte b → is_blank b ≡ false
unblank b is =
    let space : (b == 32) ≡ false = ne_eqb b 32 (λ e. omega (arith, is.0, e)) in
    let tab : (b == 9) ≡ false = ne_eqb b 9 (λ e. omega (arith, is.0, e)) in
    rw (space, tab) refl

stays : (b : ℕ) → IsWordByte b → is_trailing b ≡ false
stays b is =
    let space : (b == 32) ≡ false = ne_eqb b 32 (λ e. omega (arith, is.0, e)) in
    let tab : (b == 9) ≡ false = ne_eqb b 9 (λ e. omega (arith, is.0, e)) in
    let turn : (b == 13) ≡ false = ne_eqb b 13 (λ e. omega (arith, is.0, e)) in
    rw (space, tab, turn) refl

blank_cases : (b : ℕ) → is_blank b ≡ true → (b ≡ 32) ⊎ (b ≡ 9)
blank_cases b is = by (b == 32) (b == 9) refl refl is
  where
    by : (x y : Bool) → (b == 32) ≡ x → (b == 9) ≡ y → (x || y) ≡ true → (b ≡ 32) ⊎ (b ≡ 9)
    by true y e f or = inl (eqb-true b 32 e)
    by false true e f or = inr (eqb-true b 9 f)
    by false false e f or = absurd (cc)

blank_inner : (b : ℕ) → is_blank b ≡ true → IsInner b
blank_inner b is =
    let P : ℕ → Type 0 = IsInner in
    elim (blank_cases b is) [
      | inl e ↦ subst P (sym e) (record { no_feed = refl; no_return = refl; no_hash = refl })
      | inr e ↦ subst P (sym e) (record { no_feed = refl; no_return = refl; no_hash = refl })
    ]

blank_trails : (b : ℕ) → is_blank b ≡ true → is_trailing b ≡ true
blank_trails b is =
    let P : ℕ → Type 0 = λ c. is_trailing c ≡ true in
    elim (blank_cases b is) [ inl e ↦ subst P (sym e) refl | inr e ↦ subst P (sym e) refl ]

-- ---- the first physical line

strip_more : (b : ℕ) (line : List ℕ) → (b == 13) ≡ false → strip_carriage_return (b ∷ line) ≡ b ∷ strip_carriage_return line
strip_more b [] other = rw other refl
strip_more b (c ∷ cs) other =
    let size : suc (suc (length cs)) - 1 ≡ suc (suc (length cs) - 1) = omega arith in
    rw size (by (get_or (c ∷ cs) (suc (length cs) - 1) 0 == 13) (take (suc (length cs) - 1) (c ∷ cs)) (c ∷ cs))
  where
    by : (t : Bool) (u v : List ℕ) → cond t (b ∷ u) (b ∷ v) ≡ b ∷ cond t u v
    by true u v = refl
    by false u v = refl

parts_more : (b : ℕ) (parts : List (List ℕ)) (line : List ℕ) (after : List (List ℕ)) → (b == 13) ≡ false → lines_of_parts parts ≡ line ∷ after → lines_of_parts (onto_first b parts) ≡ (b ∷ line) ∷ after
parts_more b [] line after other is = absurd (cc)
parts_more b (x ∷ []) line after other is = rw (suc_not_zero (length x)) (by (length x == 0) is)
  where
    by : (t : Bool) → cond t [] (x ∷ []) ≡ line ∷ after → (b ∷ x) ∷ [] ≡ (b ∷ line) ∷ after
    by true e = absurd (cc)
    by false e = ap (onto_first b) e
parts_more b (x ∷ y ∷ more) line after other is =
    ap (λ (l : List ℕ). l ∷ lines_of_parts (y ∷ more)) (strip_more b x other) ∙ ap (onto_first b) is

-- a byte before the first line
lines_more : (b : ℕ) (rest line : List ℕ) (after : List (List ℕ)) → IsInner b → lines rest ≡ line ∷ after → lines (b ∷ rest) ≡ (b ∷ line) ∷ after
lines_more b rest line after is first =
    let other : (b == 10) ≡ false = is.no_feed in
    rw other (parts_more b (slice_split (λ c. c == 10) rest) line after is.no_return first)

lines_word : (word rest line : List ℕ) (after : List (List ℕ)) → All IsWordByte word → lines rest ≡ line ∷ after → lines (word ++ rest) ≡ (word ++ line) ∷ after
lines_word [] rest line after all first = first
lines_word (b ∷ bs) rest line after all first =
    lines_more b (bs ++ rest) (bs ++ line) after (inner b (All-head IsWordByte b bs all)) (lines_word bs rest line after (All-tail IsWordByte b bs all) first)

-- LF ends an empty line
pub feed_ends : (b : ℕ) (rest : List ℕ) → b ≡ 10 → lines (b ∷ rest) ≡ [] ∷ lines rest
feed_ends b rest is = lines_at (b ∷ rest) 0 (λ k less e. absurd (omega (arith, less))) (omega arith) is

-- so do CR and LF
pub return_ends : (b c : ℕ) (rest : List ℕ) → b ≡ 13 → c ≡ 10 → lines (b ∷ c ∷ rest) ≡ [] ∷ lines rest
return_ends b c rest return feed =
    lines_at (b ∷ c ∷ rest) 1 before (omega arith) feed ∙ rw return refl
  where
    before : (k : ℕ) → k < 1 → get_or (b ∷ c ∷ rest) k 0 ≡ 10 → ⊥
    before zero less e = omega (arith, return, e)
    before (suc k) less e = absurd (omega (arith, less))

-- ---- the clean line

comment_more : (b : ℕ) (line : List ℕ) → (b == 35) ≡ false → before_comment (b ∷ line) ≡ b ∷ before_comment line
comment_more b line other =
    let size : 1 + prefix_len (λ c. not (c == 35)) line ≡ suc (prefix_len (λ c. not (c == 35)) line) = omega arith in
    rw (other, size) refl

comment_word : (word line : List ℕ) → All IsWordByte word → before_comment (word ++ line) ≡ word ++ before_comment line
comment_word [] line all = refl
comment_word (b ∷ bs) line all =
    comment_more b (bs ++ line) (inner b (All-head IsWordByte b bs all)).no_hash ∙ ap (λ l. b ∷ l) (comment_word bs line (All-tail IsWordByte b bs all))

trim_word : (word line : List ℕ) → All IsWordByte word → trim_end (word ++ line) ≡ word ++ trim_end line
trim_word [] line all = refl
trim_word (b ∷ bs) line all =
    ap (before_trimmed b) (trim_word bs line (All-tail IsWordByte b bs all)) ∙ keeps (bs ++ trim_end line)
  where
    kept : is_trailing b ≡ false
    kept = stays b (All-head IsWordByte b bs all)

    keeps : (line : List ℕ) → before_trimmed b line ≡ b ∷ line
    keeps [] = rw kept refl
    keeps (c ∷ cs) = refl

clean_word : (word line : List ℕ) → All IsWordByte word → clean (word ++ line) ≡ word ++ clean line
clean_word word line all = ap trim_end (comment_word word line all) ∙ trim_word word (before_comment line) all

clean_alone : (word : List ℕ) → All IsWordByte word → clean (word ++ []) ≡ word
clean_alone word all = clean_word word [] all ∙ append-nil word

clean_more : (word : List ℕ) (b : ℕ) (line : List ℕ) → All IsWordByte word → IsInner b → clean (word ++ b ∷ line) ≡ word ++ before_trimmed b (clean line)
clean_more word b line all is = clean_word word (b ∷ line) all ∙ ap (λ l. word ++ trim_end l) (comment_more b line is.no_hash)

pub goes_more : (b c : ℕ) (line : List ℕ) → goes_on (b ∷ c ∷ line) ≡ goes_on (c ∷ line)
goes_more b c line =
    let size : suc (suc (length line)) - 1 ≡ suc (suc (length line) - 1) = omega arith in
    let longer : ltb 0 (suc (suc (length line))) ≡ true = lt-ltb 0 (suc (suc (length line))) (omega arith) in
    let some : ltb 0 (suc (length line)) ≡ true = lt-ltb 0 (suc (length line)) (omega arith) in
    rw (size, longer, some) refl

goes_after : (word : List ℕ) (b : ℕ) (line : List ℕ) → goes_on (word ++ b ∷ line) ≡ goes_on (b ∷ line)
goes_after [] b line = refl
goes_after (c ∷ []) b line = goes_more c b line
goes_after (c ∷ d ∷ ds) b line = goes_more c d (ds ++ b ∷ line) ∙ goes_after (d ∷ ds) b line

ends_more : (word : List ℕ) (b : ℕ) (line : List ℕ) → is_trailing b ≡ true → goes_on word ≡ false → goes_on line ≡ false → goes_on (word ++ before_trimmed b line) ≡ false
ends_more word b [] trails ends more = rw (trails, append-nil word) ends
ends_more word b (c ∷ cs) trails ends more = goes_after word b (c ∷ cs) ∙ (goes_more b c cs ∙ more)

-- ---- the tokens

kept_word : (word : Token) (more : List Token) → filter (λ token. nat_lt 0 (length token)) (word ∷ more) ≡ as_word word ++ filter (λ token. nat_lt 0 (length token)) more
kept_word [] more = refl
kept_word (b ∷ bs) more = let some : ltb 0 (suc (length bs)) ≡ true = lt-ltb 0 (suc (length bs)) (omega arith) in rw some refl

unblanks : (word : List ℕ) → All IsWordByte word → All (λ b. is_blank b ≡ false) word
unblanks word all = All-weaker IsWordByte (λ b. is_blank b ≡ false) unblank word all

tokens_word : (word : List ℕ) → All IsWordByte word → tokens_of word ≡ as_word word
tokens_word word all =
    ap (filter (λ token. nat_lt 0 (length token))) (slice_split_none is_blank word (unblanks word all)) ∙ (kept_word word [] ∙ append-nil (as_word word))

tokens_more : (word : List ℕ) (b : ℕ) (line : List ℕ) → All IsWordByte word → is_blank b ≡ true → tokens_of (word ++ b ∷ line) ≡ as_word word ++ tokens_of line
tokens_more word b line all is =
    ap (filter (λ token. nat_lt 0 (length token))) (slice_split_at is_blank word b line (unblanks word all) is) ∙ kept_word word (slice_split is_blank line)

tokens_trimmed : (word : List ℕ) (b : ℕ) (line : List ℕ) → All IsWordByte word → is_blank b ≡ true → tokens_of (word ++ before_trimmed b line) ≡ as_word word ++ tokens_of line
tokens_trimmed word b [] all is =
    let trails : is_trailing b ≡ true = blank_trails b is in
    rw (trails, append-nil word, append-nil (as_word word)) (tokens_word word all)
tokens_trimmed word b (c ∷ cs) all is = tokens_more word b (c ∷ cs) all is

-- ---- a line

-- a run of bytes and a blank before a line that stands alone
pub word_before : (text word : List ℕ) (b : ℕ) (rest : List ℕ) (more : List Token) (after : List ℕ) → text ≡ word ++ b ∷ rest → All IsWordByte word → goes_on word ≡ false → is_blank b ≡ true → StandsAlone rest more after → StandsAlone text (as_word word ++ more) after
word_before text word b rest more after is all ends blank alone =
    let cleaned : clean (word ++ b ∷ alone.line) ≡ word ++ before_trimmed b (clean alone.line) = clean_more word b alone.line all (blank_inner b blank) in
    record {
      line = word ++ b ∷ alone.line;
      first = ap lines is ∙ lines_word word (b ∷ rest) (b ∷ alone.line) (lines after) all (lines_more b rest alone.line (lines after) (blank_inner b blank) alone.first);
      ends = ap goes_on cleaned ∙ ends_more word b (clean alone.line) (blank_trails b blank) ends alone.ends;
      are = ap (λ ts. as_word word ++ ts) alone.are ∙ (sym (tokens_trimmed word b (clean alone.line) all blank) ∙ ap tokens_of (sym cleaned));
    }

-- the last run of bytes of a line
pub word_last : (text word : List ℕ) (b : ℕ) (rest after : List ℕ) → text ≡ word ++ b ∷ rest → All IsWordByte word → goes_on word ≡ false → lines (b ∷ rest) ≡ [] ∷ lines after → StandsAlone text (as_word word) after
word_last text word b rest after is all ends end =
    record {
      line = word ++ [];
      first = ap lines is ∙ lines_word word (b ∷ rest) [] (lines after) all end;
      ends = ap goes_on (clean_alone word all) ∙ ends;
      are = sym (tokens_word word all) ∙ ap tokens_of (sym (clean_alone word all));
    }

pub with_word : (words : List Token) (word : Token) → All IsToken words → All IsWordByte word → length word ≤ 255 → All IsToken (words ++ as_word word)
with_word words [] all bytes short = let P : List Token → Type 0 = All IsToken in subst P (sym (append-nil words)) all
with_word words (b ∷ bs) all bytes short = All-push IsToken words (b ∷ bs) all (omega arith, short, All-weaker IsWordByte (λ c. (33 ≤ c) × (c ≤ 126)) (λ c is. (omega (arith, is.0), is.1)) (b ∷ bs) bytes)

-- ---- the front of a text

pub cut_at : (text : List ℕ) (i b : ℕ) → i < length text → b ≡ get_or text i b → text ≡ take i text ++ b ∷ take (length text - (i + 1)) (drop (i + 1) text)
cut_at text i b below is =
    sym (take-append-drop i text) ∙ ap (λ l. take i text ++ l) (drop_more text i b below ∙ (ap (λ c. c ∷ drop (i + 1) text) (sym is) ∙ ap (λ l. b ∷ l) (sym (take_rest text (i + 1)))))

pub word_to : (text : List ℕ) (i : ℕ) → i < length text → ((k : ℕ) → k < i → IsWordByte (get_or text k 0)) → All IsWordByte (take i text)
word_to text i below each =
    let P : ℕ → Type 0 = IsWordByte in
    let size : length (take i text) ≤ i = omega (arith, length-take-le i text (omega arith)) in
    All-from_get_or IsWordByte (take i text) 0 (λ k less. subst P (sym (get_or-take i text k 0 (omega (arith, less, size)))) (each k (omega (arith, less, size))))

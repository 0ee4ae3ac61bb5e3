-- The first line of a text, one physical line after another, and what is read of it.
use Rattle.std.proofs.Common.{◌≡◌, ◌⊎◌, ◌∙◌, inl, inr, ap, sym, refl, subst, append_assoc, ℕ, ◌<◌, ◌+◌, Bool, true, false, cond, List, [], ◌∷◌, ◌++◌, length, Result, Ok, Err, arith}
use Rattle.std.specs.Prelude.{codes, filter, nat_lt}
use Rattle.std.specs.List.{slice_split, onto_first}
use Rattle.std.specs.Str.{bytes_eq}
use Rattle.std.specs.Str.Lines.{lines}
use Rattle.std.proofs.lemmas.List.Splits.{length-slice_split}
use Rattle.text_core.specs.Lines.{is_blank, tokens_of}
use Rattle.net_blif.specs.Lines.{Numbered, clean, goes_on, join_first, joined, without_last}
use Rattle.net_blif.specs.Models.{Reading, Reads, ReadsLine, begins, first_word}
use Rattle.net_blif.specs.Statement.{Token, is_dotted}
use Rattle.net_blif.specs.private.FirstLine.{BeginsSo, BeginsWith, StandsAlone}
use Rattle.net_blif.specs.declared.fault.BlifFault.{BlifFault}
use Rattle.net_blif.proofs.LineLemmas.{join_more}

-- ---- the tokens of two lines that a space joins

onto_append : (b : ℕ) (parts more : List (List ℕ)) → 0 < length parts → onto_first b (parts ++ more) ≡ onto_first b parts ++ more
onto_append b [] more some = absurd (omega arith)
onto_append b (part ∷ parts) more some = refl

split_append : (xs : List ℕ) (b : ℕ) (ys : List ℕ) → is_blank b ≡ true → slice_split is_blank (xs ++ b ∷ ys) ≡ slice_split is_blank xs ++ slice_split is_blank ys
split_append [] b ys blank = rw blank refl
split_append (x ∷ xs) b ys blank = by (is_blank x) (split_append xs b ys blank)
  where
    some : 0 < length (slice_split is_blank xs)
    some = omega (arith, length-slice_split is_blank xs)

    by : (t : Bool) → slice_split is_blank (xs ++ b ∷ ys) ≡ slice_split is_blank xs ++ slice_split is_blank ys → cond t ([] ∷ slice_split is_blank (xs ++ b ∷ ys)) (onto_first x (slice_split is_blank (xs ++ b ∷ ys))) ≡ cond t ([] ∷ slice_split is_blank xs) (onto_first x (slice_split is_blank xs)) ++ slice_split is_blank ys
    by true before = ap (λ (parts : List (List ℕ)). [] ∷ parts) before
    by false before = ap (onto_first x) before ∙ onto_append x (slice_split is_blank xs) (slice_split is_blank ys) some

filter_append : (parts more : List Token) → filter (λ token. nat_lt 0 (length token)) (parts ++ more) ≡ filter (λ token. nat_lt 0 (length token)) parts ++ filter (λ token. nat_lt 0 (length token)) more
filter_append [] more = refl
filter_append (part ∷ parts) more = by (nat_lt 0 (length part)) (filter_append parts more)
  where
    by : (t : Bool) → filter (λ token. nat_lt 0 (length token)) (parts ++ more) ≡ filter (λ token. nat_lt 0 (length token)) parts ++ filter (λ token. nat_lt 0 (length token)) more → cond t (part ∷ filter (λ token. nat_lt 0 (length token)) (parts ++ more)) (filter (λ token. nat_lt 0 (length token)) (parts ++ more)) ≡ cond t (part ∷ filter (λ token. nat_lt 0 (length token)) parts) (filter (λ token. nat_lt 0 (length token)) parts) ++ filter (λ token. nat_lt 0 (length token)) more
    by true same = ap (λ (ts : List Token). part ∷ ts) same
    by false same = same

tokens_joined : (line front : List ℕ) → tokens_of ((line ++ 32 ∷ []) ++ front) ≡ tokens_of line ++ tokens_of front
tokens_joined line front =
    ap tokens_of (append_assoc line (32 ∷ []) front) ∙ (ap (filter (λ token. nat_lt 0 (length token))) (split_append line 32 front refl) ∙ filter_append (slice_split is_blank line) (slice_split is_blank front))

-- ---- one physical line after another

first_part : (n : ℕ) (more : Bool) (line : List ℕ) (rest : List Numbered) → cond more (join_first n (without_last line) rest) ((n, line) ∷ rest) ≡ cond more (join_first n (cond more (without_last line) line) rest) ((n, cond more (without_last line) line) ∷ rest)
first_part n true line rest = refl
first_part n false line rest = refl

pub begins_first : (text physical front after : List ℕ) (more : Bool) (words : List Token) → lines text ≡ physical ∷ lines after → more ≡ goes_on (clean physical) → front ≡ cond more (without_last (clean physical)) (clean physical) → words ≡ tokens_of front → BeginsSo text words 1 more after
begins_first text physical front after more words split goes part are =
    record {
      line = front;
      first = λ n.
          let rest = joined (n + 1) (lines after) in
          ap (joined n) split ∙ (ap (λ b. cond b (join_first n (without_last (clean physical)) rest) ((n, clean physical) ∷ rest)) (sym goes) ∙ (first_part n more (clean physical) rest ∙ ap (λ (l : List ℕ). cond more (join_first n l rest) ((n, l) ∷ rest)) (sym part)));
      are = are;
    }

pub begins_more : (text rest physical front after : List ℕ) (count : ℕ) (was more : Bool) (words new : List Token) → was ≡ true → BeginsSo text words count was rest → lines rest ≡ physical ∷ lines after → more ≡ goes_on (clean physical) → front ≡ cond more (without_last (clean physical)) (clean physical) → new ≡ words ++ tokens_of front → BeginsSo text new (count + 1) more after
begins_more text rest physical front after count was more words new is so split goes part are =
    record {
      line = (so.line ++ 32 ∷ []) ++ front;
      first = λ n. join_more (joined n (lines text)) n count so.line front ((so.line ++ 32 ∷ []) ++ front) (lines rest) (lines after) physical more (so.first n ∙ ap (λ b. cond b (join_first n so.line (joined (n + count) (lines rest))) ((n, so.line) ∷ joined (n + count) (lines rest))) is) split goes part refl;
      are = are ∙ (ap (λ (ts : List Token). ts ++ tokens_of front) so.are ∙ sym (tokens_joined so.line front));
    }

pub begins_ended : (text after : List ℕ) (count : ℕ) (more : Bool) (words : List Token) → more ≡ false → BeginsSo text words count more after → BeginsWith text words count after
begins_ended text after count more words is so =
    record { line = so.line; first = λ n. so.first n ∙ ap (λ b. cond b (join_first n so.line (joined (n + count) (lines after))) ((n, so.line) ∷ joined (n + count) (lines after))) is; are = so.are }

pub begins_last : (text after : List ℕ) (count : ℕ) (more : Bool) (words : List Token) → length after ≡ 0 → BeginsSo text words count more after → BeginsWith text words count after
begins_last text [] count true words is so = record { line = so.line; first = so.first; are = so.are }
begins_last text [] count false words is so = record { line = so.line; first = so.first; are = so.are }
begins_last text (b ∷ after) count more words is so = absurd (omega (arith, is))

pub alone_begins : (text : List ℕ) (words : List Token) (after : List ℕ) → StandsAlone text words after → BeginsWith text words 1 after
alone_begins text words after alone =
    let ends : goes_on (clean alone.line) ≡ false = alone.ends in
    record { line = clean alone.line; first = λ n. ap (joined n) alone.first ∙ rw ends refl; are = alone.are }

-- ---- what is read of it

pub begins_word : (text : List ℕ) (words : List Token) (count : ℕ) (after : List ℕ) (n : ℕ) → BeginsWith text words count after → begins (joined n (lines text)) ≡ cond (is_dotted (first_word words)) (bytes_eq (first_word words) (codes ".model")) (begins (joined (n + count) (lines after)))
begins_word text words count after n line =
    ap begins (line.first n) ∙ ap (λ (ts : List Token). cond (is_dotted (first_word ts)) (bytes_eq (first_word ts) (codes ".model")) (begins (joined (n + count) (lines after)))) (sym line.are)

reads_more : (reading more : Reading) (line : Numbered) (rest : List Numbered) → ReadsLine reading line.0 (tokens_of line.1) (Ok more) → (outcome : Result Reading BlifFault) → Reads more rest outcome → Reads reading (line ∷ rest) outcome
reads_more reading more line rest step (Ok end) reads = (more, step, reads)
reads_more reading more line rest step (Err fault) reads = inr (more, step, reads)

-- what its tokens say, and then what the lines after it say
pub begins_read : (reading more : Reading) (text : List ℕ) (words : List Token) (count : ℕ) (after : List ℕ) (n : ℕ) → BeginsWith text words count after → ReadsLine reading n words (Ok more) → (outcome : Result Reading BlifFault) → Reads more (joined (n + count) (lines after)) outcome → Reads reading (joined n (lines text)) outcome
begins_read reading more text words count after n line step outcome reads =
    let P : List Numbered → Type 0 = λ all. Reads reading all outcome in
    let S : List Token → Type 0 = λ ts. ReadsLine reading n ts (Ok more) in
    subst P (sym (line.first n)) (reads_more reading more (n, line.line) (joined (n + count) (lines after)) (subst S line.are step) outcome reads)

-- the fault of its tokens
pub begins_refused : (reading : Reading) (text : List ℕ) (words : List Token) (count : ℕ) (after : List ℕ) (n : ℕ) (fault : BlifFault) → BeginsWith text words count after → ReadsLine reading n words (Err fault) → Reads reading (joined n (lines text)) (Err fault)
begins_refused reading text words count after n fault line step =
    let P : List Numbered → Type 0 = λ all. Reads reading all (Err fault) in
    let S : List Token → Type 0 = λ ts. ReadsLine reading n ts (Err fault) in
    subst P (sym (line.first n)) (inl (subst S line.are step))

pub begins_refused_or : (reading : Reading) (text : List ℕ) (words : List Token) (count : ℕ) (after : List ℕ) (n : ℕ) (fault wanting : BlifFault) → BeginsWith text words count after → (fault ≡ wanting) ⊎ ReadsLine reading n words (Err fault) → (fault ≡ wanting) ⊎ Reads reading (joined n (lines text)) (Err fault)
begins_refused_or reading text words count after n fault wanting line (inl w) = inl w
begins_refused_or reading text words count after n fault wanting line (inr step) = inr (begins_refused reading text words count after n fault line step)

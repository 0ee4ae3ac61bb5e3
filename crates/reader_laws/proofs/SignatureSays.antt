-- What feeds, blocks and lines of any kind say is decided: a value that a line says, or that it says none.
use Rattle.std.proofs.Common.{◌≡◌, ◌⊎◌, ◌∙◌, ap, sym, refl, subst, inl, inr, ℕ, zero, suc, ◌<◌, ◌≤◌, List, [], ◌∷◌, ◌++◌, codes, drop, get_or, length, arith}
use Rattle.std.specs.Prelude.{slice_index}
use Rattle.std.proofs.lemmas.Bool.{cases_eq}
use Rattle.std.proofs.lemmas.List.{append_assoc}
use Rattle.text_core.specs.Numbers.{IsDecimal}
use Rattle.net_words.specs.declared.word.WordText.{WordText}
use Rattle.net_signature.specs.Lines.{Token, Line}
use Rattle.net_signature.specs.Statement.{IsNetToken, SaysWord, SaysBit, SaysSource, SaysFeed, SaysBlock, SaysEntry}
use Rattle.net_signature.specs.declared.entry.Entry.{Entry}
use Rattle.net_signature.specs.declared.entry.Entry.TheVariants as entry
use Rattle.net_signature.specs.declared.entry.FeedLine.{FeedLine}
use Rattle.net_signature.specs.declared.entry.SourceText.{SourceText}
use Rattle.net_signature.specs.declared.entry.SourceText.TheVariants.{Zero, One, Bit}
use Rattle.net_signature.proofs.BitLemmas.{HasNoBracket, ends, front_is, no_bit}
use Rattle.reader_laws.proofs.DecidedLemmas.{IsDecided, both_decided, moved_decided, bytes_decided, decimal_decided, name_decided}
use Rattle.reader_laws.proofs.SignatureWords.{IsSaidOr, after_keyword, net_decided, word_decided}

-- ---- feeds

end_decided : (token : Token) → IsDecided ((front : Token) × (token ≡ front ++ codes "]"))
end_decided [] = inr (λ is. none is.0 is.1)
  where
    none : (front : Token) → [] ≡ front ++ codes "]" → ⊥
    none [] is = omega (arith, ap length is)
    none (x ∷ xs) is = omega (arith, ap length is)
end_decided (b ∷ []) =
    elim (cases_eq b 93) [
      | inl same ↦ inl ([], λ i. same i ∷ [])
      | inr other ↦ inr (λ is. single is.0 is.1 other)
    ]
  where
    single : (front : Token) → b ∷ [] ≡ front ++ codes "]" → (b ≡ 93 → ⊥) → ⊥
    single [] is other = other (ap (λ (xs : List ℕ). get_or xs 0 0) is)
    single (x ∷ []) is other = omega (arith, ap length is)
    single (x ∷ y ∷ xs) is other = omega (arith, ap length is)
end_decided (b ∷ c ∷ bs) =
    moved_decided (λ is. (b ∷ is.0, ap (λ (xs : List ℕ). b ∷ xs) is.1)) (λ is. shorter is.0 is.1) (end_decided (c ∷ bs))
  where
    shorter : (front : Token) → b ∷ c ∷ bs ≡ front ++ codes "]" → (front : Token) × (c ∷ bs ≡ front ++ codes "]")
    shorter [] is = absurd (omega (arith, ap length is))
    shorter (x ∷ xs) is = (xs, ap (λ (ys : List ℕ). drop 1 ys) is)

free_more : (b : ℕ) (bs : List ℕ) → (b ≡ 91 → ⊥) → HasNoBracket bs → HasNoBracket (b ∷ bs)
free_more b bs other free zero less = other
free_more b bs other free (suc k) less = free k (omega (arith, less))

-- the parts around the first `[`, or there is none
abbrev AroundBracket : Token → Type 0
AroundBracket token = ((word : Token) × (digits : Token) × (token ≡ word ++ 91 ∷ digits) × HasNoBracket word) ⊎ HasNoBracket token

around : (token : Token) → AroundBracket token
around [] = inr (λ k less. absurd (omega (arith, less)))
around (b ∷ bs) =
    elim (cases_eq b 91) [
      | inl same ↦ inl ([], bs, (λ i. same i ∷ bs), (λ k less. absurd (omega (arith, less))))
      | inr other ↦ elim (around bs) [
        | inl parts ↦ inl (b ∷ parts.0, parts.1, ap (λ (xs : List ℕ). b ∷ xs) parts.2, free_more b parts.0 other parts.3)
        | inr free ↦ inr (free_more b bs other free)
      ]
    ]

bracket_at : (word digits : Token) → slice_index (word ++ 91 ∷ digits) (length word) ≡ 91
bracket_at [] digits = refl
bracket_at (b ∷ word) digits = bracket_at word digits

bracket_within : (word digits : Token) → length word < length (word ++ 91 ∷ digits)
bracket_within [] digits = omega arith
bracket_within (b ∷ word) digits = omega (arith, bracket_within word digits)

abbrev IsBitOr : Token → Type 0
IsBitOr token = IsDecided ((word : List ℕ) × (place : ℕ) × SaysBit token word place)

with_front : (token front : Token) → token ≡ front ++ codes "]" → AroundBracket front → IsBitOr token
with_front token front end (inr free) = inr (λ is. bracketed is.0 is.1 is.2)
  where
    bracketed : (word : List ℕ) (place : ℕ) → SaysBit token word place → ⊥
    bracketed word place says =
        let shape : front ≡ word ++ 91 ∷ says.digits = front_is token front word place says end ∙ append_assoc word (codes "[") says.digits in
        let P : Token → Type 0 = HasNoBracket in
        subst P shape free (length word) (bracket_within word says.digits) (bracket_at word says.digits)
with_front token front end (inl parts) =
    elim (name_decided parts.0) [
      | inl named ↦ elim (decimal_decided 63 parts.1) [
        | inl found ↦ inl (parts.0, found.0, record { digits = parts.1; token_is = end ∙ ap (λ (xs : List ℕ). xs ++ codes "]") shape; is_name = named; is_place = found.1.0; within = found.1.1 })
        | inr other ↦ inr (λ is. no_bit token front parts.0 parts.1 end shape parts.3 (λ place name decimal low. other (place, (decimal, low))) is.0 is.1 is.2)
      ]
      | inr other ↦ inr (λ is. no_bit token front parts.0 parts.1 end shape parts.3 (λ place name decimal low. other name) is.0 is.1 is.2)
    ]
  where
    shape : front ≡ parts.0 ++ codes "[" ++ parts.1
    shape = parts.2 ∙ sym (append_assoc parts.0 (codes "[") parts.1)

bit_decided : (token : Token) → IsBitOr token
bit_decided token =
    elim (end_decided token) [
      | inl front ↦ with_front token front.0 front.1 (around front.0)
      | inr other ↦ inr (λ is. other (ends token is.0 is.1 is.2))
    ]

no_source : (token : Token) → (token ≡ codes "0" → ⊥) → (token ≡ codes "1" → ⊥) → ((word : List ℕ) × (place : ℕ) × SaysBit token word place → ⊥) → (source : SourceText) → SaysSource token source → ⊥
no_source token a b c Zero is = a is
no_source token a b c One is = b is
no_source token a b c (Bit word place) is = c (word, place, is)

source_decided : (token : Token) → IsSaidOr (SaysSource token)
source_decided token =
    elim (bytes_decided token (codes "0")) [
      | inl is ↦ inl (Zero, is)
      | inr a ↦ elim (bytes_decided token (codes "1")) [
        | inl is ↦ inl (One, is)
        | inr b ↦ elim (bit_decided token) [ inl bit ↦ inl (Bit bit.0 bit.1, bit.2) | inr c ↦ inr (λ is. no_source token a b c is.0 is.1) ]
      ]
    ]

-- the tokens behind `feed`
abbrev CycleOf : Token → Type 0
CycleOf token = (n : ℕ) × (IsDecimal token n × (n ≤ 4096))

abbrev SourceOf : Token → Type 0
SourceOf token = (source : SourceText) × SaysSource token source

abbrev FeedRest : List Token → Type 0
FeedRest rest = (net : Token) × (cycle : Token) × (source : Token) × (rest ≡ net ∷ cycle ∷ source ∷ []) × IsNetToken net × CycleOf cycle × SourceOf source

feed_rest : (rest : List Token) → IsDecided (FeedRest rest)
feed_rest [] = inr (λ is. omega (arith, ap length is.3))
feed_rest (net ∷ []) = inr (λ is. omega (arith, ap length is.3))
feed_rest (net ∷ cycle ∷ []) = inr (λ is. omega (arith, ap length is.3))
feed_rest (net ∷ cycle ∷ source ∷ another ∷ rest) = inr (λ is. omega (arith, ap length is.3))
feed_rest (net ∷ cycle ∷ source ∷ []) = moved_decided there back (both_decided (net_decided net) (both_decided (decimal_decided 4096 cycle) (source_decided source)))
  where
    there : IsNetToken net × (CycleOf cycle × SourceOf source) → FeedRest (net ∷ cycle ∷ source ∷ [])
    there parts = (net, cycle, source, refl, parts.0, parts.1.0, parts.1.1)

    back : FeedRest (net ∷ cycle ∷ source ∷ []) → IsNetToken net × (CycleOf cycle × SourceOf source)
    back is =
        let nets : is.0 ≡ net = ap (λ (ts : List Token). get_or ts 0 []) (sym is.3) in
        let cycles : is.1 ≡ cycle = ap (λ (ts : List Token). get_or ts 1 []) (sym is.3) in
        let sources : is.2 ≡ source = ap (λ (ts : List Token). get_or ts 2 []) (sym is.3) in
        let N : Token → Type 0 = IsNetToken in
        let C : Token → Type 0 = CycleOf in
        let S : Token → Type 0 = SourceOf in
        (subst N nets is.4, (subst C cycles is.5, subst S sources is.6))

pub feed_decided : (tokens : List Token) → IsSaidOr (SaysFeed tokens)
feed_decided tokens = moved_decided there back (after_keyword (codes "feed") FeedRest feed_rest tokens)
  where
    there : (rest : List Token) × (tokens ≡ codes "feed" ∷ rest) × FeedRest rest → (feed : FeedLine) × SaysFeed tokens feed
    there is =
        let parts = is.2 in (
          record { net = parts.0; cycle = parts.5.0; source = parts.6.0 },
          record {
            cycle = parts.1;
            source = parts.2;
            tokens_are = is.1 ∙ ap (λ ts. codes "feed" ∷ ts) parts.3;
            is_net = parts.4;
            is_cycle = parts.5.1.0;
            within = parts.5.1.1;
            is_source = parts.6.1;
          },
        )

    back : (feed : FeedLine) × SaysFeed tokens feed → (rest : List Token) × (tokens ≡ codes "feed" ∷ rest) × FeedRest rest
    back is =
        let feed = is.0 in
        let says = is.1 in
        (feed.net ∷ says.cycle ∷ says.source ∷ [], says.tokens_are, (feed.net, says.cycle, says.source, refl, says.is_net, (feed.cycle, (says.is_cycle, says.within)), (feed.source, says.is_source)))

-- ---- blocks

abbrev BlockRest : List Token → Type 0
BlockRest rest = (model : Token) × (rest ≡ model ∷ []) × IsNetToken model

block_rest : (rest : List Token) → IsDecided (BlockRest rest)
block_rest [] = inr (λ is. omega (arith, ap length is.1))
block_rest (model ∷ another ∷ rest) = inr (λ is. omega (arith, ap length is.1))
block_rest (model ∷ []) =
    moved_decided (λ is. (model, refl, is)) (λ is. let same : is.0 ≡ model = ap (λ (ts : List Token). get_or ts 0 []) (sym is.1) in let P : Token → Type 0 = IsNetToken in subst P same is.2) (net_decided model)

pub block_decided : (tokens : List Token) → IsSaidOr (SaysBlock tokens)
block_decided tokens =
    moved_decided
    (λ (is : (rest : List Token) × (tokens ≡ codes "block" ∷ rest) × BlockRest rest). (is.2.0, (is.1 ∙ ap (λ ts. codes "block" ∷ ts) is.2.1, is.2.2)))
    (λ (is : (model : Token) × SaysBlock tokens model). (is.0 ∷ [], is.1.0, (is.0, refl, is.1.1)))
    (after_keyword (codes "block") BlockRest block_rest tokens)

-- ---- a line of any kind

no_entry : (line : Line) → ((word : WordText) × (SaysWord line.tokens word × (word.line ≡ line.number)) → ⊥) → ((feed : FeedLine) × SaysFeed line.tokens feed → ⊥) → ((model : Token) × SaysBlock line.tokens model → ⊥) → (said : Entry) → SaysEntry line said → ⊥
no_entry line a b c (entry.Word word) says = a (word, says)
no_entry line a b c (entry.Feed feed) says = b (feed, says)
no_entry line a b c (entry.Block model) says = c (model, says)

pub entry_decided : (line : Line) → IsSaidOr (SaysEntry line)
entry_decided line =
    elim (word_decided line.number line.tokens) [
      | inl word ↦ inl (entry.Word word.0, word.1)
      | inr a ↦ elim (feed_decided line.tokens) [
        | inl feed ↦ inl (entry.Feed feed.0, feed.1)
        | inr b ↦ elim (block_decided line.tokens) [ inl block ↦ inl (entry.Block block.0, block.1) | inr c ↦ inr (λ is. no_entry line a b c is.0 is.1) ]
      ]
    ]

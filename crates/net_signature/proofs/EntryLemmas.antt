-- What a line says, kind by kind.
use Rattle.std.proofs.Common.{◌≡◌, ◌∙◌, ap, sym, refl, ℕ, ◌≤◌, ◌-◌, List, [], ◌∷◌, length, map, take, drop, get_or, arith, Result, Err, codes}
use Rattle.net_words.specs.declared.word.WordText.{WordText}
use Rattle.net_signature.specs.Lines.{Token, Line}
use Rattle.net_signature.specs.Statement.{SaysWord, SaysFeed, SaysBlock, SaysEntry}
use Rattle.net_signature.specs.Outcomes.{OrSyntax}
use Rattle.net_signature.specs.Reading.{Fits}
use Rattle.net_signature.specs.declared.entry.Entry.{Entry}
use Rattle.net_signature.specs.declared.entry.Entry.TheVariants.{Word, Feed, Block}
use Rattle.net_signature.specs.declared.entry.FeedLine.{FeedLine}
use Rattle.net_signature.specs.declared.fault.SigFault.{SigFault}
use Rattle.net_signature.proofs.ReaderLemmas.{more_fit, syntax_moves}

abbrev pub first : List Token → ℕ
first tokens = get_or (get_or tokens 0 []) 0 0

-- the first byte of what a line says
abbrev pub first_of : Entry → ℕ
first_of (Word word) = 119
first_of (Feed feed) = 102
first_of (Block model) = 98

first_is : (line : Line) (said : Entry) → SaysEntry line said → first line.tokens ≡ first_of said
first_is line (Word word) says = ap first says.0.tokens_are
first_is line (Feed feed) says = ap first says.tokens_are
first_is line (Block model) says = ap first says.0

-- the same line by its parts
abbrev pub line_with : ℕ → Token → List Token → Line
line_with line keyword rest = record { number = line; tokens = keyword ∷ rest }

abbrev pub same_entry : Entry → Entry
same_entry said = said

other : (line : Line) (said : Entry) (n : ℕ) → first line.tokens ≡ n → SaysEntry line said → n ≡ first_of said
other line said n is says = sym is ∙ first_is line said says

-- two things that a line says begin with the same byte
pub other_kind : (line : Line) (a b : Entry) → SaysEntry line a → SaysEntry line b → first_of a ≡ first_of b
other_kind line a b h k = sym (first_is line a h) ∙ first_is line b k

-- what a line says that begins with this keyword
pub word_back : (line : ℕ) (rest : List Token) (said : Entry) → SaysEntry (line_with line (codes "word") rest) said → (word : WordText) × (SaysWord (codes "word" ∷ rest) word × (word.line ≡ line))
word_back line rest (Word word) says = (word, says)
word_back line rest (Feed feed) says = let n = other (line_with line (codes "word") rest) (Feed feed) 119 refl says in absurd (omega (arith, n))
word_back line rest (Block model) says = let n = other (line_with line (codes "word") rest) (Block model) 119 refl says in absurd (omega (arith, n))

pub feed_back : (line : ℕ) (rest : List Token) (said : Entry) → SaysEntry (line_with line (codes "feed") rest) said → (feed : FeedLine) × SaysFeed (codes "feed" ∷ rest) feed
feed_back line rest (Word word) says = let n = other (line_with line (codes "feed") rest) (Word word) 102 refl says in absurd (omega (arith, n))
feed_back line rest (Feed feed) says = (feed, says)
feed_back line rest (Block model) says = let n = other (line_with line (codes "feed") rest) (Block model) 102 refl says in absurd (omega (arith, n))

pub block_back : (line : ℕ) (rest : List Token) (said : Entry) → SaysEntry (line_with line (codes "block") rest) said → (model : List ℕ) × SaysBlock (codes "block" ∷ rest) model
block_back line rest (Word word) says = let n = other (line_with line (codes "block") rest) (Word word) 98 refl says in absurd (omega (arith, n))
block_back line rest (Feed feed) says = let n = other (line_with line (codes "block") rest) (Feed feed) 98 refl says in absurd (omega (arith, n))
block_back line rest (Block model) says = (model, says)

module _ (fault : SigFault) (line : ℕ) (rest : List Token) where
  pub word_err : Fits {X = WordText} (λ word. word) (Err fault) (OrSyntax line (λ word. SaysWord (codes "word" ∷ rest) word × (word.line ≡ line))) → Fits same_entry (Err fault) (OrSyntax line (SaysEntry (line_with line (codes "word") rest)))
  word_err fits = syntax_moves {X = WordText} {Y = Entry} (λ word. word) same_entry line (λ word. SaysWord (codes "word" ∷ rest) word × (word.line ≡ line)) (SaysEntry (line_with line (codes "word") rest)) fault (word_back line rest) fits

  pub feed_err : Fits {X = FeedLine} (λ feed. feed) (Err fault) (OrSyntax line (SaysFeed (codes "feed" ∷ rest))) → Fits same_entry (Err fault) (OrSyntax line (SaysEntry (line_with line (codes "feed") rest)))
  feed_err fits = syntax_moves {X = FeedLine} {Y = Entry} (λ feed. feed) same_entry line (SaysFeed (codes "feed" ∷ rest)) (SaysEntry (line_with line (codes "feed") rest)) fault (feed_back line rest) fits

  pub block_err : Fits {X = List ℕ} (λ model. model) (Err fault) (OrSyntax line (SaysBlock (codes "block" ∷ rest))) → Fits same_entry (Err fault) (OrSyntax line (SaysEntry (line_with line (codes "block") rest)))
  block_err fits = syntax_moves {X = List ℕ} {Y = Entry} (λ model. model) same_entry line (SaysBlock (codes "block" ∷ rest)) (SaysEntry (line_with line (codes "block") rest)) fault (block_back line rest) fits

-- the line says an entry alone by its tokens
pub more_tokens : {C : Type 0} (f : C → Token) (xs : List C) (d : C) (line : ℕ) (result : Result Entry SigFault) → 1 ≤ length xs → Fits same_entry result (OrSyntax line (SaysEntry (line_with line (f (get_or xs 0 d)) (map f (take (length xs - 1) (drop 1 xs)))))) → Fits same_entry result (OrSyntax line (SaysEntry (record { number = line; tokens = map f xs })))
more_tokens f xs d line result long fits = more_fit same_entry (λ tokens said. SaysEntry (record { number = line; tokens = tokens }) said) f xs d line result long fits

-- What the lines after the field and the towers say, one after another. Source: this project's own format, docs/FORMATS.md.
use Rattle.std.specs.Prelude.{ℕ, ◌+◌, ◌==◌, ◌&&◌, ◌||◌, nat_le, not, Bool, true, false, IsTrue, List, [], ◌∷◌, ◌++◌, length, Option, None, Some, is_none, Result, Ok, Err, if◌then◌else◌}
use Rattle.std.specs.List.{list_any}
use Rattle.std.specs.Str.{bytes_eq}
use Rattle.outcome.specs.Outcome.{Outcome, ◌>>=◌, Exactly, Returns}
use Rattle.outcome.specs.Steps.{with_value}
use Rattle.net_words.specs.Roles.{same_role, is_output, input_count}
use Rattle.net_words.specs.declared.word.Role.TheVariants as role
use Rattle.net_words.specs.declared.word.WordText.{WordText}
use Rattle.net_words.specs.declared.feed.Source.{Source}
use Rattle.net_words.specs.declared.feed.Source.TheVariants as source
use Rattle.net_words.specs.declared.feed.FeedText.{FeedText}
use Rattle.net_signature.specs.Lines.{Line}
use Rattle.net_signature.specs.Statement.{SaysEntry}
use Rattle.net_signature.specs.Outcomes.{OrSyntax}
use Rattle.net_signature.specs.declared.version.Version.{Version}
use Rattle.net_signature.specs.declared.version.Version.TheVariants as version
use Rattle.net_signature.specs.declared.entry.Entry.{Entry}
use Rattle.net_signature.specs.declared.entry.Entry.TheVariants as entry
use Rattle.net_signature.specs.declared.entry.FeedLine.{FeedLine}
use Rattle.net_signature.specs.declared.entry.SourceText.{SourceText}
use Rattle.net_signature.specs.declared.entry.SourceText.TheVariants.{Zero, One, Bit}
use Rattle.net_signature.specs.declared.fault.SigFault.{SigFault}
use Rattle.net_signature.specs.declared.fault.SigFault.TheVariants.{NameTwice, NoFedWord, FeedTwice, TwoOutputs, TooManyWords, NoOutput}

-- a block: the model that its words belong to
pub record BlockValue : Type 0 where
  pub model : List ℕ
  pub words : List WordText

-- what was read: the words of the top, the feeds, the blocks that have ended, and the one whose words are being read
pub record BodyValue : Type 0 where
  pub version : Version
  pub words : List WordText
  pub feeds : List FeedText
  pub blocks : List BlockValue
  pub block : Option BlockValue

-- nothing was read
abbrev pub begun : Version → BodyValue
begun version = record { version = version; words = []; feeds = []; blocks = []; block = None }

-- all blocks so far, of which the one being read is the last
abbrev pub blocks_with : List BlockValue → Option BlockValue → List BlockValue
blocks_with blocks None = blocks
blocks_with blocks (Some block) = blocks ++ block ∷ []

abbrev pub blocks_of : BodyValue → List BlockValue
blocks_of body = blocks_with body.blocks body.block

abbrev pub has_feeds : Version → Bool
has_feeds version.One = false
has_feeds version.Two = true

abbrev pub is_fed : WordText → Bool
is_fed word = same_role word.role role.Fed

-- A word may stand in a block unless it is fed, and in the top before the feeds; it may be fed where there are feeds.
abbrev pub word_may_stand : BodyValue → Option BlockValue → WordText → Bool
word_may_stand body None word = (length body.feeds == 0) && (not (is_fed word) || has_feeds body.version)
word_may_stand body (Some block) word = not (is_fed word)

-- a feed may stand before the first block, where the version has feeds; a block may begin everywhere
abbrev pub may_stand : BodyValue → Entry → Bool
may_stand body (entry.Word word) = word_may_stand body body.block word
may_stand body (entry.Feed feed) = has_feeds body.version && is_none body.block
may_stand body (entry.Block model) = true

-- The words with one more. Its name is new; there is no second output word and no ninth other word.
abbrev pub with_word : List WordText → WordText → Result (List WordText) SigFault
with_word words word =
    if list_any (λ (other : WordText). bytes_eq other.name word.name) words then Err (NameTwice word.line)
    else if is_output word && list_any is_output words then Err (TwoOutputs word.line)
    else if not (is_output word) && nat_le 8 (input_count words) then Err (TooManyWords word.line)
    else Ok (words ++ word ∷ [])

-- a block with one more word
abbrev pub block_with : BlockValue → WordText → Result BlockValue SigFault
block_with block word = with_value (λ (words : List WordText). record block { words = words }) (with_word block.words word)

-- with one more word of the top, or of the block being read
abbrev pub body_with : BodyValue → Option BlockValue → WordText → Result BodyValue SigFault
body_with body None word = with_value (λ (words : List WordText). record body { words = words }) (with_word body.words word)
body_with body (Some block) word = with_value (λ (more : BlockValue). record body { block = Some more }) (block_with block word)

-- the number of the first fed word of this name, where the words are numbered from n
abbrev pub fed_word : ℕ → List WordText → List ℕ → Option ℕ
fed_word n [] name = None
fed_word n (word ∷ words) name = if bytes_eq word.name name && is_fed word then Some n else fed_word (n + 1) words name

-- the place of the word with this number, where there is one
abbrev pub bit_of : ℕ → Option ℕ → ℕ → Result Source SigFault
bit_of line None place = Err (NoFedWord line)
bit_of line (Some word) place = Ok (source.Bit word place)

-- the source of a feed: the word that it names is a fed word of the top
abbrev pub source_of : List WordText → ℕ → SourceText → Result Source SigFault
source_of words line Zero = Ok source.Zero
source_of words line One = Ok source.One
source_of words line (Bit word place) = bit_of line (fed_word 0 words word) place

-- the feed is of this net and this cycle
abbrev pub is_feed_of : List ℕ → ℕ → FeedText → Bool
is_feed_of net cycle feed = bytes_eq feed.net net && (feed.cycle == cycle)

-- the feeds with one more, whose net has none in this cycle
abbrev pub with_feed : List FeedText → FeedText → Result (List FeedText) SigFault
with_feed feeds feed = if list_any (is_feed_of feed.net feed.cycle) feeds then Err (FeedTwice feed.line) else Ok (feeds ++ feed ∷ [])

-- with a feed from this source, if there is one
abbrev pub fed_with : BodyValue → ℕ → FeedLine → Result Source SigFault → Result BodyValue SigFault
fed_with body line feed (Err fault) = Err fault
fed_with body line feed (Ok from) = with_value (λ (feeds : List FeedText). record body { feeds = feeds }) (with_feed body.feeds (record { line = line; net = feed.net; cycle = feed.cycle; source = from }))

-- a block of this model begins, if no other is of it
abbrev pub block_begun : BodyValue → ℕ → List ℕ → Result BodyValue SigFault
block_begun body line model =
    if list_any (λ (block : BlockValue). bytes_eq block.model model) (blocks_of body) then Err (NameTwice line)
    else Ok (record body { blocks = blocks_of body; block = Some (record { model = model; words = [] }) })

-- what one more line adds, or its fault
abbrev pub next : BodyValue → ℕ → Entry → Result BodyValue SigFault
next body line (entry.Word word) = body_with body body.block word
next body line (entry.Feed feed) = fed_with body line feed (source_of body.words line feed.source)
next body line (entry.Block model) = block_begun body line model

-- the line says something that may stand here, or it is a syntax fault
abbrev pub SaysHere : BodyValue → Line → Outcome SigFault Entry
SaysHere body line = OrSyntax line.number (λ said. SaysEntry line said × IsTrue (may_stand body said))

abbrev pub ReadsLine : BodyValue → Line → Outcome SigFault BodyValue
ReadsLine body line = do
  said ← SaysHere body line
  Returns (next body line.number said)

-- line by line: the first with a fault decides
abbrev pub Reads : BodyValue → List Line → Outcome SigFault BodyValue
Reads body [] = Exactly body
Reads body (line ∷ lines) = do
  more ← ReadsLine body line
  Reads more lines

-- each block has an output word, or the first that has none is the fault
abbrev pub blocks_whole : List BlockValue → Result (Unit {0}) SigFault
blocks_whole [] = Ok tt
blocks_whole (block ∷ blocks) = if list_any is_output block.words then blocks_whole blocks else Err (NoOutput (Some block.model))

-- after the last line: the top has an output word, and then each block
abbrev pub whole : List WordText → List BlockValue → Result (Unit {0}) SigFault
whole words blocks = if list_any is_output words then blocks_whole blocks else Err (NoOutput None)

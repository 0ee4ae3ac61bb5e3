-- The model that the fault of a text names is a token of the text.
use Rattle.std.proofs.Common.{◌≡◌, inl, inr, sym, refl, subst, ℕ, ◌&&◌, not, List, [], ◌∷◌, ◌++◌, Bool, true, false, Option, None, Some, Result, Ok, Err}
use Rattle.std.specs.Prelude.{nat_le, if◌then◌else◌}
use Rattle.std.specs.List.{AllByRecursion, list_any}
use Rattle.std.specs.Str.{bytes_eq}
use Rattle.outcome.proofs.StepLemmas.{with_value_ok}
use Rattle.outcome.specs.Steps.{with_value}
use Rattle.net_words.specs.Roles.{input_count, is_output}
use Rattle.net_words.specs.declared.feed.Source.{Source}
use Rattle.net_words.specs.declared.feed.FeedText.{FeedText}
use Rattle.net_words.specs.declared.word.WordText.{WordText}
use Rattle.net_signature.specs.Lines.{Line, Token, end_from, lines_from}
use Rattle.net_signature.specs.Outcomes.{Next, first_of, tower_comes}
use Rattle.net_signature.specs.Statement.{IsNetToken, SaysEntry, SaysField, SaysTower, SaysVersion}
use Rattle.net_signature.specs.Body.{BlockValue, BodyValue, begun, blocks_of, blocks_whole, blocks_with, bit_of, fed_word, has_feeds, is_feed_of, whole, with_word, body_with, block_with, with_feed, fed_with, source_of, block_begun, next, Reads}
use Rattle.net_signature.specs.Signature.{Sig, TowerIf}
use Rattle.net_signature.specs.declared.entry.Entry.{Entry}
use Rattle.net_signature.specs.declared.entry.Entry.TheVariants.{Word, Feed, Block}
use Rattle.net_signature.specs.declared.entry.FeedLine.{FeedLine}
use Rattle.net_signature.specs.declared.entry.SourceText.{SourceText}
use Rattle.net_signature.specs.declared.entry.SourceText.TheVariants.{Zero, One, Bit}
use Rattle.net_signature.specs.declared.version.Version.{Version}
use Rattle.net_signature.specs.declared.fault.SigFault.{SigFault}
use Rattle.net_signature.specs.declared.fault.SigFault.TheVariants.{FeedTwice, NameTwice, NoOutput, TooManyWords, TwoOutputs}

abbrev HasToken : BlockValue → Type 0
HasToken block = IsNetToken block.model

abbrev HasTokenIf : Option BlockValue → Type 0
HasTokenIf None = Unit {0}
HasTokenIf (Some block) = HasToken block

-- the models of all blocks so far are tokens
record HaveTokens (body : BodyValue) : Type 0 where
  ended : AllByRecursion HasToken body.blocks
  last : HasTokenIf body.block

joined : (blocks : List BlockValue) (block : Option BlockValue) → AllByRecursion HasToken blocks → HasTokenIf block → AllByRecursion HasToken (blocks_with blocks block)
joined blocks None all last = all
joined blocks (Some block) all last = by blocks all
  where
    by : (list : List BlockValue) → AllByRecursion HasToken list → AllByRecursion HasToken (list ++ block ∷ [])
    by [] each = (last, tt)
    by (b ∷ list) each = (each.0, by list each.1)

-- a body whose blocks are those of another
same_blocks : (body more other : BodyValue) → more ≡ other → other.blocks ≡ body.blocks → other.block ≡ body.block → HaveTokens body → HaveTokens more
same_blocks body more other same blocks block have =
    let P : List BlockValue → Type 0 = AllByRecursion HasToken in
    let Q : Option BlockValue → Type 0 = HasTokenIf in
    subst HaveTokens (sym same) (record { ended = subst P (sym blocks) have.ended; last = subst Q (sym block) have.last })

word_step : (body : BodyValue) (current : Option BlockValue) (word : WordText) (more : BodyValue) → HasTokenIf current → Ok more ≡ body_with body current word → HaveTokens body → HaveTokens more
word_step body None word more now ok have =
    let got = with_value_ok (λ (words : List WordText). record body { words = words }) (with_word body.words word) more ok in
    same_blocks body more (record body { words = got.0 }) got.2 refl refl have
word_step body (Some block) word more now ok have =
    let got = with_value_ok (λ (b : BlockValue). record body { block = Some b }) (block_with block word) more ok in
    let inside = with_value_ok (λ (words : List WordText). record block { words = words }) (with_word block.words word) got.0 got.1 in
    let P : BlockValue → Type 0 = HasToken in
    let kept : HasToken got.0 = subst P (sym inside.2) now in
    subst HaveTokens (sym got.2) (record { ended = have.ended; last = kept })

feed_step : (body : BodyValue) (line : ℕ) (feed : FeedLine) (from : Result Source SigFault) (more : BodyValue) → Ok more ≡ fed_with body line feed from → HaveTokens body → HaveTokens more
feed_step body line feed (Err e) more ok have = absurd (cc)
feed_step body line feed (Ok from) more ok have =
    let got = with_value_ok (λ (feeds : List FeedText). record body { feeds = feeds }) (with_feed body.feeds (record { line = line; net = feed.net; cycle = feed.cycle; source = from })) more ok in
    same_blocks body more (record body { feeds = got.0 }) got.2 refl refl have

block_step : (body : BodyValue) (line : ℕ) (model : List ℕ) (more : BodyValue) → IsNetToken model → Ok more ≡ block_begun body line model → HaveTokens body → HaveTokens more
block_step body line model more token ok have =
    elim (list_any (λ (block : BlockValue). bytes_eq block.model model) (blocks_of body)) as (λ b. ◌≡◌ {A = Result BodyValue SigFault} (Ok more) (if b then Err (NameTwice line) else Ok begun_body) → HaveTokens more) [
      | true ↦ λ h. absurd (cc)
      | false ↦ λ h. let same : more ≡ begun_body = cc in subst HaveTokens (sym same) (record { ended = joined body.blocks body.block have.ended have.last; last = token })
    ] ok
  where
    begun_body : BodyValue
    begun_body = record body { blocks = blocks_of body; block = Some (record { model = model; words = [] }) }

line_step : (body : BodyValue) (line : Line) (said : Entry) (more : BodyValue) → SaysEntry line said → Ok more ≡ next body line.number said → HaveTokens body → HaveTokens more
line_step body line (Word word) more says ok have = word_step body body.block word more have.last ok have
line_step body line (Feed feed) more says ok have = feed_step body line.number feed (source_of body.words line.number feed.source) more ok have
line_step body line (Block model) more says ok have = block_step body line.number model more says.1 ok have

reads_tokens : (body more : BodyValue) (lines : List Line) → Reads body lines (Ok more) → HaveTokens body → HaveTokens more
reads_tokens body more [] is have = subst HaveTokens (sym is) have
reads_tokens body more (line ∷ lines) (between, first, rest) have = reads_tokens between more lines rest (line_step body line first.0 between first.1.0 first.2 have)

-- the first block without an output word is one of the blocks
missing : (blocks : List BlockValue) (model : List ℕ) → ◌≡◌ {A = Result (Unit {0}) SigFault} (Err (NoOutput (Some model))) (blocks_whole blocks) → AllByRecursion HasToken blocks → IsNetToken model
missing [] model wrong all = absurd (cc)
missing (block ∷ blocks) model wrong all =
    elim (list_any is_output block.words) as (λ b. ◌≡◌ {A = Result (Unit {0}) SigFault} (Err (NoOutput (Some model))) (if b then blocks_whole blocks else Err (NoOutput (Some block.model))) → IsNetToken model) [
      | true ↦ λ h. missing blocks model h all.1
      | false ↦ λ h. let same : model ≡ block.model = cc in let P : List ℕ → Type 0 = IsNetToken in subst P (sym same) all.0
    ] wrong

missing_in : (words : List WordText) (blocks : List BlockValue) (model : List ℕ) → ◌≡◌ {A = Result (Unit {0}) SigFault} (Err (NoOutput (Some model))) (whole words blocks) → AllByRecursion HasToken blocks → IsNetToken model
missing_in words blocks model wrong all =
    elim (list_any is_output words) as (λ b. ◌≡◌ {A = Result (Unit {0}) SigFault} (Err (NoOutput (Some model))) (if b then blocks_whole blocks else Err (NoOutput None)) → IsNetToken model) [
      | true ↦ λ h. missing blocks model h all
      | false ↦ λ h. absurd (cc)
    ] wrong

-- ---- no other step names a model

err_of : {F A B : Type 0} (f : A → B) (r : Result A F) (e : F) → ◌≡◌ {A = Result B F} (Err e) (with_value f r) → ◌≡◌ {A = Result A F} (Err e) r
err_of f (Ok a) e wrong = absurd (cc)
err_of f (Err other) e wrong = let same : e ≡ other = cc in rw same refl

word_never : (words : List WordText) (word : WordText) (block : Option (List ℕ)) → ◌≡◌ {A = Result (List WordText) SigFault} (Err (NoOutput block)) (with_word words word) → ⊥
word_never words word block wrong =
    by (list_any (λ (other : WordText). bytes_eq other.name word.name) words) (is_output word && list_any is_output words) (not (is_output word) && nat_le 8 (input_count words)) wrong
  where
    by : (a b c : Bool) → ◌≡◌ {A = Result (List WordText) SigFault} (Err (NoOutput block)) (if a then Err (NameTwice word.line) else if b then Err (TwoOutputs word.line) else if c then Err (TooManyWords word.line) else Ok (words ++ word ∷ [])) → ⊥
    by true b c h = absurd (cc)
    by false true c h = absurd (cc)
    by false false true h = absurd (cc)
    by false false false h = absurd (cc)

body_never : (body : BodyValue) (current : Option BlockValue) (word : WordText) (block : Option (List ℕ)) → ◌≡◌ {A = Result BodyValue SigFault} (Err (NoOutput block)) (body_with body current word) → ⊥
body_never body None word block wrong = word_never body.words word block (err_of (λ (words : List WordText). record body { words = words }) (with_word body.words word) (NoOutput block) wrong)
body_never body (Some here) word block wrong =
    let inside = err_of (λ (b : BlockValue). record body { block = Some b }) (block_with here word) (NoOutput block) wrong in
    word_never here.words word block (err_of (λ (words : List WordText). record here { words = words }) (with_word here.words word) (NoOutput block) inside)

feed_never : (feeds : List FeedText) (feed : FeedText) (block : Option (List ℕ)) → ◌≡◌ {A = Result (List FeedText) SigFault} (Err (NoOutput block)) (with_feed feeds feed) → ⊥
feed_never feeds feed block wrong = by (list_any (is_feed_of feed.net feed.cycle) feeds) wrong
  where
    by : (a : Bool) → ◌≡◌ {A = Result (List FeedText) SigFault} (Err (NoOutput block)) (if a then Err (FeedTwice feed.line) else Ok (feeds ++ feed ∷ [])) → ⊥
    by true h = absurd (cc)
    by false h = absurd (cc)

source_never : (words : List WordText) (line : ℕ) (source : SourceText) (block : Option (List ℕ)) → ◌≡◌ {A = Result Source SigFault} (Err (NoOutput block)) (source_of words line source) → ⊥
source_never words line Zero block wrong = absurd (cc)
source_never words line One block wrong = absurd (cc)
source_never words line (Bit word place) block wrong = by (fed_word 0 words word) wrong
  where
    by : (found : Option ℕ) → ◌≡◌ {A = Result Source SigFault} (Err (NoOutput block)) (bit_of line found place) → ⊥
    by None h = absurd (cc)
    by (Some w) h = absurd (cc)

fed_never : (body : BodyValue) (line : ℕ) (feed : FeedLine) (from : Result Source SigFault) (block : Option (List ℕ)) → (◌≡◌ {A = Result Source SigFault} (Err (NoOutput block)) from → ⊥) → ◌≡◌ {A = Result BodyValue SigFault} (Err (NoOutput block)) (fed_with body line feed from) → ⊥
fed_never body line feed (Err e) block never wrong = never (let same : NoOutput block ≡ e = cc in rw same refl)
fed_never body line feed (Ok from) block never wrong = feed_never body.feeds (record { line = line; net = feed.net; cycle = feed.cycle; source = from }) block (err_of (λ (feeds : List FeedText). record body { feeds = feeds }) (with_feed body.feeds (record { line = line; net = feed.net; cycle = feed.cycle; source = from })) (NoOutput block) wrong)

begun_never : (body : BodyValue) (line : ℕ) (model : List ℕ) (block : Option (List ℕ)) → ◌≡◌ {A = Result BodyValue SigFault} (Err (NoOutput block)) (block_begun body line model) → ⊥
begun_never body line model block wrong = by (list_any (λ (b : BlockValue). bytes_eq b.model model) (blocks_of body)) wrong
  where
    by : (a : Bool) → ◌≡◌ {A = Result BodyValue SigFault} (Err (NoOutput block)) (if a then Err (NameTwice line) else Ok (record body { blocks = blocks_of body; block = Some (record { model = model; words = [] }) })) → ⊥
    by true h = absurd (cc)
    by false h = absurd (cc)

next_never : (body : BodyValue) (line : ℕ) (said : Entry) (block : Option (List ℕ)) → ◌≡◌ {A = Result BodyValue SigFault} (Err (NoOutput block)) (next body line said) → ⊥
next_never body line (Word word) block wrong = body_never body body.block word block wrong
next_never body line (Feed feed) block wrong = fed_never body line feed (source_of body.words line feed.source) block (source_never body.words line feed.source block) wrong
next_never body line (Block model) block wrong = begun_never body line model block wrong

reads_never : (body : BodyValue) (lines : List Line) (block : Option (List ℕ)) → Reads body lines (Err (NoOutput block)) → ⊥
reads_never body [] block wrong = wrong
reads_never body (line ∷ lines) block (inl (inl wrong)) = wrong
reads_never body (line ∷ lines) block (inl (inr (said, says, wrong))) = next_never body line.number said block wrong
reads_never body (line ∷ lines) block (inr (more, is, wrong)) = reads_never more lines block wrong

first_never : (end : ℕ) (lines : List Line) (block : Option (List ℕ)) → ◌≡◌ {A = Result (Line × List Line) SigFault} (Err (NoOutput block)) (first_of end lines) → ⊥
first_never end [] block wrong = absurd (cc)
first_never end (line ∷ lines) block wrong = absurd (cc)

line_never : {A : Type 0} (end : ℕ) (says : List Token → A → Type 0) (lines : List Line) (block : Option (List ℕ)) → Next end says lines (Err (NoOutput block)) → ⊥
line_never end says lines block (inl wrong) = first_never end lines block wrong
line_never end says lines block (inr (first, is, inl wrong)) = wrong
line_never end says lines block (inr (first, is, inr (value, v, wrong))) = wrong

tower_never : (b : Bool) (end : ℕ) (lines : List Line) (block : Option (List ℕ)) → TowerIf b end lines (Err (NoOutput block)) → ⊥
tower_never true end lines block wrong = line_never end SaysTower lines block wrong
tower_never false end lines block wrong = wrong

none_tokens : (version : Version) → HaveTokens (begun version)
none_tokens version = record { ended = tt; last = tt }

-- where a block has no output word, its model is a token
pub model_is_token : (text : List ℕ) (model : List ℕ) → Sig text (Err (NoOutput (Some model))) → IsNetToken model
model_is_token text model (inl wrong) = absurd (line_never (end_from 1 text) SaysVersion (lines_from 1 text) (Some model) wrong)
model_is_token text model (inr (version, v, inl wrong)) = absurd (line_never (end_from 1 text) SaysField version.1 (Some model) wrong)
model_is_token text model (inr (version, v, inr (field, f, inl wrong))) = absurd (tower_never (tower_comes field.1) (end_from 1 text) field.1 (Some model) wrong)
model_is_token text model (inr (version, v, inr (field, f, inr (tower, t, inl wrong)))) = absurd (tower_never (has_feeds version.0 && tower_comes tower.1) (end_from 1 text) tower.1 (Some model) wrong)
model_is_token text model (inr (version, v, inr (field, f, inr (tower, t, inr (upper, u, inl wrong))))) = absurd (reads_never (begun version.0) upper.1 (Some model) wrong)
model_is_token text model (inr (version, v, inr (field, f, inr (tower, t, inr (upper, u, inr (body, b, inl wrong)))))) =
    let have = reads_tokens (begun version.0) body upper.1 b (none_tokens version.0) in
    missing_in body.words (blocks_of body) model wrong (joined body.blocks body.block have.ended have.last)
model_is_token text model (inr (version, v, inr (field, f, inr (tower, t, inr (upper, u, inr (body, b, inr (complete, c, wrong))))))) = absurd wrong

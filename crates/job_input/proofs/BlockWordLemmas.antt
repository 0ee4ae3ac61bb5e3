-- The words that a text says of each block have names, no two the same; one is the output word, at most eight are others, and none is fed.
use Rattle.std.proofs.Common.{◌≡◌, ◌≢◌, ◌∙◌, ap, sym, refl, subst, inl, inr, ℕ, zero, suc, List, [], ◌∷◌, not, Bool, true, false, Option, None, Some, Result, Ok, Err, arith}
use Rattle.std.specs.Prelude.{IsTrue, if◌then◌else◌}
use Rattle.std.specs.List.{list_any}
use Rattle.std.specs.Str.{bytes_eq}
use Rattle.lists.specs.Lists.{Has}
use Rattle.lists.specs.laws.HasLaws.{Has_cases, one_of}
use Rattle.outcome.proofs.StepLemmas.{with_value_ok}
use Rattle.text_core.specs.Names.{IsName}
use Rattle.net_words.specs.Roles.{is_output, same_role}
use Rattle.net_words.specs.declared.feed.FeedText.{FeedText}
use Rattle.net_words.specs.declared.feed.Source.{Source}
use Rattle.net_words.specs.declared.word.Role.{Role}
use Rattle.net_words.specs.declared.word.Role.TheVariants.{Input, State, Fed, Output}
use Rattle.net_words.specs.declared.word.WordText.{WordText}
use Rattle.net_signature.specs.Body.{begun, block_begun, block_with, blocks_of, blocks_whole, blocks_with, body_with, BlockValue, BodyValue, fed_with, is_fed, may_stand, next, Reads, source_of, whole, with_feed, with_word, word_may_stand}
use Rattle.net_signature.specs.Few.{AreFew}
use Rattle.net_signature.specs.Lines.{Line}
use Rattle.net_signature.specs.Signature.{Sig, SignatureValue}
use Rattle.net_signature.specs.Statement.{SaysEntry}
use Rattle.net_signature.specs.WordNames.{HaveNames}
use Rattle.net_signature.specs.declared.entry.Entry.{Entry}
use Rattle.net_signature.specs.declared.entry.Entry.TheVariants.{Word, Feed, Block}
use Rattle.net_signature.specs.declared.entry.FeedLine.{FeedLine}
use Rattle.net_signature.specs.declared.fault.SigFault.{SigFault}
use Rattle.net_signature.specs.declared.fault.SigFault.TheVariants.{NameTwice, NoOutput}
use Rattle.net_signature.proofs.FewLemmas.{word_taken, few_more, count_some}
use Rattle.job_input.specs.Setting.{AreBlockWords}
use Rattle.net_signature.proofs.NamesLemmas.{one_more}

-- ---- one more word

abbrev same_name : WordText → WordText → Bool
same_name word other = bytes_eq other.name word.name

-- words of a block so far
record AreWell (words : List WordText) : Type 0 where
  names : HaveNames words
  few : AreFew words
  unfed : (word : WordText) → Has words word → word.role ≢ Fed

well_more : (words : List WordText) (word : WordText) (more : List WordText) → IsName word.name → word.role ≢ Fed → Ok more ≡ with_word words word → AreWell words → AreWell more
well_more words word more name unfed ok well =
    let new = word_taken words word more ok in
    let P : List WordText → Type 0 = λ ws. (w : WordText) → Has ws w → w.role ≢ Fed in
    let Q : WordText → Type 0 = λ w. w.role ≢ Fed in
    record {
      names = subst HaveNames (sym new.0) (one_more words word well.names name new.1);
      few = few_more words word more ok well.few;
      unfed = subst P (sym new.0) (λ w has. elim (Has_cases words (word ∷ []) w has) [ inl h ↦ well.unfed w h | inr h ↦ subst Q (sym (one_of word w h)) unfed ]);
    }

none_well : AreWell []
none_well = record {
  names = record { names = λ u has. let got = has.1 in absurd (cc); apart = λ i j u v at_i at_j same. absurd (cc) };
  few = record { outputs = omega arith; others = omega arith };
  unfed = λ w has. let got = has.1 in absurd (cc);
}

-- ---- what was read so far

abbrev CurrentWell : Option BlockValue → Type 0
CurrentWell None = Unit {0}
CurrentWell (Some block) = AreWell block.words

record BodyWell (body : BodyValue) : Type 0 where
  ended : (block : BlockValue) → Has body.blocks block → AreWell block.words
  current : CurrentWell body.block

not_fed : (word : WordText) → IsTrue (not (is_fed word)) → word.role ≢ Fed
not_fed word is fed = by word.role fed is
  where
    by : (r : Role) → r ≡ Fed → IsTrue (not (same_role r Fed)) → ⊥
    by Input e is = absurd (cc)
    by State e is = absurd (cc)
    by Fed e is = let no : false ≡ true = is in cc
    by Output e is = absurd (cc)

same_body : (body more : BodyValue) → more.blocks ≡ body.blocks → more.block ≡ body.block → BodyWell body → BodyWell more
same_body body more blocks block well =
    let P : List BlockValue → Type 0 = λ bs. (b : BlockValue) → Has bs b → AreWell b.words in
    record { ended = subst P (sym blocks) well.ended; current = subst CurrentWell (sym block) well.current }

word_step : (body : BodyValue) (current : Option BlockValue) (word : WordText) (more : BodyValue) → body.block ≡ current → IsName word.name → IsTrue (word_may_stand body current word) → Ok more ≡ body_with body current word → BodyWell body → BodyWell more
word_step body None word more at name may ok well =
    let got = with_value_ok (λ (words : List WordText). record body { words = words }) (with_word body.words word) more ok in
    same_body body more (ap (λ (b : BodyValue). b.blocks) got.2) (ap (λ (b : BodyValue). b.block) got.2) well
word_step body (Some block) word more at name may ok well =
    let got = with_value_ok (λ (b : BlockValue). record body { block = Some b }) (block_with block word) more ok in
    let added = with_value_ok (λ (words : List WordText). record block { words = words }) (with_word block.words word) got.0 got.1 in
    let P : List BlockValue → Type 0 = λ bs. (b : BlockValue) → Has bs b → AreWell b.words in
    let now : AreWell added.0 = well_more block.words word added.0 name (not_fed word may) added.1 (subst CurrentWell at well.current) in
    let here : AreWell got.0.words = subst AreWell (sym (ap (λ (b : BlockValue). b.words) added.2)) now in
    record { ended = subst P (sym (ap (λ (b : BodyValue). b.blocks) got.2)) well.ended; current = subst CurrentWell (sym (ap (λ (b : BodyValue). b.block) got.2)) here }

feed_step : (body : BodyValue) (line : ℕ) (feed : FeedLine) (from : Result Source SigFault) (more : BodyValue) → Ok more ≡ fed_with body line feed from → BodyWell body → BodyWell more
feed_step body line feed (Err e) more ok well = absurd (cc)
feed_step body line feed (Ok from) more ok well =
    let got = with_value_ok (λ (feeds : List FeedText). record body { feeds = feeds }) (with_feed body.feeds (record { line = line; net = feed.net; cycle = feed.cycle; source = from })) more ok in
    same_body body more (ap (λ (b : BodyValue). b.blocks) got.2) (ap (λ (b : BodyValue). b.block) got.2) well

-- all blocks so far
with_current : (blocks : List BlockValue) (current : Option BlockValue) (block : BlockValue) → ((b : BlockValue) → Has blocks b → AreWell b.words) → CurrentWell current → Has (blocks_with blocks current) block → AreWell block.words
with_current blocks None block ended now has = ended block has
with_current blocks (Some last) block ended now has =
    let Q : BlockValue → Type 0 = λ b. AreWell b.words in
    elim (Has_cases blocks (last ∷ []) block has) [ inl h ↦ ended block h | inr h ↦ subst Q (sym (one_of last block h)) now ]

all_well : (body : BodyValue) → BodyWell body → (block : BlockValue) → Has (blocks_of body) block → AreWell block.words
all_well body well block has = with_current body.blocks body.block block well.ended well.current has

block_step : (body : BodyValue) (line : ℕ) (model : List ℕ) (more : BodyValue) → Ok more ≡ block_begun body line model → BodyWell body → BodyWell more
block_step body line model more ok well =
    elim (list_any (λ (block : BlockValue). bytes_eq block.model model) (blocks_of body)) as (λ b. ◌≡◌ {A = Result BodyValue SigFault} (Ok more) (if b then Err (NameTwice line) else Ok begun_body) → BodyWell more) [
      | true ↦ λ h. absurd (cc)
      | false ↦ λ h. let same : more ≡ begun_body = cc in subst BodyWell (sym same) (record { ended = all_well body well; current = none_well })
    ] ok
  where
    begun_body : BodyValue
    begun_body = record body { blocks = blocks_of body; block = Some (record { model = model; words = [] }) }

line_step : (body : BodyValue) (line : Line) (said : Entry) (more : BodyValue) → SaysEntry line said → IsTrue (may_stand body said) → Ok more ≡ next body line.number said → BodyWell body → BodyWell more
line_step body line (Word word) more says may ok well = word_step body body.block word more refl says.0.is_name may ok well
line_step body line (Feed feed) more says may ok well = feed_step body line.number feed (source_of body.words line.number feed.source) more ok well
line_step body line (Block model) more says may ok well = block_step body line.number model more ok well

reads_well : (body more : BodyValue) (lines : List Line) → Reads body lines (Ok more) → BodyWell body → BodyWell more
reads_well body more [] is well = subst BodyWell (sym is) well
reads_well body more (line ∷ lines) (between, first, rest) well = reads_well between more lines rest (line_step body line first.0 between first.1.0 first.1.1 first.2 well)

-- ---- the whole text

no_blocks : (version : _) → BodyWell (begun version)
no_blocks version = record { ended = λ b has. let got = has.1 in absurd (cc); current = tt }

each_whole : (blocks : List BlockValue) → ◌≡◌ {A = Result (Unit {0}) SigFault} (Ok tt) (blocks_whole blocks) → (block : BlockValue) → Has blocks block → list_any is_output block.words ≡ true
each_whole [] ok block has = let got = has.1 in absurd (cc)
each_whole (first ∷ blocks) ok block has =
    elim (list_any is_output first.words) as (λ b. list_any is_output first.words ≡ b → ◌≡◌ {A = Result (Unit {0}) SigFault} (Ok tt) (if b then blocks_whole blocks else Err (NoOutput (Some first.model))) → list_any is_output block.words ≡ true) [
      | true ↦ λ is h. here is (λ rest. each_whole blocks h block rest) has
      | false ↦ λ is h. absurd (cc)
    ] refl ok
  where
    here : list_any is_output first.words ≡ true → (Has blocks block → list_any is_output block.words ≡ true) → Has (first ∷ blocks) block → list_any is_output block.words ≡ true
    here is later (zero, got) = let same : first ≡ block = cc in ap (λ (b : BlockValue). list_any is_output b.words) (sym same) ∙ is
    here is later (suc i, got) = later (i, got)

whole_blocks : (words : List WordText) (blocks : List BlockValue) → Ok tt ≡ whole words blocks → ◌≡◌ {A = Result (Unit {0}) SigFault} (Ok tt) (blocks_whole blocks)
whole_blocks words blocks ok =
    elim (list_any is_output words) as (λ b. ◌≡◌ {A = Result (Unit {0}) SigFault} (Ok tt) (if b then blocks_whole blocks else Err (NoOutput None)) → ◌≡◌ {A = Result (Unit {0}) SigFault} (Ok tt) (blocks_whole blocks)) [ true ↦ λ h. h | false ↦ λ h. absurd (cc) ] ok

-- the words of each block of a signature
pub sig_blocks : (text : List ℕ) (signature : SignatureValue) → Sig text (Ok signature) → (block : BlockValue) → Has signature.blocks block → AreBlockWords block.words
sig_blocks text signature (version, v, (field, f, (tower, t, (upper, u, (body, r, (complete, w, exactly)))))) =
    let P : SignatureValue → Type 0 = λ s. (block : BlockValue) → Has s.blocks block → AreBlockWords block.words in
    subst P (sym exactly)
    (λ block has.
    let well = all_well body (reads_well (begun version.0) body upper.1 r (no_blocks version.0)) block has in
    let one = each_whole (blocks_of body) (whole_blocks body.words (blocks_of body) w) block has in
    let some = count_some is_output block.words one in
    let most = well.few.outputs in
    record { output = omega (arith, some, most); others = well.few.others; names = well.names; unfed = well.unfed })

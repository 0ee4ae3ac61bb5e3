-- The words that a text says have names, no two the same, and are few enough.
use Rattle.std.proofs.Common.{◌≡◌, ◌⊎◌, ◌∙◌, ap, sym, refl, subst, inl, inr, ℕ, zero, suc, ◌≤◌, List, [], ◌∷◌, ◌++◌, length, filter, Bool, true, false, Option, None, Some, Result, Ok, Err, arith}
use Rattle.std.specs.Prelude.{slice_get, if◌then◌else◌}
use Rattle.std.specs.List.{list_any}
use Rattle.std.specs.Str.{bytes_eq}
use Rattle.std.proofs.lemmas.Bool.{true≢false}
use Rattle.std.proofs.lemmas.Slice.Eq.{bytes_eq-Decides}
use Rattle.lists.specs.laws.HasLaws.{any_has}
use Rattle.outcome.proofs.StepLemmas.{with_value_ok}
use Rattle.text_core.specs.Names.{IsName}
use Rattle.net_words.specs.Roles.{is_output, input_count}
use Rattle.net_words.specs.declared.feed.Source.{Source}
use Rattle.net_words.specs.declared.feed.FeedText.{FeedText}
use Rattle.net_words.specs.declared.word.WordText.{WordText}
use Rattle.net_signature.specs.Lines.{Line}
use Rattle.net_signature.specs.Statement.{SaysEntry}
use Rattle.net_signature.specs.Body.{BlockValue, BodyValue, begun, blocks_of, blocks_whole, whole, with_word, body_with, block_with, with_feed, fed_with, source_of, block_begun, next, Reads}
use Rattle.net_signature.specs.Few.{AreFew}
use Rattle.net_signature.specs.Signature.{SignatureValue, Sig}
use Rattle.net_signature.specs.WordNames.{HaveNames}
use Rattle.net_signature.specs.declared.entry.Entry.{Entry}
use Rattle.net_signature.specs.declared.entry.Entry.TheVariants.{Word, Feed, Block}
use Rattle.net_signature.specs.declared.entry.FeedLine.{FeedLine}
use Rattle.net_signature.specs.declared.fault.SigFault.{SigFault}
use Rattle.net_signature.specs.declared.fault.SigFault.TheVariants.{NameTwice, NoOutput}
use Rattle.net_signature.proofs.FewLemmas.{word_taken, few_more, count_some}

abbrev same_name : WordText → WordText → Bool
same_name word other = bytes_eq other.name word.name

-- the words and one more whose name is new
pub one_more : (words : List WordText) (word : WordText) → HaveNames words → IsName word.name → list_any (same_name word) words ≡ false → HaveNames (words ++ word ∷ [])
one_more words word before name new = record {
  names = λ w has. by_place w (among w has.0 has.1);
  apart = λ i j u v at_i at_j same. both i j u v (among u i at_i) (among v j at_j) same;
}
  where
    -- the place of a word of the longer list: one before, or the last
    place : (ws : List WordText) (w : WordText) (k : ℕ) → slice_get (ws ++ word ∷ []) k ≡ Some w → (slice_get ws k ≡ Some w) ⊎ ((k ≡ length ws) × (w ≡ word))
    place [] w zero got = inr (refl, let same : word ≡ w = cc in sym same)
    place [] w (suc k) got = absurd (cc)
    place (u ∷ us) w zero got = inl got
    place (u ∷ us) w (suc k) got = elim (place us w k got) [
      | inl before ↦ inl before
      | inr last ↦ inr (ap suc last.0, last.1)
    ]

    among : (w : WordText) (k : ℕ) → slice_get (words ++ word ∷ []) k ≡ Some w → (slice_get words k ≡ Some w) ⊎ ((k ≡ length words) × (w ≡ word))
    among w k got = place words w k got

    by_place : {k : ℕ} (w : WordText) → (slice_get words k ≡ Some w) ⊎ ((k ≡ length words) × (w ≡ word)) → IsName w.name
    by_place {k = k} w (inl got) = before.names w (k, got)
    by_place w (inr last) = let P : WordText → Type 0 = λ u. IsName u.name in subst P (sym last.1) name

    fresh : (u : WordText) (k : ℕ) → slice_get words k ≡ Some u → u.name ≡ word.name → ⊥
    fresh u k got same = true≢false (sym (any_has (same_name word) words u (k, got) ((bytes_eq-Decides u.name word.name).1 same)) ∙ new)

    both : (i j : ℕ) (u v : WordText) → (slice_get words i ≡ Some u) ⊎ ((i ≡ length words) × (u ≡ word)) → (slice_get words j ≡ Some v) ⊎ ((j ≡ length words) × (v ≡ word)) → u.name ≡ v.name → i ≡ j
    both i j u v (inl a) (inl b) same = before.apart i j u v a b same
    both i j u v (inl a) (inr b) same = absurd (fresh u i a (same ∙ ap (λ (w : WordText). w.name) b.1))
    both i j u v (inr a) (inl b) same = absurd (fresh v j b (sym same ∙ ap (λ (w : WordText). w.name) a.1))
    both i j u v (inr a) (inr b) same = a.0 ∙ sym b.0

-- words that have names and are few
record AreWell (words : List WordText) : Type 0 where
  names : HaveNames words
  few : AreFew words

well_more : (words : List WordText) (word : WordText) (more : List WordText) → IsName word.name → Ok more ≡ with_word words word → AreWell words → AreWell more
well_more words word more name ok well =
    let new = word_taken words word more ok in
    record { names = subst HaveNames (sym new.0) (one_more words word well.names name new.1); few = few_more words word more ok well.few }

-- the words of the top after one more line
abbrev words_of : BodyValue → List WordText
words_of body = body.words

word_step : (body : BodyValue) (current : Option BlockValue) (word : WordText) (more : BodyValue) → IsName word.name → Ok more ≡ body_with body current word → AreWell body.words → AreWell more.words
word_step body None word more name ok well =
    let got = with_value_ok (λ (words : List WordText). record body { words = words }) (with_word body.words word) more ok in
    subst AreWell (sym (ap words_of got.2)) (well_more body.words word got.0 name got.1 well)
word_step body (Some block) word more name ok well =
    let got = with_value_ok (λ (b : BlockValue). record body { block = Some b }) (block_with block word) more ok in
    subst AreWell (sym (ap words_of got.2)) well

feed_step : (body : BodyValue) (line : ℕ) (feed : FeedLine) (from : Result Source SigFault) (more : BodyValue) → Ok more ≡ fed_with body line feed from → AreWell body.words → AreWell more.words
feed_step body line feed (Err e) more ok well = absurd (cc)
feed_step body line feed (Ok from) more ok well =
    let got = with_value_ok (λ (feeds : List FeedText). record body { feeds = feeds }) (with_feed body.feeds (record { line = line; net = feed.net; cycle = feed.cycle; source = from })) more ok in
    subst AreWell (sym (ap words_of got.2)) well

block_step : (body : BodyValue) (line : ℕ) (model : List ℕ) (more : BodyValue) → Ok more ≡ block_begun body line model → AreWell body.words → AreWell more.words
block_step body line model more ok well =
    elim (list_any (λ (block : BlockValue). bytes_eq block.model model) (blocks_of body)) as (λ b. ◌≡◌ {A = Result BodyValue SigFault} (Ok more) (if b then Err (NameTwice line) else Ok begun_body) → AreWell more.words) [
      | true ↦ λ h. absurd (cc)
      | false ↦ λ h. let same : more ≡ begun_body = cc in subst AreWell (sym (ap words_of same)) well
    ] ok
  where
    begun_body : BodyValue
    begun_body = record body { blocks = blocks_of body; block = Some (record { model = model; words = [] }) }

line_step : (body : BodyValue) (line : Line) (said : Entry) (more : BodyValue) → SaysEntry line said → Ok more ≡ next body line.number said → AreWell body.words → AreWell more.words
line_step body line (Word word) more says ok well = word_step body body.block word more says.0.is_name ok well
line_step body line (Feed feed) more says ok well = feed_step body line.number feed (source_of body.words line.number feed.source) more ok well
line_step body line (Block model) more says ok well = block_step body line.number model more ok well

reads_well : (body more : BodyValue) (lines : List Line) → Reads body lines (Ok more) → AreWell body.words → AreWell more.words
reads_well body more [] is well = subst AreWell (sym (ap words_of is)) well
reads_well body more (line ∷ lines) (between, first, rest) well = reads_well between more lines rest (line_step body line first.0 between first.1.0 first.2 well)

none_well : AreWell []
none_well = record { names = record { names = λ u has. let got = has.1 in absurd (cc); apart = λ i j u v at_i at_j same. absurd (cc) }; few = record { outputs = omega arith; others = omega arith } }

-- the words of a signature's top
record TopOf (signature : SignatureValue) : Type 0 where
  well : AreWell signature.words
  one : list_any is_output signature.words ≡ true

has_one : (words : List WordText) (blocks : List BlockValue) → Ok tt ≡ whole words blocks → list_any is_output words ≡ true
has_one words blocks ok =
    elim (list_any is_output words) as (λ b. ◌≡◌ {A = Result (Unit {0}) SigFault} (Ok tt) (if b then blocks_whole blocks else Err (NoOutput None)) → b ≡ true) [ true ↦ λ h. refl | false ↦ λ h. absurd (cc) ] ok

top_of : (text : List ℕ) (signature : SignatureValue) → Sig text (Ok signature) → TopOf signature
top_of text signature (version, v, (field, f, (tower, t, (upper, u, (body, r, (complete, w, exactly)))))) =
    let P : SignatureValue → Type 0 = λ s. TopOf s in
    subst P (sym exactly) (record { well = reads_well (begun version.0) body upper.1 r none_well; one = has_one body.words (blocks_of body) w })

-- a signature's words have names, and no two the same
pub sig_names : (text : List ℕ) (signature : SignatureValue) → Sig text (Ok signature) → HaveNames signature.words
sig_names text signature ok = (top_of text signature ok).well.names

-- one is the output word, and at most eight are others
pub sig_counts : (text : List ℕ) (signature : SignatureValue) → Sig text (Ok signature) → (length (filter is_output signature.words) ≡ 1) × (input_count signature.words ≤ 8)
sig_counts text signature ok =
    let top = top_of text signature ok in
    let some = count_some is_output signature.words top.one in
    let most = top.well.few.outputs in
    (omega arith, top.well.few.others)

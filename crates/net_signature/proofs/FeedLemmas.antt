-- The feeds that a text says can be bound: each is from a fed word of the top, and no two are of one net and cycle.
use Rattle.std.proofs.Common.{◌≡◌, ◌⊎◌, ◌∙◌, ap, sym, refl, subst, inl, inr, ℕ, zero, suc, ◌+◌, ◌<◌, ◌≤◌, ◌==◌, ◌&&◌, ◌||◌, not, List, [], ◌∷◌, ◌++◌, length, map, Bool, true, false, Option, None, Some, Result, Ok, Err, arith}
use Rattle.std.specs.Prelude.{IsTrue, slice_get, if◌then◌else◌}
use Rattle.std.specs.List.{list_any}
use Rattle.std.specs.Str.{bytes_eq}
use Rattle.std.proofs.lemmas.Bool.{eqb-true, true≢false}
use Rattle.std.proofs.lemmas.Bool.Decides.{nat_tests}
use Rattle.std.proofs.lemmas.Slice.Eq.{bytes_eq-Decides}
use Rattle.std.proofs.lemmas.Slice.Zip.{AllZip-long}
use Rattle.lists.specs.laws.BoolLaws.{second_true as both_true, first_true}
use Rattle.lists.specs.laws.HasLaws.{any_has}
use Rattle.outcome.proofs.StepLemmas.{with_value_ok}
use Rattle.net_words.specs.Feeds.{AreFeeds, IsSource}
use Rattle.net_words.specs.Roles.{same_role}
use Rattle.net_words.specs.declared.feed.Source.{Source}
use Rattle.net_words.specs.declared.feed.Source.TheVariants as source
use Rattle.net_words.specs.declared.feed.FeedText.{FeedText}
use Rattle.net_words.specs.declared.word.Role.{Role}
use Rattle.net_words.specs.declared.word.Role.TheVariants as role
use Rattle.net_words.specs.declared.word.WordText.{WordText}
use Rattle.net_signature.specs.Lines.{Token, Line, end_from}
use Rattle.net_signature.specs.Outcomes.{tower_comes}
use Rattle.net_signature.specs.Statement.{SaysEntry, SaysElement, SaysSource, SaysTower}
use Rattle.net_signature.specs.Body.{BlockValue, BodyValue, begun, blocks_of, bit_of, block_begun, block_with, body_with, fed_with, fed_word, has_feeds, is_fed, is_feed_of, may_stand, next, Reads, source_of, with_feed, with_word, word_may_stand}
use Rattle.net_signature.specs.Signature.{SignatureValue, Sig, TowerIf}
use Rattle.net_signature.specs.declared.entry.Entry.{Entry}
use Rattle.net_signature.specs.declared.entry.Entry.TheVariants.{Word, Feed, Block}
use Rattle.net_signature.specs.declared.entry.FeedLine.{FeedLine}
use Rattle.net_signature.specs.declared.entry.SourceText.{SourceText}
use Rattle.net_signature.specs.declared.entry.SourceText.TheVariants.{Zero, One, Bit}
use Rattle.net_signature.specs.declared.fault.SigFault.{SigFault}
use Rattle.net_signature.specs.declared.fault.SigFault.TheVariants.{FeedTwice, NameTwice}

abbrev roles : List WordText → List Role
roles words = map (λ word. word.role) words

-- places of a text are below 64
abbrev AreBody : List WordText → List FeedText → Type 0
AreBody words feeds = AreFeeds 64 (roles words) feeds

abbrev AreOf : BodyValue → Type 0
AreOf body = AreBody body.words body.feeds

-- ---- a source is a fed word

fed_role : (r : Role) → same_role r role.Fed ≡ true → r ≡ role.Fed
fed_role role.Input e = absurd (cc)
fed_role role.State e = absurd (cc)
fed_role role.Fed e = refl
fed_role role.Output e = absurd (cc)

-- the word that is found is fed
fed_found : (n : ℕ) (words : List WordText) (name : List ℕ) (m : ℕ) → fed_word n words name ≡ Some m → (i : ℕ) × (m ≡ n + i) × (slice_get (roles words) i ≡ Some role.Fed)
fed_found n [] name m found = absurd (cc)
fed_found n (word ∷ words) name m found =
    elim (bytes_eq word.name name && is_fed word) as (λ b. (bytes_eq word.name name && is_fed word) ≡ b → (if b then Some n else fed_word (n + 1) words name) ≡ Some m → (i : ℕ) × (m ≡ n + i) × (slice_get (roles (word ∷ words)) i ≡ Some role.Fed)) [
      | true ↦ λ e h. (0, (let same : n ≡ m = cc in omega arith), ap Some (fed_role word.role (both_true (bytes_eq word.name name) (is_fed word) e)))
      | false ↦ λ e h. (let rest = fed_found (n + 1) words name m h in (suc rest.0, (let at = rest.1 in omega arith), rest.2))
    ] refl found

bit_is : (words : List WordText) (line : ℕ) (found : Option ℕ) (name : List ℕ) (place : ℕ) (from : Source) → fed_word 0 words name ≡ found → place ≤ 63 → Ok from ≡ bit_of line found place → IsSource 64 (roles words) from
bit_is words line None name place from is within ok = absurd (cc)
bit_is words line (Some m) name place from is within ok =
    let got = fed_found 0 words name m is in
    let number : got.0 ≡ m = omega (arith, got.1) in
    let P : ℕ → Type 0 = λ i. slice_get (roles words) i ≡ Some role.Fed in
    let Q : Source → Type 0 = λ s. IsSource 64 (roles words) s in
    let same : from ≡ source.Bit m place = cc in
    subst Q (sym same) (omega (arith, within), subst P number got.2)

source_is : (words : List WordText) (line : ℕ) (token : Token) (said : SourceText) (from : Source) → SaysSource token said → Ok from ≡ source_of words line said → IsSource 64 (roles words) from
source_is words line token Zero from says ok =
    let Q : Source → Type 0 = λ s. IsSource 64 (roles words) s in
    let same : from ≡ source.Zero = cc in
    subst Q (sym same) tt
source_is words line token One from says ok =
    let Q : Source → Type 0 = λ s. IsSource 64 (roles words) s in
    let same : from ≡ source.One = cc in
    subst Q (sym same) tt
source_is words line token (Bit name place) from says ok = bit_is words line (fed_word 0 words name) name place from refl says.within ok

-- ---- one feed more

-- what stands in the longer list: one before, or the last
place_of : (feed : FeedText) (feeds : List FeedText) (f : FeedText) (k : ℕ) → slice_get (feeds ++ feed ∷ []) k ≡ Some f → (slice_get feeds k ≡ Some f) ⊎ ((k ≡ length feeds) × (f ≡ feed))
place_of feed [] f zero got = inr (refl, let same : feed ≡ f = cc in sym same)
place_of feed [] f (suc k) got = absurd (cc)
place_of feed (g ∷ gs) f zero got = inl got
place_of feed (g ∷ gs) f (suc k) got = elim (place_of feed gs f k got) [
  | inl before ↦ inl before
  | inr last ↦ inr (ap suc last.0, last.1)
]

is_same : (f : FeedText) (net : List ℕ) (cycle : ℕ) → f.net ≡ net → f.cycle ≡ cycle → is_feed_of net cycle f ≡ true
is_same f net cycle of_net of_cycle =
    let here : (f.cycle == cycle) ≡ true = grind (arith, nat_tests) in
    ap (λ b. b && (f.cycle == cycle)) ((bytes_eq-Decides f.net net).1 of_net) ∙ here

feed_more : (words : List WordText) (feeds : List FeedText) (feed : FeedText) → IsSource 64 (roles words) feed.source → list_any (is_feed_of feed.net feed.cycle) feeds ≡ false → AreBody words feeds → AreBody words (feeds ++ feed ∷ [])
feed_more words feeds feed from new before = record {
  sources = λ f has. by_place f has.0 (place_of feed feeds f has.0 has.1);
  apart = λ i j f g at_i at_j net cycle. both i j f g (place_of feed feeds f i at_i) (place_of feed feeds g j at_j) net cycle;
}
  where
    by_place : (f : FeedText) (k : ℕ) → (slice_get feeds k ≡ Some f) ⊎ ((k ≡ length feeds) × (f ≡ feed)) → IsSource 64 (roles words) f.source
    by_place f k (inl got) = before.sources f (k, got)
    by_place f k (inr last) = let P : FeedText → Type 0 = λ g. IsSource 64 (roles words) g.source in subst P (sym last.1) from

    fresh : (f : FeedText) (k : ℕ) → slice_get feeds k ≡ Some f → f.net ≡ feed.net → f.cycle ≡ feed.cycle → ⊥
    fresh f k got net cycle = true≢false (sym (any_has (is_feed_of feed.net feed.cycle) feeds f (k, got) (is_same f feed.net feed.cycle net cycle)) ∙ new)

    both : (i j : ℕ) (f g : FeedText) → (slice_get feeds i ≡ Some f) ⊎ ((i ≡ length feeds) × (f ≡ feed)) → (slice_get feeds j ≡ Some g) ⊎ ((j ≡ length feeds) × (g ≡ feed)) → f.net ≡ g.net → f.cycle ≡ g.cycle → i ≡ j
    both i j f g (inl a) (inl b) net cycle = before.apart i j f g a b net cycle
    both i j f g (inl a) (inr b) net cycle = absurd (fresh f i a (net ∙ ap (λ (h : FeedText). h.net) b.1) (cycle ∙ ap (λ (h : FeedText). h.cycle) b.1))
    both i j f g (inr a) (inl b) net cycle = absurd (fresh g j b (sym net ∙ ap (λ (h : FeedText). h.net) a.1) (sym cycle ∙ ap (λ (h : FeedText). h.cycle) a.1))
    both i j f g (inr a) (inr b) net cycle = a.0 ∙ sym b.0

feeds_more : (words : List WordText) (feeds : List FeedText) (feed : FeedText) (more : List FeedText) → IsSource 64 (roles words) feed.source → Ok more ≡ with_feed feeds feed → AreBody words feeds → AreBody words more
feeds_more words feeds feed more from ok before =
    elim (list_any (is_feed_of feed.net feed.cycle) feeds) as (λ b. list_any (is_feed_of feed.net feed.cycle) feeds ≡ b → ◌≡◌ {A = Result (List FeedText) SigFault} (Ok more) (if b then Err (FeedTwice feed.line) else Ok (feeds ++ feed ∷ [])) → AreBody words more) [
      | true ↦ λ e h. absurd (cc)
      | false ↦ λ e h. let same : more ≡ feeds ++ feed ∷ [] = cc in let P : List FeedText → Type 0 = λ l. AreBody words l in subst P (sym same) (feed_more words feeds feed from e before)
    ] refl ok

no_feeds : (words : List WordText) → AreBody words []
no_feeds words = record { sources = λ f has. let got = has.1 in absurd (cc); apart = λ i j f g at_i at_j net cycle. absurd (cc) }

-- ---- line by line

-- a word of the top may stand before the first feed alone
none_yet : (body : BodyValue) (word : WordText) → IsTrue (word_may_stand body None word) → body.feeds ≡ []
none_yet body word stands = by body.feeds (eqb-true (length body.feeds) 0 (first_true (length body.feeds == 0) (not (is_fed word) || has_feeds body.version) stands))
  where
    by : (feeds : List FeedText) → length feeds ≡ 0 → feeds ≡ []
    by [] none = refl
    by (f ∷ fs) none = absurd (omega (arith, none))

word_step : (body : BodyValue) (current : Option BlockValue) (word : WordText) (more : BodyValue) → IsTrue (word_may_stand body current word) → Ok more ≡ body_with body current word → AreOf body → AreOf more
word_step body None word more stands ok are =
    let got = with_value_ok (λ (words : List WordText). record body { words = words }) (with_word body.words word) more ok in
    let P : List FeedText → Type 0 = λ feeds. AreBody got.0 feeds in
    let Q : BodyValue → Type 0 = λ b. AreOf b in
    subst Q (sym got.2) (subst P (sym (none_yet body word stands)) (no_feeds got.0))
word_step body (Some block) word more stands ok are =
    let got = with_value_ok (λ (b : BlockValue). record body { block = Some b }) (block_with block word) more ok in
    let Q : BodyValue → Type 0 = λ b. AreOf b in
    subst Q (sym got.2) are

feed_step : (body : BodyValue) (line : ℕ) (feed : FeedLine) (from : Result Source SigFault) (more : BodyValue) → ((s : Source) → Ok s ≡ from → IsSource 64 (roles body.words) s) → Ok more ≡ fed_with body line feed from → AreOf body → AreOf more
feed_step body line feed (Err e) more sourced ok are = absurd (cc)
feed_step body line feed (Ok from) more sourced ok are =
    let text : FeedText = record { line = line; net = feed.net; cycle = feed.cycle; source = from } in
    let got = with_value_ok (λ (feeds : List FeedText). record body { feeds = feeds }) (with_feed body.feeds text) more ok in
    let Q : BodyValue → Type 0 = λ b. AreOf b in
    subst Q (sym got.2) (feeds_more body.words body.feeds text got.0 (sourced from refl) got.1 are)

block_step : (body : BodyValue) (line : ℕ) (model : List ℕ) (more : BodyValue) → Ok more ≡ block_begun body line model → AreOf body → AreOf more
block_step body line model more ok are =
    elim (list_any (λ (block : BlockValue). bytes_eq block.model model) (blocks_of body)) as (λ b. ◌≡◌ {A = Result BodyValue SigFault} (Ok more) (if b then Err (NameTwice line) else Ok begun_body) → AreOf more) [
      | true ↦ λ h. absurd (cc)
      | false ↦ λ h. let same : more ≡ begun_body = cc in let Q : BodyValue → Type 0 = λ b. AreOf b in subst Q (sym same) are
    ] ok
  where
    begun_body : BodyValue
    begun_body = record body { blocks = blocks_of body; block = Some (record { model = model; words = [] }) }

line_step : (body : BodyValue) (line : Line) (said : Entry) (more : BodyValue) → SaysEntry line said → IsTrue (may_stand body said) → Ok more ≡ next body line.number said → AreOf body → AreOf more
line_step body line (Word word) more says stands ok are = word_step body body.block word more stands ok are
line_step body line (Feed feed) more says stands ok are =
    feed_step body line.number feed (source_of body.words line.number feed.source) more (λ s got. source_is body.words line.number says.source feed.source s says.is_source got) ok are
line_step body line (Block model) more says stands ok are = block_step body line.number model more ok are

reads_feeds : (body more : BodyValue) (lines : List Line) → Reads body lines (Ok more) → AreOf body → AreOf more
reads_feeds body more [] is are = let Q : BodyValue → Type 0 = λ b. AreOf b in subst Q (sym is) are
reads_feeds body more (line ∷ lines) (between, first, rest) are = reads_feeds between more lines rest (line_step body line first.0 between first.1.0 first.1.1 first.2 are)

-- a signature's feeds are from fed words, from places below 64, and no two are of one net and cycle
pub fed_feeds : (text : List ℕ) (signature : SignatureValue) → Sig text (Ok signature) → AreFeeds 64 (map (λ word. word.role) signature.words) signature.feeds
fed_feeds text signature (version, v, (field, f, (tower, t, (upper, u, (body, r, (complete, w, exactly)))))) =
    let P : SignatureValue → Type 0 = λ s. AreBody s.words s.feeds in
    subst P (sym exactly) (reads_feeds (begun version.0) body upper.1 r (no_feeds []))

-- ---- places of a field

-- the place, if there is one, is below k
abbrev pub IsPlaceBelow : ℕ → Source → Type 0
IsPlaceBelow k source.Zero = Unit {0}
IsPlaceBelow k source.One = Unit {0}
IsPlaceBelow k (source.Bit word place) = place < k

-- each place of these feeds is below k
abbrev pub ArePlacesBelow : ℕ → List FeedText → Type 0
ArePlacesBelow k [] = Unit {0}
ArePlacesBelow k (feed ∷ feeds) = IsPlaceBelow k feed.source × ArePlacesBelow k feeds

place_at : (k : ℕ) (feeds : List FeedText) (f : FeedText) (i : ℕ) → slice_get feeds i ≡ Some f → ArePlacesBelow k feeds → IsPlaceBelow k f.source
place_at k [] f i got below = absurd (cc)
place_at k (g ∷ gs) f zero got below = let same : g ≡ f = cc in let P : FeedText → Type 0 = λ h. IsPlaceBelow k h.source in subst P same below.0
place_at k (g ∷ gs) f (suc i) got below = place_at k gs f i got below.1

source_below : (k : ℕ) (list : List Role) (from : Source) → IsSource 64 list from → IsPlaceBelow k from → IsSource k list from
source_below k list source.Zero is below = tt
source_below k list source.One is below = tt
source_below k list (source.Bit word place) is below = (below, is.1)

-- where their places are below k, they are feeds for a field of degree k
pub feeds_are : (text : List ℕ) (signature : SignatureValue) (k : ℕ) → Sig text (Ok signature) → ArePlacesBelow k signature.feeds → AreFeeds k (map (λ word. word.role) signature.words) signature.feeds
feeds_are text signature k said below =
    let are = fed_feeds text signature said in
    record { sources = λ f has. source_below k (roles signature.words) f.source (are.sources f has) (place_at k signature.feeds f has.0 has.1 below); apart = are.apart }

-- ---- towers

some_tower : (tokens : List Token) (tower : List ℕ) → SaysTower tokens tower → length tower ≡ 0 → ⊥
some_tower tokens tower (numbers, tokens_are, some, each) none = let long = AllZip-long SaysElement numbers tower each in omega arith

upper_none : (a b : Bool) (end : ℕ) (first second : List Line) (tower upper : List ℕ × List Line) → TowerIf a end first (Ok tower) → TowerIf (b && tower_comes second) end second (Ok upper) → a ≡ tower_comes first → second ≡ tower.1 → length tower.0 ≡ 0 → length upper.0 ≡ 0
upper_none true b end first second tower upper (l, got, (value, says, is)) u comes next none =
    absurd (some_tower l.0.tokens value says (ap (λ (p : List ℕ × List Line). length p.0) (sym is) ∙ none))
upper_none false b end first second tower upper is u comes next none = past (b && tower_comes second) (by b) u
  where
    same : second ≡ first
    same = next ∙ ap (λ (p : List ℕ × List Line). p.1) is

    by : (b : Bool) → (b && tower_comes second) ≡ false
    by true = ap tower_comes same ∙ sym comes
    by false = refl

    past : (c : Bool) → c ≡ false → TowerIf c end second (Ok upper) → length upper.0 ≡ 0
    past true wrong t = absurd (cc)
    past false right t = ap (λ (p : List ℕ × List Line). length p.0) t

-- without a first tower there is no second
pub no_upper : (text : List ℕ) (signature : SignatureValue) → Sig text (Ok signature) → length signature.tower ≡ 0 → length signature.upper ≡ 0
no_upper text signature (version, v, (field, f, (tower, t, (upper, u, (body, r, (complete, w, exactly)))))) none =
    let towers = ap (λ (s : SignatureValue). length s.tower) exactly in
    let uppers = ap (λ (s : SignatureValue). length s.upper) exactly in
    uppers ∙ upper_none (tower_comes field.1) (has_feeds version.0) (end_from 1 text) field.1 tower.1 tower upper t u refl refl (sym towers ∙ none)

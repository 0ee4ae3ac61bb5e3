-- The words and feeds of a setting can be bound.
use Rattle.std.proofs.Common.{◌≡◌, ◌∙◌, ap, sym, refl, subst, ℕ, zero, suc, ◌≤◌, not, List, [], ◌∷◌, length, map, filter, Ok, arith, All}
use Rattle.std.proofs.lemmas.List.Filters.{length-filter_both}
use Rattle.lists.specs.Lists.{Has}
use Rattle.net_words.specs.Binding.{AreWords}
use Rattle.net_words.specs.Feeds.{AreFeeds}
use Rattle.net_words.specs.Roles.{is_output, input_count}
use Rattle.net_words.specs.declared.word.WordText.{WordText}
use Rattle.net_signature.specs.Body.{BlockValue}
use Rattle.net_signature.specs.Signature.{SignatureValue, Sig}
use Rattle.net_signature.proofs.FeedLemmas.{feeds_are}
use Rattle.net_signature.proofs.NamesLemmas.{sig_names, sig_counts}
use Rattle.job_input.proofs.BlockWordLemmas.{sig_blocks}
use Rattle.job_input.specs.SettingOf.{HasWidth, BasesOf, BlocksHaveBases, SettingOf}
use Rattle.job_input.specs.Setting.{AreBlockWords, AreSaid, CanBindBlock}
use Rattle.job_input.specs.SettingValue.{SettingValue}
use Rattle.job_input.proofs.FieldLemmas.{field_some, field_most}
use Rattle.job_input.proofs.PlaceLemmas.{places_below}
use Rattle.job_input.proofs.SignedLemmas.{setting_parts}

-- ---- bases

module _ (k : ℕ) (product : ℕ → ℕ → ℕ) where
  have_bits : (words : List WordText) (bases : List (List ℕ)) → BasesOf k product words (Ok bases) → All (HasWidth k) words
  have_bits [] bases ok i d less = absurd (omega arith)
  have_bits (word ∷ words) bases ok zero d less = ok.1.1
  have_bits (word ∷ words) bases ok (suc i) d less = have_bits words ok.2.0 ok.2.1 i d (omega arith)

  as_many : (words : List WordText) (bases : List (List ℕ)) → BasesOf k product words (Ok bases) → length bases ≡ length words
  as_many [] bases ok = ap length ok
  as_many (word ∷ words) bases ok = ap length ok.2.2 ∙ ap suc (as_many words ok.2.0 ok.2.1)

-- ---- settings

pub setting_long : (bytes : List ℕ) (value : SettingValue) → SettingOf bytes (Ok value) → length value.bases ≡ length value.signature.words
setting_long bytes value is =
    let parts = setting_parts bytes value is in
    ap (λ v. length v.bases) parts.value_is ∙ as_many parts.field.k parts.field.product parts.said.words parts.bases parts.have_bases ∙ sym (ap (λ v. length v.signature.words) parts.value_is)

-- words with their bases can be bound
pub bases_words : (k : ℕ) (product : ℕ → ℕ → ℕ) → 1 ≤ k → k ≤ 64 → (words : List WordText) (bases : List (List ℕ)) → length (filter is_output words) ≡ 1 → input_count words ≤ 8 → BasesOf k product words (Ok bases) → AreWords k words
bases_words k product some most words bases output others are =
    let both = length-filter_both is_output (λ word. not (is_output word)) (λ word. refl) words in
    record { some = some; most = most; one = omega arith; few = omega arith; output = output; others = others; each = have_bits k product words bases are }

pub bases_long : (k : ℕ) (product : ℕ → ℕ → ℕ) (words : List WordText) (bases : List (List ℕ)) → BasesOf k product words (Ok bases) → length bases ≡ length words
bases_long k product words bases are = as_many k product words bases are

-- so can the words of each block
pub block_binds : (k : ℕ) (product : ℕ → ℕ → ℕ) → 1 ≤ k → k ≤ 64 → (blocks : List BlockValue) → BlocksHaveBases k product blocks (Ok tt) → ((block : BlockValue) → Has blocks block → AreBlockWords block.words) → (block : BlockValue) → Has blocks block → CanBindBlock k block.words
block_binds k product some most [] have said block has = let got = has.1 in absurd (cc)
block_binds k product some most (first ∷ blocks) (bases, are, rest) said block (zero, got) =
    let P : BlockValue → Type 0 = λ b. CanBindBlock k b.words in
    let same : first ≡ block = cc in
    let own = said first (0, refl) in
    subst P same (record { words_are = bases_words k product some most first.words bases own.output own.others are; unfed = own.unfed; names = own.names })
block_binds k product some most (first ∷ blocks) (bases, are, rest) said block (suc i, got) = block_binds k product some most blocks rest (λ b h. said b (suc h.0, h.1)) block (i, got)

-- the words and feeds of a signature's text
pub text_said : (bytes : List ℕ) (said : SignatureValue) → Sig bytes (Ok said) → AreSaid said
text_said bytes said ok =
    let counts = sig_counts bytes said ok in
    record { output = counts.0; others = counts.1; names = sig_names bytes said ok; feeds = λ k within. feeds_are bytes said k ok (places_below k said.feeds within); blocks = sig_blocks bytes said ok }

pub setting_words : (bytes : List ℕ) (value : SettingValue) → SettingOf bytes (Ok value) → AreWords value.k value.signature.words
setting_words bytes value is =
    let parts = setting_parts bytes value is in
    let said = parts.said in
    let field = parts.field in
    let counts = sig_counts bytes said parts.says in
    let some = field_some said.modulus said.tower said.upper field parts.named in
    let most = field_most said.modulus said.tower said.upper field parts.named in
    let are : AreWords field.k said.words = bases_words field.k field.product some most said.words parts.bases counts.0 counts.1 parts.have_bases in
    let P : SettingValue → Type 0 = λ v. AreWords v.k v.signature.words in
    subst P (sym parts.value_is) are

pub setting_feeds : (bytes : List ℕ) (value : SettingValue) → SettingOf bytes (Ok value) → AreFeeds value.k (map (λ word. word.role) value.signature.words) value.signature.feeds
setting_feeds bytes value is =
    let parts = setting_parts bytes value is in
    let P : SettingValue → Type 0 = λ v. AreFeeds v.k (map (λ word. word.role) v.signature.words) v.signature.feeds in
    subst P (sym parts.value_is) (feeds_are bytes parts.said parts.field.k parts.says (places_below parts.field.k parts.said.feeds parts.within))

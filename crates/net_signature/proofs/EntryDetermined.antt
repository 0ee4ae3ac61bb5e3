-- A line says one thing at most.
use Rattle.std.proofs.Common.{◌≡◌, ◌∙◌, ap, sym, refl, subst, inl, inr, ℕ, ◌==◌, List, [], ◌∷◌, ◌++◌, get_or, if◌then◌else◌, arith, codes}
use Rattle.std.specs.List.{slice_split, AllZip}
use Rattle.text_core.specs.Numbers.{IsHex, IsDecimal}
use Rattle.net_words.specs.declared.word.Role.{Role}
use Rattle.net_words.specs.declared.word.Role.TheVariants.{Input, State, Fed, Output}
use Rattle.net_words.specs.declared.word.BasisText.{BasisText}
use Rattle.net_words.specs.declared.word.BasisText.TheVariants.{Poly, Normal, Elements}
use Rattle.net_words.specs.declared.word.WordText.{WordText}
use Rattle.net_signature.specs.Lines.{Token, Line}
use Rattle.net_signature.specs.Statement.{SaysVersion, SaysField, SaysElement, SaysTower, SaysRole, IsNormalOf, IsListOf, SaysBasis, SaysWord, SaysBit, SaysSource, SaysFeed, SaysEntry}
use Rattle.net_signature.specs.declared.version.Version.{Version}
use Rattle.net_signature.specs.declared.version.Version.TheVariants as version
use Rattle.net_signature.specs.declared.entry.Entry.TheVariants as entry
use Rattle.net_signature.specs.declared.entry.FeedLine.{FeedLine}
use Rattle.net_signature.specs.declared.entry.SourceText.{SourceText}
use Rattle.net_signature.specs.declared.entry.SourceText.TheVariants.{Zero, One, Bit}
use Rattle.net_signature.proofs.BasisLemmas.{poly_normal, poly_list, normal_list, behind_normal, behind_list}
use Rattle.net_signature.proofs.BitLemmas.{parts_are, name_free, one_byte}
use Rattle.net_signature.proofs.EntryLemmas.{other_kind}

-- a relation that holds of one value at most
abbrev pub IsSingle : {A : Type 0} → (A → Type 0) → Type 0
IsSingle {A} says = (a b : A) → says a → says b → a ≡ b

behind_two : (a b : Token) → codes "0x" ++ a ≡ codes "0x" ++ b → a ≡ b
behind_two a b e = ap (λ t. drop_two t) e
  where
    drop_two : List ℕ → List ℕ
    drop_two (x ∷ y ∷ rest) = rest
    drop_two rest = rest

one_hex : (token : Token) → IsSingle (IsHex token)
one_hex token n m h k = let same : h.0 ≡ k.0 = behind_two h.0 k.0 (sym h.1 ∙ k.1) in cc

one_element : (token : Token) → IsSingle (SaysElement token)
one_element token n m h k = one_hex token n m h.0 k.0

one_zip : (tokens : List Token) → IsSingle (AllZip SaysElement tokens)
one_zip [] [] [] h k = refl
one_zip [] [] (y ∷ ys) h k = absurd k
one_zip [] (x ∷ xs) ys h k = absurd h
one_zip (t ∷ ts) [] ys h k = absurd h
one_zip (t ∷ ts) (x ∷ xs) [] h k = absurd k
one_zip (t ∷ ts) (x ∷ xs) (y ∷ ys) h k = let head : x ≡ y = one_element t x y h.0 k.0 in let tail : xs ≡ ys = one_zip ts xs ys h.1 k.1 in cc

abbrev rest_of : List Token → List Token
rest_of [] = []
rest_of (t ∷ ts) = ts

abbrev token_at : ℕ → List Token → Token
token_at n ts = get_or ts n []

pub one_field : (tokens : List Token) → IsSingle (SaysField tokens)
one_field tokens n m h k =
    let same : h.0 ≡ k.0 = ap (token_at 1) (sym h.1 ∙ k.1) in
    let P : Token → Type 0 = λ t. IsHex t n in
    one_hex k.0 n m (subst P same h.2) k.2

pub one_tower : (tokens : List Token) → IsSingle (SaysTower tokens)
one_tower tokens n m h k =
    let same : h.0 ≡ k.0 = ap rest_of (sym h.1 ∙ k.1) in
    let P : List Token → Type 0 = λ ts. AllZip SaysElement ts n in
    one_zip k.0 n m (subst P same h.3) k.3

-- the role by the first byte of its token
abbrev role_at : ℕ → Role
role_at n = if n == 105 then Input else (if n == 115 then State else (if n == 102 then Fed else Output))

role_back : (token : Token) (role : Role) → SaysRole token role → role_at (get_or token 0 0) ≡ role
role_back token Input h = ap (λ t. role_at (get_or t 0 0)) h
role_back token State h = ap (λ t. role_at (get_or t 0 0)) h
role_back token Fed h = ap (λ t. role_at (get_or t 0 0)) h
role_back token Output h = ap (λ t. role_at (get_or t 0 0)) h

one_role : (token : Token) → IsSingle (SaysRole token)
one_role token a b h k = sym (role_back token a h) ∙ role_back token b k

abbrev version_at : ℕ → Version
version_at n = if n == 49 then version.One else version.Two

version_back : (tokens : List Token) (v : Version) → SaysVersion tokens v → version_at (get_or (token_at 1 tokens) 0 0) ≡ v
version_back tokens version.One h = ap (λ ts. version_at (get_or (token_at 1 ts) 0 0)) h
version_back tokens version.Two h = ap (λ ts. version_at (get_or (token_at 1 ts) 0 0)) h

pub one_version : (tokens : List Token) → IsSingle (SaysVersion tokens)
one_version tokens a b h k = sym (version_back tokens a h) ∙ version_back tokens b k

one_normal : (token : Token) → IsSingle (IsNormalOf token)
one_normal token (Normal n) (Normal m) h k = ap Normal (one_element token n m h k)
one_normal token Poly b h k = absurd h
one_normal token (Elements xs) b h k = absurd h
one_normal token (Normal n) Poly h k = absurd k
one_normal token (Normal n) (Elements ys) h k = absurd k

one_list : (token : Token) → IsSingle (IsListOf token)
one_list token (Elements xs) (Elements ys) h k = ap Elements (one_zip (slice_split (λ b. b == 44) token) xs ys h k)
one_list token Poly b h k = absurd h
one_list token (Normal n) b h k = absurd h
one_list token (Elements xs) Poly h k = absurd k
one_list token (Elements xs) (Normal n) h k = absurd k

one_basis : (token : Token) → IsSingle (SaysBasis token)
one_basis token a b h k = elim h [
  | inl p ↦ elim k [
    | inl q ↦ p.1 ∙ sym q.1
    | inr w ↦ elim w [ inl q ↦ absurd (poly_normal q.0 (sym p.0 ∙ q.1)) | inr q ↦ absurd (poly_list q.0 (sym p.0 ∙ q.1)) ]
  ]
  | inr v ↦ elim v [
    | inl p ↦ elim k [
      | inl q ↦ absurd (poly_normal p.0 (sym q.0 ∙ p.1))
      | inr w ↦ elim w [
        | inl q ↦ let same : p.0 ≡ q.0 = behind_normal p.0 q.0 (sym p.1 ∙ q.1) in let P : Token → Type 0 = λ t. IsNormalOf t a in one_normal q.0 a b (subst P same p.2) q.2
        | inr q ↦ absurd (normal_list p.0 q.0 (sym p.1 ∙ q.1))
      ]
    ]
    | inr p ↦ elim k [
      | inl q ↦ absurd (poly_list p.0 (sym q.0 ∙ p.1))
      | inr w ↦ elim w [
        | inl q ↦ absurd (normal_list q.0 p.0 (sym q.1 ∙ p.1))
        | inr q ↦ let same : p.0 ≡ q.0 = behind_list p.0 q.0 (sym p.1 ∙ q.1) in let P : Token → Type 0 = λ t. IsListOf t a in one_list q.0 a b (subst P same p.2) q.2
      ]
    ]
  ]
]

word_parts : (n m : ℕ) (x y : List ℕ) (r s : Role) (b d : BasisText) (xs ys : List (List ℕ)) → n ≡ m → x ≡ y → r ≡ s → b ≡ d → xs ≡ ys → ◌≡◌ {A = WordText} (record { line = n; name = x; role = r; basis = b; nets = xs }) (record { line = m; name = y; role = s; basis = d; nets = ys })
word_parts n m x y r s b d xs ys h1 h2 h3 h4 h5 = cc

one_word : (line : Line) → IsSingle (λ word. SaysWord line.tokens word × (word.line ≡ line.number))
one_word line a b h k =
    let same = sym h.0.tokens_are ∙ k.0.tokens_are in
    let P : Token → Type 0 = λ t. SaysRole t a.role in
    let Q : Token → Type 0 = λ t. SaysBasis t a.basis in
    word_parts a.line b.line a.name b.name a.role b.role a.basis b.basis a.nets b.nets (h.1 ∙ sym k.1) (ap (token_at 1) same)
    (one_role k.0.role a.role b.role (subst P (ap (token_at 2) same) h.0.is_role) k.0.is_role)
    (one_basis k.0.basis a.basis b.basis (subst Q (ap (token_at 3) same) h.0.is_basis) k.0.is_basis)
    (ap (λ ts. rest_of (rest_of (rest_of (rest_of ts)))) same)

one_decimal : (token : Token) (n m : ℕ) → IsDecimal token n → IsDecimal token m → n ≡ m
one_decimal token n m h k = h.1 ∙ sym k.1

one_bit : (token word name : Token) (place other : ℕ) → SaysBit token word place → SaysBit token name other → (word ≡ name) × (place ≡ other)
one_bit token word name place other h k =
    let are = parts_are token (word ++ codes "[" ++ h.digits) word h.digits name other k h.token_is refl (name_free word h.is_name) in
    let P : Token → Type 0 = λ t. IsDecimal t place in
    (are.0, one_decimal k.digits place other (subst P are.1 h.is_place) k.is_place)

one_source : (token : Token) → IsSingle (SaysSource token)
one_source token Zero Zero h k = refl
one_source token Zero One h k = let same : 48 ≡ 49 = ap (λ t. get_or t 0 0) (sym h ∙ k) in absurd (omega (arith, same))
one_source token Zero (Bit word place) h k = let P : Token → Type 0 = λ t. SaysBit t word place in absurd (one_byte 48 word place (subst P h k))
one_source token One Zero h k = let same : 49 ≡ 48 = ap (λ t. get_or t 0 0) (sym h ∙ k) in absurd (omega (arith, same))
one_source token One One h k = refl
one_source token One (Bit word place) h k = let P : Token → Type 0 = λ t. SaysBit t word place in absurd (one_byte 49 word place (subst P h k))
one_source token (Bit word place) Zero h k = let P : Token → Type 0 = λ t. SaysBit t word place in absurd (one_byte 48 word place (subst P k h))
one_source token (Bit word place) One h k = let P : Token → Type 0 = λ t. SaysBit t word place in absurd (one_byte 49 word place (subst P k h))
one_source token (Bit word place) (Bit name other) h k = let same = one_bit token word name place other h k in rw (same.0, same.1) refl

feed_parts : (x y : List ℕ) (n m : ℕ) (s t : SourceText) → x ≡ y → n ≡ m → s ≡ t → ◌≡◌ {A = FeedLine} (record { net = x; cycle = n; source = s }) (record { net = y; cycle = m; source = t })
feed_parts x y n m s t h1 h2 h3 = cc

one_feed : (tokens : List Token) → IsSingle (SaysFeed tokens)
one_feed tokens a b h k =
    let same = sym h.tokens_are ∙ k.tokens_are in
    let P : Token → Type 0 = λ t. IsDecimal t a.cycle in
    let Q : Token → Type 0 = λ t. SaysSource t a.source in
    feed_parts a.net b.net a.cycle b.cycle a.source b.source (ap (token_at 1) same)
    (one_decimal k.cycle a.cycle b.cycle (subst P (ap (token_at 2) same) h.is_cycle) k.is_cycle)
    (one_source k.source a.source b.source (subst Q (ap (token_at 3) same) h.is_source) k.is_source)

pub one_entry : (line : Line) → IsSingle (SaysEntry line)
one_entry line (entry.Word a) (entry.Word b) h k = ap entry.Word (one_word line a b h k)
one_entry line (entry.Feed a) (entry.Feed b) h k = ap entry.Feed (one_feed line.tokens a b h k)
one_entry line (entry.Block a) (entry.Block b) h k = ap (λ ts. entry.Block (token_at 1 ts)) (sym h.0 ∙ k.0)
one_entry line (entry.Word a) (entry.Feed b) h k = let n = other_kind line (entry.Word a) (entry.Feed b) h k in absurd (omega (arith, n))
one_entry line (entry.Word a) (entry.Block b) h k = let n = other_kind line (entry.Word a) (entry.Block b) h k in absurd (omega (arith, n))
one_entry line (entry.Feed a) (entry.Word b) h k = let n = other_kind line (entry.Feed a) (entry.Word b) h k in absurd (omega (arith, n))
one_entry line (entry.Feed a) (entry.Block b) h k = let n = other_kind line (entry.Feed a) (entry.Block b) h k in absurd (omega (arith, n))
one_entry line (entry.Block a) (entry.Word b) h k = let n = other_kind line (entry.Block a) (entry.Word b) h k in absurd (omega (arith, n))
one_entry line (entry.Block a) (entry.Feed b) h k = let n = other_kind line (entry.Block a) (entry.Feed b) h k in absurd (omega (arith, n))

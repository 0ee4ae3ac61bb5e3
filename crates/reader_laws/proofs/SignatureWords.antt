-- What the head and the words of a signature say is decided: a value that a line says, or that it says none.
use Rattle.std.proofs.Common.{◌≡◌, ◌≢◌, ◌∙◌, ap, sym, refl, subst, inl, inr, ℕ, ◌<◌, ◌≤◌, ◌^◌, ◌==◌, List, [], ◌∷◌, codes, drop, get_or, length, arith}
use Rattle.std.specs.Prelude.{All}
use Rattle.std.specs.List.{slice_split, AllZip}
use Rattle.std.proofs.lemmas.Bool.{cases_eq}
use Rattle.text_core.specs.Names.{IsName}
use Rattle.text_core.specs.Numbers.{IsHex}
use Rattle.net_words.specs.declared.word.Role.{Role}
use Rattle.net_words.specs.declared.word.Role.TheVariants.{Input, State, Fed, Output}
use Rattle.net_words.specs.declared.word.BasisText.{BasisText}
use Rattle.net_words.specs.declared.word.BasisText.TheVariants.{Poly, Normal, Elements}
use Rattle.net_words.specs.declared.word.WordText.{WordText}
use Rattle.net_signature.specs.Lines.{Token}
use Rattle.net_signature.specs.Statement.{SaysVersion, SaysField, SaysElement, SaysTower, SaysRole, IsNetCount, IsNormalOf, IsListOf, SaysBasis, IsNetToken, SaysWord}
use Rattle.net_signature.specs.declared.version.Version.{Version}
use Rattle.net_signature.specs.declared.version.Version.TheVariants as version
use Rattle.net_signature.proofs.BasisLemmas.{normal-none}
use Rattle.reader_laws.proofs.DecidedLemmas.{IsDecided, both_decided, moved_decided, less_decided, most_decided, even_decided, bytes_decided, tokens_decided, all_decided, behind_decided, hex_decided, name_decided}

-- it says a value, or it says none
abbrev pub IsSaidOr : {A : Type 0} → (A → Type 0) → Type 0
IsSaidOr {A} says = IsDecided ((value : A) × says value)

abbrev first_token : List Token → Token
first_token tokens = get_or tokens 0 []

-- ---- the head

no_version : (tokens : List Token) → (tokens ≡ codes "gfsig" ∷ codes "1" ∷ [] → ⊥) → (tokens ≡ codes "gfsig" ∷ codes "2" ∷ [] → ⊥) → (value : Version) → SaysVersion tokens value → ⊥
no_version tokens other another version.One says = other says
no_version tokens other another version.Two says = another says

pub version_decided : (tokens : List Token) → IsSaidOr (SaysVersion tokens)
version_decided tokens =
    elim (tokens_decided tokens (codes "gfsig" ∷ codes "1" ∷ [])) [
      | inl is ↦ inl (version.One, is)
      | inr other ↦ elim (tokens_decided tokens (codes "gfsig" ∷ codes "2" ∷ [])) [
        | inl is ↦ inl (version.Two, is)
        | inr another ↦ inr (λ is. no_version tokens other another is.0 is.1)
      ]
    ]

-- the keyword stands first, and what stands behind it says a value
module _ (keyword : Token) (Q : List Token → Type 0) (each : (rest : List Token) → IsDecided (Q rest)) where
  pub after_keyword : (tokens : List Token) → IsDecided ((rest : List Token) × (tokens ≡ keyword ∷ rest) × Q rest)
  after_keyword [] = inr (λ is. omega (arith, ap length is.1))
  after_keyword (token ∷ tokens) =
      elim (bytes_decided token keyword) [
        | inl first ↦ elim (each tokens) [
          | inl holds ↦ inl (tokens, (λ i. first i ∷ tokens), holds)
          | inr other ↦ inr (λ is. let same : tokens ≡ is.0 = ap (λ (ts : List Token). drop 1 ts) is.1 in other (subst Q (sym same) is.2))
        ]
        | inr other ↦ inr (λ is. other (ap first_token is.1))
      ]

-- what stands behind `field`
abbrev FieldRest : List Token → Type 0
FieldRest rest = (token : Token) × (rest ≡ token ∷ []) × ((n : ℕ) × (IsHex token n × (n < 2 ^ 128)))

field_rest : (rest : List Token) → IsDecided (FieldRest rest)
field_rest [] = inr (λ is. omega (arith, ap length is.1))
field_rest (token ∷ another ∷ rest) = inr (λ is. omega (arith, ap length is.1))
field_rest (token ∷ []) =
    moved_decided (λ found. (token, refl, found)) (λ is. let same : token ≡ is.0 = ap first_token is.1 in let P : Token → Type 0 = λ t. (n : ℕ) × (IsHex t n × (n < 2 ^ 128)) in subst P (sym same) is.2) (hex_decided (2 ^ 128) token)

pub field_decided : (tokens : List Token) → IsSaidOr (SaysField tokens)
field_decided tokens =
    moved_decided
    (λ (is : (rest : List Token) × (tokens ≡ codes "field" ∷ rest) × FieldRest rest). (is.2.2.0, (is.2.0, is.1 ∙ ap (λ ts. codes "field" ∷ ts) is.2.1, is.2.2.1.0, is.2.2.1.1)))
    (λ (is : (n : ℕ) × SaysField tokens n). (is.1.0 ∷ [], is.1.1, (is.1.0, refl, (is.0, (is.1.2, is.1.3)))))
    (after_keyword (codes "field") FieldRest field_rest tokens)

no_first : (token : Token) (tokens : List Token) → ((value : ℕ) × SaysElement token value → ⊥) → (list : List ℕ) → AllZip SaysElement (token ∷ tokens) list → ⊥
no_first token tokens other [] zip = zip
no_first token tokens other (x ∷ xs) zip = other (x, zip.0)

no_later : (token : Token) (tokens : List Token) → ((list : List ℕ) × AllZip SaysElement tokens list → ⊥) → (list : List ℕ) → AllZip SaysElement (token ∷ tokens) list → ⊥
no_later token tokens other [] zip = zip
no_later token tokens other (x ∷ xs) zip = other (xs, zip.1)

pub elements_decided : (tokens : List Token) → IsSaidOr (AllZip SaysElement tokens)
elements_decided [] = inl ([], tt)
elements_decided (token ∷ tokens) =
    elim (hex_decided (2 ^ 64) token) [
      | inl first ↦ elim (elements_decided tokens) [
        | inl rest ↦ inl (first.0 ∷ rest.0, (first.1, rest.1))
        | inr other ↦ inr (λ is. no_later token tokens other is.0 is.1)
      ]
      | inr other ↦ inr (λ is. no_first token tokens other is.0 is.1)
    ]

abbrev TowerRest : List Token → Type 0
TowerRest rest = (0 < length rest) × ((list : List ℕ) × AllZip SaysElement rest list)

pub tower_decided : (tokens : List Token) → IsSaidOr (SaysTower tokens)
tower_decided tokens =
    moved_decided
    (λ (is : (rest : List Token) × (tokens ≡ codes "tower" ∷ rest) × TowerRest rest). (is.2.1.0, (is.0, is.1, is.2.0, is.2.1.1)))
    (λ (is : (list : List ℕ) × SaysTower tokens list). (is.1.0, is.1.1, (is.1.2, (is.0, is.1.3))))
    (after_keyword (codes "tower") TowerRest (λ rest. both_decided (less_decided 0 (length rest)) (elements_decided rest)) tokens)

-- ---- words

count_decided : (role : Role) (count : ℕ) → IsDecided (IsNetCount role count)
count_decided Input count = less_decided 0 count
count_decided State count = less_decided 0 count
count_decided Fed count = even_decided count 0
count_decided Output count = less_decided 0 count

named_decided : (token : Token) (role : Role) → IsDecided (SaysRole token role)
named_decided token Input = bytes_decided token (codes "input")
named_decided token State = bytes_decided token (codes "state")
named_decided token Fed = bytes_decided token (codes "fed")
named_decided token Output = bytes_decided token (codes "output")

-- the role that a token says, at which so many nets may stand
abbrev RoleAt : Token → ℕ → Role → Type 0
RoleAt token count role = SaysRole token role × IsNetCount role count

no_role : (token : Token) (count : ℕ) → (RoleAt token count Input → ⊥) → (RoleAt token count State → ⊥) → (RoleAt token count Fed → ⊥) → (RoleAt token count Output → ⊥) → (role : Role) → RoleAt token count role → ⊥
no_role token count a b c d Input is = a is
no_role token count a b c d State is = b is
no_role token count a b c d Fed is = c is
no_role token count a b c d Output is = d is

role_decided : (token : Token) (count : ℕ) → IsSaidOr (RoleAt token count)
role_decided token count =
    elim (at Input) [
      | inl is ↦ inl (Input, is)
      | inr a ↦ elim (at State) [
        | inl is ↦ inl (State, is)
        | inr b ↦ elim (at Fed) [
          | inl is ↦ inl (Fed, is)
          | inr c ↦ elim (at Output) [ inl is ↦ inl (Output, is) | inr d ↦ inr (λ is. no_role token count a b c d is.0 is.1) ]
        ]
      ]
    ]
  where
    at : (role : Role) → IsDecided (RoleAt token count role)
    at role = both_decided (named_decided token role) (count_decided role count)

normal_decided : (token : Token) → IsSaidOr (IsNormalOf token)
normal_decided token =
    elim (hex_decided (2 ^ 64) token) [
      | inl found ↦ inl (Normal found.0, found.1)
      | inr other ↦ inr (λ is. normal-none token (λ n says. other (n, says)) is.0 is.1)
    ]

no_list : (token : Token) → ((list : List ℕ) × AllZip SaysElement (slice_split (λ b. b == 44) token) list → ⊥) → (basis : BasisText) → IsListOf token basis → ⊥
no_list token other Poly is = is
no_list token other (Normal gamma) is = is
no_list token other (Elements list) is = other (list, is)

list_decided : (token : Token) → IsSaidOr (IsListOf token)
list_decided token =
    elim (elements_decided (slice_split (λ b. b == 44) token)) [
      | inl found ↦ inl (Elements found.0, found.1)
      | inr other ↦ inr (λ is. no_list token other is.0 is.1)
    ]

pub basis_decided : (token : Token) → IsSaidOr (SaysBasis token)
basis_decided token =
    elim (bytes_decided token (codes "poly")) [
      | inl is ↦ inl (Poly, inl (is, refl))
      | inr poly ↦ elim (behind_decided (codes "normal:") token (λ number. (basis : BasisText) × IsNormalOf number basis) normal_decided) [
        | inl found ↦ inl (found.2.0, inr (inl (found.0, found.1, found.2.1)))
        | inr normal ↦ elim (behind_decided (codes "list:") token (λ numbers. (basis : BasisText) × IsListOf numbers basis) list_decided) [
          | inl found ↦ inl (found.2.0, inr (inr (found.0, found.1, found.2.1)))
          | inr list ↦ inr (λ is. elim is.1 [
            | inl p ↦ poly p.0
            | inr more ↦ elim more [ inl n ↦ normal (n.0, n.1, (is.0, n.2)) | inr l ↦ list (l.0, l.1, (is.0, l.2)) ]
          ])
        ]
      ]
    ]

pub net_decided : (token : Token) → IsDecided (IsNetToken token)
net_decided token = both_decided (all_decided (λ b. (33 ≤ b) × (b ≤ 126) × (b ≢ 92)) plain token) (most_decided (length token) 255)
  where
    plain : (b : ℕ) → IsDecided ((33 ≤ b) × (b ≤ 126) × (b ≢ 92))
    plain b =
        elim (most_decided 33 b) [
          | inl low ↦ elim (most_decided b 126) [
            | inl high ↦ elim (cases_eq b 92) [ inl slash ↦ inr (λ is. is.2 slash) | inr other ↦ inl (low, high, other) ]
            | inr other ↦ inr (λ is. other is.1)
          ]
          | inr other ↦ inr (λ is. other is.0)
        ]

-- the tokens behind `word`
abbrev WordRest : List Token → Type 0
WordRest rest =
    (name : Token) × (role : Token) × (basis : Token) × (nets : List Token) × (rest ≡ name ∷ role ∷ basis ∷ nets)
    × IsName name × ((r : Role) × RoleAt role (length nets) r) × ((b : BasisText) × SaysBasis basis b) × All IsNetToken nets

abbrev WordParts : Token → Token → Token → List Token → Type 0
WordParts name role basis nets = IsName name × (((r : Role) × RoleAt role (length nets) r) × (((b : BasisText) × SaysBasis basis b) × All IsNetToken nets))

word_rest : (rest : List Token) → IsDecided (WordRest rest)
word_rest [] = inr (λ is. omega (arith, ap length is.4))
word_rest (name ∷ []) = inr (λ is. omega (arith, ap length is.4))
word_rest (name ∷ role ∷ []) = inr (λ is. omega (arith, ap length is.4))
word_rest (name ∷ role ∷ basis ∷ nets) =
    moved_decided there back (both_decided (name_decided name) (both_decided (role_decided role (length nets)) (both_decided (basis_decided basis) (all_decided IsNetToken net_decided nets))))
  where
    there : WordParts name role basis nets → WordRest (name ∷ role ∷ basis ∷ nets)
    there parts = (name, role, basis, nets, refl, parts.0, parts.1.0, parts.1.1.0, parts.1.1.1)

    back : WordRest (name ∷ role ∷ basis ∷ nets) → WordParts name role basis nets
    back is =
        let names : is.0 ≡ name = ap (λ (ts : List Token). get_or ts 0 []) (sym is.4) in
        let roles : is.1 ≡ role = ap (λ (ts : List Token). get_or ts 1 []) (sym is.4) in
        let bases : is.2 ≡ basis = ap (λ (ts : List Token). get_or ts 2 []) (sym is.4) in
        let rests : is.3 ≡ nets = ap (λ (ts : List Token). drop 3 ts) (sym is.4) in
        let N : Token → Type 0 = IsName in
        let R : Token → Type 0 = λ t. (r : Role) × RoleAt t (length nets) r in
        let S : List Token → Type 0 = λ ts. (r : Role) × RoleAt is.1 (length ts) r in
        let B : Token → Type 0 = λ t. (b : BasisText) × SaysBasis t b in
        let A : List Token → Type 0 = λ ts. All IsNetToken ts in
        (subst N names is.5, (subst R roles (subst S rests is.6), (subst B bases is.7, subst A rests is.8)))

pub word_decided : (number : ℕ) (tokens : List Token) → IsSaidOr (λ word. SaysWord tokens word × (word.line ≡ number))
word_decided number tokens = moved_decided there back (after_keyword (codes "word") WordRest word_rest tokens)
  where
    there : (rest : List Token) × (tokens ≡ codes "word" ∷ rest) × WordRest rest → (word : WordText) × (SaysWord tokens word × (word.line ≡ number))
    there is =
        let parts = is.2 in (
          record { line = number; name = parts.0; role = parts.6.0; basis = parts.7.0; nets = parts.3 },
          (
            record {
              role = parts.1;
              basis = parts.2;
              tokens_are = is.1 ∙ ap (λ ts. codes "word" ∷ ts) parts.4;
              is_name = parts.5;
              is_role = parts.6.1.0;
              is_basis = parts.7.1;
              some = parts.6.1.1;
              are_nets = parts.8;
            },
            refl,
          ),
        )

    back : (word : WordText) × (SaysWord tokens word × (word.line ≡ number)) → (rest : List Token) × (tokens ≡ codes "word" ∷ rest) × WordRest rest
    back is =
        let word = is.0 in
        let says = is.1.0 in
        (word.name ∷ says.role ∷ says.basis ∷ word.nets, says.tokens_are, (word.name, says.role, says.basis, word.nets, refl, says.is_name, (word.role, (says.is_role, says.some)), (word.basis, says.is_basis), says.are_nets))

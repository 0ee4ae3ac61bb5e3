-- Whether a signature has the form that a kind of netlist is made for is decided.
use Rattle.std.proofs.Common.{◌≡◌, ◌∙◌, ap, sym, refl, subst, inl, inr, ℕ, zero, suc, ◌<◌, ◌≤◌, ◌*◌, ◌+◌, ◌/◌, ◌%◌, ◌-◌, List, [], ◌∷◌, length, arith}
use Rattle.std.specs.Prelude.{get_or, All}
use Rattle.std.proofs.Math.Nat.{mul-le-mul_right, mul_comm, one-mul, zero-mul}
use Rattle.lists.specs.laws.HasLaws.{all_from, All_has}
use Rattle.make_nets.specs.Form.{role_count, AllAlike, AllPoly, HasWords}
use Rattle.make_nets.specs.MakerNames.{AreMakerNames}
use Rattle.make_nets.specs.Ports.{outer_names, word_names}
use Rattle.mult_composite.specs.Form.{HasCompositeForm}
use Rattle.mult_digit.specs.DigitForm.{digit_names, fed_names, AreDigitFeeds, AreDigitWords, HasDigitForm, IsDigitFeed, IsPolyWord}
use Rattle.mult_gen.specs.Form.{HasAdderForm, HasPolyForm, HasPorts}
use Rattle.mult_montgomery.specs.Form.{HasMontgomeryForm}
use Rattle.mult_normal.specs.NormalForm.{HasNormalForm}
use Rattle.net_signature.specs.Signature.{SignatureValue}
use Rattle.net_words.specs.declared.feed.FeedText.{FeedText}
use Rattle.net_words.specs.declared.feed.Source.{Source}
use Rattle.net_words.specs.declared.feed.Source.TheVariants.{Bit, One, Zero}
use Rattle.net_words.specs.declared.word.BasisText.{BasisText}
use Rattle.net_words.specs.declared.word.BasisText.TheVariants.{Elements, Normal, Poly}
use Rattle.net_words.specs.declared.word.Role.{Role}
use Rattle.net_words.specs.declared.word.Role.TheVariants.{Fed, Input, Output, State}
use Rattle.net_words.specs.declared.word.WordText.{WordText}
use Rattle.reader_laws.proofs.DecidedLemmas.{all_decided, both_decided, bytes_decided, even_decided, moved_decided, most_decided, IsDecided}
use Rattle.job_laws.proofs.Searches.{found_decided, not_decided}
use Rattle.answer_laws.proofs.NamesDecided.{empty_decided, maker_names_decided, places_decided}

-- ---- roles, bases and sources

role_number : Role → ℕ
role_number Input = 0
role_number State = 1
role_number Fed = 2
role_number Output = 3

role_numbered : (a b : Role) → role_number a ≡ role_number b → a ≡ b
unfolding role_number
role_numbered Input Input same = refl
role_numbered Input State same = absurd (omega (arith, same))
role_numbered Input Fed same = absurd (omega (arith, same))
role_numbered Input Output same = absurd (omega (arith, same))
role_numbered State Input same = absurd (omega (arith, same))
role_numbered State State same = refl
role_numbered State Fed same = absurd (omega (arith, same))
role_numbered State Output same = absurd (omega (arith, same))
role_numbered Fed Input same = absurd (omega (arith, same))
role_numbered Fed State same = absurd (omega (arith, same))
role_numbered Fed Fed same = refl
role_numbered Fed Output same = absurd (omega (arith, same))
role_numbered Output Input same = absurd (omega (arith, same))
role_numbered Output State same = absurd (omega (arith, same))
role_numbered Output Fed same = absurd (omega (arith, same))
role_numbered Output Output same = refl

role_decided : (a b : Role) → IsDecided (a ≡ b)
role_decided a b = moved_decided (role_numbered a b) (λ same. ap role_number same) (even_decided (role_number a) (role_number b))

basis_decided : (a b : BasisText) → IsDecided (a ≡ b)
basis_decided Poly Poly = inl refl
basis_decided Poly (Normal gamma) = inr (λ same. absurd (cc))
basis_decided Poly (Elements list) = inr (λ same. absurd (cc))
basis_decided (Normal gamma) Poly = inr (λ same. absurd (cc))
basis_decided (Normal gamma) (Normal delta) = moved_decided (λ same i. Normal (same i)) (λ same. let equal : gamma ≡ delta = cc in equal) (even_decided gamma delta)
basis_decided (Normal gamma) (Elements list) = inr (λ same. absurd (cc))
basis_decided (Elements list) Poly = inr (λ same. absurd (cc))
basis_decided (Elements list) (Normal gamma) = inr (λ same. absurd (cc))
basis_decided (Elements list) (Elements other) = moved_decided (λ same i. Elements (same i)) (λ same. let equal : list ≡ other = cc in equal) (bytes_decided list other)

source_decided : (a : Source) (place : ℕ) → IsDecided (a ≡ Bit 0 place)
source_decided Zero place = inr (λ same. absurd (cc))
source_decided One place = inr (λ same. absurd (cc))
source_decided (Bit word at) place =
    moved_decided (λ (same : (word ≡ 0) × (at ≡ place)) i. Bit (same.0 i) (same.1 i)) (λ same. let first : word ≡ 0 = cc in let second : at ≡ place = cc in (first, second)) (both_decided (even_decided word 0) (even_decided at place))

-- ---- words

poly_decided : (words : List WordText) → IsDecided (AllPoly words)
poly_decided words = all_decided (λ (word : WordText). word.basis ≡ Poly) (λ word. basis_decided word.basis Poly) words

alike_decided : (words : List WordText) → IsDecided (AllAlike words)
alike_decided [] = inl tt
alike_decided (first ∷ words) = all_decided (λ (word : WordText). first.basis ≡ word.basis) (λ word. basis_decided first.basis word.basis) words

words_decided : (role : Role) (count : ℕ) (words : List WordText) → IsDecided (HasWords role count words)
words_decided role count words =
    moved_decided (λ is. record { all = is.0; others = is.1.0; output = is.1.1 }) (λ (is : HasWords role count words). (is.all, (is.others, is.output)))
    (both_decided (even_decided (length words) (suc count)) (both_decided (even_decided (role_count role words) count) (even_decided (role_count Output words) 1)))

-- ---- forms

module _ (signature : SignatureValue) where
  abbrev words : List WordText
  words = signature.words

  ports_decided : (count : ℕ) → IsDecided (HasPorts count signature)
  ports_decided count =
      moved_decided (λ is. record { blocks = is.0; feeds = is.1.0; words = is.1.1.0; names = is.1.1.1 }) (λ (is : HasPorts count signature). (is.blocks, (is.feeds, (is.words, is.names))))
      (both_decided (empty_decided signature.blocks) (both_decided (empty_decided signature.feeds) (both_decided (words_decided Input count words) (maker_names_decided (outer_names words [])))))

  pub poly_form_decided : (count : ℕ) → IsDecided (HasPolyForm count signature)
  poly_form_decided count =
      moved_decided (λ is. record { tower = is.0; bases = is.1.0; ports = is.1.1 }) (λ (is : HasPolyForm count signature). (is.tower, (is.bases, is.ports)))
      (both_decided (empty_decided signature.tower) (both_decided (poly_decided words) (ports_decided count)))

  pub adder_form_decided : IsDecided (HasAdderForm signature)
  adder_form_decided = moved_decided (λ is. record { bases = is.0; ports = is.1 }) (λ (is : HasAdderForm signature). (is.bases, is.ports)) (both_decided (alike_decided words) (ports_decided 2))

  pub montgomery_form_decided : IsDecided (HasMontgomeryForm signature)
  montgomery_form_decided = moved_decided (λ is. record { poly = is.0; modulus = is.1 }) (λ (is : HasMontgomeryForm signature). (is.poly, is.modulus)) (both_decided (poly_form_decided 2) (not_decided (even_decided signature.modulus 2)))

  pub composite_form_decided : IsDecided (HasCompositeForm signature)
  composite_form_decided =
      moved_decided (λ is. record { tower = is.0; upper = is.1.0; bases = is.1.1.0; ports = is.1.1.1 }) (λ (is : HasCompositeForm signature). (is.tower, (is.upper, (is.bases, is.ports))))
      (both_decided (not_decided (empty_decided signature.tower)) (both_decided (empty_decided signature.upper) (both_decided (poly_decided words) (ports_decided 2))))

-- ---- a normal basis

-- all words are in the normal basis of one element
abbrev AreNormal : List WordText → Type 0
AreNormal words = (gamma : ℕ) × All (λ (word : WordText). word.basis ≡ Normal gamma) words

first_of : (word : WordText) (words : List WordText) (gamma : ℕ) → All (λ (w : WordText). w.basis ≡ Normal gamma) (word ∷ words) → word.basis ≡ Normal gamma
first_of word words gamma all = All_has (λ (w : WordText). w.basis ≡ Normal gamma) (word ∷ words) word all (0, refl)

by_first : (word : WordText) (words : List WordText) (basis : BasisText) → word.basis ≡ basis → IsDecided (AreNormal (word ∷ words))
by_first word words Poly is = inr (λ are. let same : ◌≡◌ {A = BasisText} Poly (Normal are.0) = sym is ∙ first_of word words are.0 are.1 in absurd (cc))
by_first word words (Elements list) is = inr (λ are. let same : ◌≡◌ {A = BasisText} (Elements list) (Normal are.0) = sym is ∙ first_of word words are.0 are.1 in absurd (cc))
by_first word words (Normal gamma) is =
    moved_decided (λ all. (gamma, all))
    (λ (are : AreNormal (word ∷ words)).
    let both : ◌≡◌ {A = BasisText} (Normal gamma) (Normal are.0) = sym is ∙ first_of word words are.0 are.1 in
    let same : are.0 ≡ gamma = cc in
    let P : ℕ → Type 0 = λ n. All (λ (w : WordText). w.basis ≡ Normal n) (word ∷ words) in
    subst P same are.1)
    (all_decided (λ (w : WordText). w.basis ≡ Normal gamma) (λ w. basis_decided w.basis (Normal gamma)) (word ∷ words))

normal_decided : (words : List WordText) → IsDecided (AreNormal words)
normal_decided [] = inl (0, all_from (λ (w : WordText). w.basis ≡ Normal 0) [] (λ w has. absurd (let got = has.1 in absurd (cc))))
normal_decided (word ∷ words) = by_first word words word.basis refl

pub normal_form_decided : (signature : SignatureValue) → IsDecided (HasNormalForm signature)
normal_form_decided signature =
    moved_decided (λ is. record { unfed = is.0; unblocked = is.1.0; words = is.1.1.0; gamma = is.1.1.1.0.0; bases = is.1.1.1.0.1; names = is.1.1.1.1 })
    (λ (is : HasNormalForm signature). (is.unfed, (is.unblocked, (is.words, ((is.gamma, is.bases), is.names)))))
    (both_decided (empty_decided signature.feeds)
    (both_decided (empty_decided signature.blocks) (both_decided (words_decided State 2 signature.words) (both_decided (normal_decided signature.words) (maker_names_decided (word_names signature.words))))))

-- ---- digits

poly_word_decided : (kind : Role) (word : WordText) → IsDecided (IsPolyWord kind word)
poly_word_decided kind word = moved_decided (λ is. record { role = is.0; basis = is.1 }) (λ (is : IsPolyWord kind word). (is.role, is.basis)) (both_decided (role_decided word.role kind) (basis_decided word.basis Poly))

-- the words of digits are as long as three are
three_long : (list : List WordText) → AreDigitWords list → length list ≡ 3
three_long list are = ap length are.are

abbrev AreThree : WordText → WordText → WordText → Type 0
AreThree a b z = IsPolyWord Fed a × (a.nets ≡ []) × IsPolyWord Input b × IsPolyWord Output z

three_are : (a b z : WordText) → AreDigitWords (a ∷ b ∷ z ∷ []) → AreThree a b z
three_are a b z are =
    let same = are.are in
    let first : are.a ≡ a = cc in
    let second : are.b ≡ b = cc in
    let third : are.z ≡ z = cc in
    let P : WordText → Type 0 = λ w. IsPolyWord Fed w × (w.nets ≡ []) in
    let Q : WordText → Type 0 = λ w. IsPolyWord Input w in
    let R : WordText → Type 0 = λ w. IsPolyWord Output w in
    let fed = subst P first (are.fed, are.none) in
    (fed.0, fed.1, subst Q second are.input, subst R third are.output)

digit_words_decided : (words : List WordText) → IsDecided (AreDigitWords words)
digit_words_decided [] = inr (λ are. omega (arith, three_long [] are))
digit_words_decided (a ∷ []) = inr (λ are. omega (arith, three_long (a ∷ []) are))
digit_words_decided (a ∷ b ∷ []) = inr (λ are. omega (arith, three_long (a ∷ b ∷ []) are))
digit_words_decided (a ∷ b ∷ z ∷ w ∷ more) = inr (λ are. omega (arith, three_long (a ∷ b ∷ z ∷ w ∷ more) are))
digit_words_decided (a ∷ b ∷ z ∷ []) =
    moved_decided (λ is. record { a = a; b = b; z = z; are = refl; fed = is.0; none = is.1.0; input = is.1.1.0; output = is.1.1.1 })
    (λ are. let three = three_are a b z are in (three.0, (three.1, (three.2, three.3))))
    (both_decided (poly_word_decided Fed a) (both_decided (empty_decided a.nets) (both_decided (poly_word_decided Input b) (poly_word_decided Output z))))

module _ (k : ℕ) (some : 1 ≤ k) (feeds : List FeedText) where
  feed_decided : (width i : ℕ) (feed : FeedText) → IsDecided (IsDigitFeed k width feeds i feed)
  feed_decided width i feed =
      moved_decided (λ is. record { cycle = is.0; source = is.1.0; net = is.1.1 }) (λ (is : IsDigitFeed k width feeds i feed). (is.cycle, (is.source, is.net)))
      (both_decided (even_decided feed.cycle (i / width)) (both_decided (source_decided feed.source (k - width * suc (i / width) + i % width)) (bytes_decided feed.net (get_or (fed_names feeds) (i % width) []))))

  -- neither is greater than the product
  count_low : (width count : ℕ) → 1 ≤ width → k ≡ width * count → count < suc k
  count_low width count wide whole =
      let more : 1 * count ≤ width * count = mul-le-mul_right {m = 1} {n = width} count wide in
      omega (arith, whole, more, one-mul count)

  width_below : (width count : ℕ) → k ≡ width * count → width < suc k
  width_below width zero whole = absurd (let none : width * 0 ≡ 0 = mul_comm width 0 ∙ zero-mul width in omega (arith, some, whole, none))
  width_below width (suc count) whole =
      let more : 1 * width ≤ suc count * width = mul-le-mul_right {m = 1} {n = suc count} width (omega arith) in
      omega (arith, whole, mul_comm width (suc count), more, one-mul width)

  feeds_decided : (width : ℕ) → IsDecided (AreDigitFeeds k width feeds)
  feeds_decided width =
      moved_decided (λ is. record { some = is.0; count = is.1.0.0; whole = is.1.0.2; long = is.1.1.0; each = is.1.1.1 })
      (λ (is : AreDigitFeeds k width feeds). (is.some, ((is.count, count_low width is.count is.some is.whole, is.whole), (is.long, is.each))))
      (both_decided (most_decided 1 width)
      (both_decided (found_decided (λ count. k ≡ width * count) (λ count. even_decided k (width * count)) (suc k)) (both_decided (even_decided (length feeds) k) (places_decided (IsDigitFeed k width feeds) (feed_decided width) feeds))))

module _ (k : ℕ) (some : 1 ≤ k) (signature : SignatureValue) where
  abbrev HasWidth : ℕ → Type 0
  HasWidth width = AreDigitFeeds k width signature.feeds × AreMakerNames (outer_names signature.words (digit_names width signature.feeds))

  width_decided : IsDecided ((width : ℕ) × (width < suc k) × HasWidth width)
  width_decided = found_decided HasWidth (λ width. both_decided (feeds_decided k some signature.feeds width) (maker_names_decided (outer_names signature.words (digit_names width signature.feeds)))) (suc k)

  pub digit_form_decided : IsDecided (HasDigitForm k signature)
  digit_form_decided =
      moved_decided (λ is. record { tower = is.0; upper = is.1.0; blocks = is.1.1.0; words = is.1.1.1.0; width = is.1.1.1.1.0; feeds = is.1.1.1.1.2.0; names = is.1.1.1.1.2.1 })
      (λ (is : HasDigitForm k signature). (is.tower, (is.upper, (is.blocks, (is.words, (is.width, width_below k some signature.feeds is.width is.feeds.count is.feeds.whole, (is.feeds, is.names)))))))
      (both_decided (empty_decided signature.tower) (both_decided (empty_decided signature.upper) (both_decided (empty_decided signature.blocks) (both_decided (digit_words_decided signature.words) width_decided))))

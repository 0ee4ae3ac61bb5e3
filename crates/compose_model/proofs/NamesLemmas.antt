-- Bound words stand on the nets of their names.
use Rattle.std.proofs.Common.{◌≡◌, ◌≢◌, ◌∙◌, ap, sym, refl, subst, ℕ, ◌+◌, Bool, true, false, not, if◌then◌else◌, List, [], ◌∷◌, ◌++◌, length, Option, None, Some, Ok, Err, append-nil, append_assoc}
use Rattle.std.specs.List.{AllByRecursion}
use Rattle.net_core.specs.NetList.{number_of, NetList}
use Rattle.net_words.specs.Bind.{bound_word, is_latch, names_with, place_net, taken_with, with_role, BindingOf, BoundOf, NetsOf}
use Rattle.net_words.specs.Binding.{Binding}
use Rattle.net_words.specs.Roles.{stands_in}
use Rattle.net_words.specs.declared.binding.BindFault.{BindFault}
use Rattle.net_words.specs.declared.binding.BindFault.TheVariants.{NotInput, NotLatch, NetTwice}
use Rattle.net_words.specs.declared.bound.BoundWord.{BoundWord}
use Rattle.net_words.specs.declared.word.Role.{Role}
use Rattle.net_words.specs.declared.word.Role.TheVariants.{Input, State, Fed, Output}
use Rattle.net_words.specs.declared.word.WordText.{WordText}

-- the nets have these names, one by one
abbrev pub HaveNumbers : NetList → List (List ℕ) → List ℕ → Type 0
HaveNumbers net [] [] = Unit {0}
HaveNumbers net [] (n ∷ ns) = ⊥
HaveNumbers net (name ∷ names) [] = ⊥
HaveNumbers net (name ∷ names) (n ∷ ns) = (number_of net name ≡ Some n) × HaveNumbers net names ns

-- the words are bound to the nets of their names, one by one
abbrev pub AreBound : NetList → List WordText → List BoundWord → Type 0
AreBound net [] [] = Unit {0}
AreBound net [] (b ∷ bs) = ⊥
AreBound net (w ∷ ws) [] = ⊥
AreBound net (w ∷ ws) (b ∷ bs) = (b.role ≡ w.role) × HaveNumbers net w.nets b.nets × AreBound net ws bs

abbrev pub AreUnfed : List WordText → Type 0
AreUnfed words = AllByRecursion (λ (word : WordText). word.role ≢ Fed) words

pub numbers_append : (net : NetList) (xs ys : List (List ℕ)) (ns ms : List ℕ) → HaveNumbers net xs ns → HaveNumbers net ys ms → HaveNumbers net (xs ++ ys) (ns ++ ms)
numbers_append net [] ys [] ms a b = b
numbers_append net [] ys (n ∷ ns) ms a b = absurd a
numbers_append net (x ∷ xs) ys [] ms a b = absurd a
numbers_append net (x ∷ xs) ys (n ∷ ns) ms a b = (a.0, numbers_append net xs ys ns ms a.1 b)

-- ---- places

picked : (a b : Bool) (x y : BindFault) (m n : ℕ) → Ok n ≡ (if a then Err x else if b then Err y else Ok m) → m ≡ n
picked true b x y m n e = absurd (cc)
picked false true x y m n e = absurd (cc)
picked false false x y m n e = cc

role_number : (net : NetList) (word place : ℕ) (taken : List ℕ) (role : Role) (m n : ℕ) → Ok n ≡ with_role net word place taken role m → m ≡ n
role_number net word place taken Input m n e = picked (not (stands_in net.inputs m)) (stands_in taken m) (NotInput word place) (NetTwice m) m n e
role_number net word place taken State m n e = picked (not (is_latch net m)) (stands_in taken m) (NotLatch word place) (NetTwice m) m n e
role_number net word place taken Fed m n e = absurd (cc)
role_number net word place taken Output m n e = cc

place_number : (net : NetList) (word place : ℕ) (taken : List ℕ) (role : Role) (found : Option ℕ) (n : ℕ) → Ok n ≡ place_net net word place taken role found → found ≡ Some n
place_number net word place taken role None n e = absurd (cc)
place_number net word place taken role (Some m) n e = ap Some (role_number net word place taken role m n e)

-- ---- words

nets_named : (net : NetList) (word : ℕ) (role : Role) (taken before : List ℕ) (names : List (List ℕ)) (whole : List ℕ × List ℕ) → NetsOf net word role taken before names (Ok whole) → (ns : List ℕ) × (whole.0 ≡ before ++ ns) × HaveNumbers net names ns
nets_named net word role taken before [] whole is = ([], ap (λ (m : List ℕ × List ℕ). m.0) is ∙ sym (append-nil before), tt)
nets_named net word role taken before (name ∷ names) whole (n, got, rest) =
    let more = nets_named net word role (taken_with role n taken) (before ++ n ∷ []) names whole rest in
    (n ∷ more.0, more.1 ∙ append_assoc before (n ∷ []) more.0, (place_number net word (length before) taken role (number_of net name) n got, more.2))

names_of : (role : Role) (names : List (List ℕ)) → role ≢ Fed → names_with role names ≡ names
names_of Input names other = refl
names_of State names other = refl
names_of Fed names other = absurd (other refl)
names_of Output names other = refl

words_named : (net : NetList) (taken : List ℕ) (before : List BoundWord) (words : List WordText) (whole : List BoundWord × List ℕ) → AreUnfed words → BoundOf net taken before words (Ok whole) → (bs : List BoundWord) × (whole.0 ≡ before ++ bs) × AreBound net words bs
words_named net taken before [] whole unfed is = ([], ap (λ (m : List BoundWord × List ℕ). m.0) is ∙ sym (append-nil before), tt)
words_named net taken before (word ∷ words) whole unfed (list, own, rest) =
    let one = nets_named net (length before) word.role taken [] (names_with word.role word.nets) list own in
    let more = words_named net list.1 (before ++ bound_word word list.0 ∷ []) words whole unfed.1 rest in
    let P : List ℕ → Type 0 = HaveNumbers net (names_with word.role word.nets) in
    let Q : List (List ℕ) → Type 0 = λ names. HaveNumbers net names list.0 in
    let here : HaveNumbers net word.nets list.0 = subst Q (names_of word.role word.nets unfed.0) (subst P (sym one.1) one.2) in
    (bound_word word list.0 ∷ more.0, more.1 ∙ append_assoc before (bound_word word list.0 ∷ []) more.0, (refl, here, more.2))

-- what comes of binding words to a net list, where nothing is fed
pub binding_named : (net : NetList) (words : List WordText) (binding : Binding) → AreUnfed words → BindingOf net words [] (Ok binding) → AreBound net words binding.words
binding_named net words binding unfed (bound, is, rest) =
    let found = words_named net [] [] words bound unfed is in
    let P : List BoundWord → Type 0 = AreBound net words in
    let same : binding.words ≡ bound.0 = ap (λ (b : Binding). b.words) rest.2.2.2 in
    subst P (sym (same ∙ found.1)) found.2

pub binding_unfed : (net : NetList) (words : List WordText) (binding : Binding) → BindingOf net words [] (Ok binding) → binding.feeds ≡ []
binding_unfed net words binding (bound, is, rest) = ap (λ (b : Binding). b.feeds) rest.2.2.2 ∙ rest.1

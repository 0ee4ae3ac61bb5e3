-- Loops over lists, one element after another.
use Rattle.std.proofs.Common.{◌≡◌, ◌≢◌, ◌∙◌, ap, sym, refl, subst, ℕ, zero, suc, ◌<◌, ◌≤◌, ◌+◌, Bool, true, false, ◌&&◌, ◌||◌, ◌⊎◌, inl, inr, List, [], ◌∷◌, ◌++◌, length, take, drop, map, Some, if◌then◌else◌, arith, add-one, append-nil, append_assoc, length-append, drop_of_length-le}
use Rattle.std.specs.Prelude.{slice_get, is_some}
use Rattle.std.specs.List.{list_any}
use Rattle.std.specs.Str.{bytes_eq}
use Rattle.std.proofs.lemmas.List.Elements.{filter-append}
use Rattle.std.proofs.lemmas.List.Folds.{list_any-append}
use Rattle.lists.specs.laws.ListLaws.{length-push}
use Rattle.lists.specs.laws.ReadLaws.{get_front, get_here, got_push}
use Rattle.lists.specs.laws.TakeLaws.{dropped_at, taken_as_long, taken_more}
use Rattle.net_words.specs.Roles.{same_role}
use Rattle.net_words.specs.declared.word.Role.TheVariants.{Output}
use Rattle.net_words.specs.declared.word.WordText.{WordText}
use Rattle.net_blif.specs.Instances.{is_among}
use Rattle.net_blif.specs.Statement.{Token}
use Rattle.net_blif.specs.Connection.{formal_of}
use Rattle.net_blif.specs.Table.{no_numbers, with_number, Numbers}
use Rattle.gf_basis.specs.BasisParts.{elements_of}
use Rattle.gf_basis.specs.declared.bases.Basis.{Basis}
use Rattle.compose_model.specs.NamedWord.{inputs_among, named_words, outputs_among, NamedWord}
use Rattle.compose_model.specs.declared.feeder.Feeder.TheVariants.{InputWord}
use Rattle.compose_wiring.specs.private.Names.{place_from, same_names}
use Rattle.compose_wiring.specs.private.Plain.{output_by, output_candidates, word_candidates, ArePlaced, CandidateValue, PlacedValue}
use Rattle.compose_wiring.specs.private.Words.{in_some, Knows}
use Rattle.compose_wiring.proofs.WordsLemmas.{inputs_more}

-- ---- lists

-- one element more was pushed
pub pushed : {A : Type 0} (xs : List A) (p : ℕ) (x : A) (old new : List A) → slice_get xs p ≡ Some x → old ≡ take p xs → new ≡ old ++ x ∷ [] → new ≡ take (p + 1) xs
pushed xs p x old new got is made = made ∙ ap (λ ys. ys ++ x ∷ []) is ∙ sym (taken_more xs p x got)

pub mapped_more : {A B : Type 0} (f : A → B) (xs : List A) (p : ℕ) (x : A) (old new : List B) → slice_get xs p ≡ Some x → old ≡ map f (take p xs) → new ≡ old ++ f x ∷ [] → new ≡ map f (take (p + 1) xs)
mapped_more f xs p x old new got is made = made ∙ ap (λ ys. ys ++ f x ∷ []) is ∙ sym (ap (map f) (taken_more xs p x got) ∙ joined (take p xs))
  where
    joined : (ys : List _) → map f (ys ++ x ∷ []) ≡ map f ys ++ f x ∷ []
    joined [] = refl
    joined (y ∷ ys) = ap (λ zs. f y ∷ zs) (joined ys)

past_end : {A : Type 0} (xs : List A) (p : ℕ) → length xs ≤ p → drop p xs ≡ []
past_end xs p past = drop_of_length-le xs {i = p} past

-- ---- the same, place by place

pub same_here : (xs ys : List Token) (p : ℕ) (x y : Token) (whole : Bool) → slice_get xs p ≡ Some x → slice_get ys p ≡ Some y → whole ≡ same_names (drop p xs) (drop p ys) → bytes_eq x y ≡ true → whole ≡ same_names (drop (p + 1) xs) (drop (p + 1) ys)
same_here xs ys p x y whole got_x got_y is same =
    is ∙ (λ i. same_names (dropped_at xs p x got_x i) (dropped_at ys p y got_y i)) ∙ ap (λ b. b && same_names (drop (suc p) xs) (drop (suc p) ys)) same ∙ ap (λ n. same_names (drop n xs) (drop n ys)) (sym (add-one p))

pub same_not : (xs ys : List Token) (p : ℕ) (x y : Token) (whole : Bool) → slice_get xs p ≡ Some x → slice_get ys p ≡ Some y → whole ≡ same_names (drop p xs) (drop p ys) → bytes_eq x y ≡ false → whole ≡ false
same_not xs ys p x y whole got_x got_y is other =
    is ∙ (λ i. same_names (dropped_at xs p x got_x i) (dropped_at ys p y got_y i)) ∙ ap (λ b. b && same_names (drop (suc p) xs) (drop (suc p) ys)) other

pub same_long : (xs ys : List Token) → same_names xs ys ≡ true → length xs ≡ length ys
same_long [] [] e = refl
same_long [] (y ∷ ys) e = absurd (cc)
same_long (x ∷ xs) [] e = absurd (cc)
same_long (x ∷ xs) (y ∷ ys) e = parts (bytes_eq x y) e (same_long xs ys)
  where
    parts : (b : Bool) → (b && same_names xs ys) ≡ true → (same_names xs ys ≡ true → length xs ≡ length ys) → length (x ∷ xs) ≡ length (y ∷ ys)
    parts true more given = ap suc (given more)
    parts false more given = absurd (cc)

pub long_other : (xs ys : List Token) → length xs ≢ length ys → same_names xs ys ≡ false
long_other xs ys other = parts (same_names xs ys) refl
  where
    parts : (b : Bool) → same_names xs ys ≡ b → same_names xs ys ≡ false
    parts true e = absurd (other (same_long xs ys e))
    parts false e = e

-- ---- places of formals

pub place_before : (connections : List Token) (n p : ℕ) (connection formal : Token) (old new : Numbers) → n ≡ p + 1 → slice_get connections p ≡ Some connection → old ≡ place_from n (drop n connections) → new ≡ with_number old formal p → formal ≡ formal_of connection
    → new ≡ place_from p (drop p connections)
place_before connections n p connection formal old new after got is made named =
    let here : drop p connections ≡ connection ∷ drop n connections = dropped_at connections p connection got ∙ ap (λ m. connection ∷ drop m connections) (sym (after ∙ add-one p)) in
    made ∙ ap (λ f. with_number f formal p) (is ∙ ap (λ m. place_from m (drop n connections)) after) ∙ ap (λ f. with_number (place_from (p + 1) (drop n connections)) f p) named ∙ ap (place_from p) (sym here)

pub no_place : (connections : List Token) (n : ℕ) → length connections ≤ n → no_numbers ≡ place_from n (drop n connections)
no_place connections n past = ap (place_from n) (sym (past_end connections n past))

-- ---- words

pub named_more : (words : List WordText) (bases : List Basis) (p : ℕ) (word : WordText) (basis : Basis) (x : NamedWord) (old new : List NamedWord) → slice_get words p ≡ Some word → slice_get bases p ≡ Some basis → x ≡ record { role = word.role; nets = word.nets; basis = elements_of basis }
    → old ≡ named_words (take p words) (map elements_of (take p bases)) → new ≡ old ++ x ∷ [] → new ≡ named_words (take (p + 1) words) (map elements_of (take (p + 1) bases))
named_more words bases p word basis x old new at_word at_basis named is made =
    made ∙ ap (λ ys. ys ++ x ∷ []) is ∙ ap (λ y. named_words (take p words) (map elements_of (take p bases)) ++ y ∷ []) named ∙ sym (ap (λ n. named_words (take n words) (map elements_of (take n bases))) (add-one p) ∙ from words bases p at_word at_basis)
  where
    from : (ws : List WordText) (bs : List Basis) (n : ℕ) → slice_get ws n ≡ Some word → slice_get bs n ≡ Some basis → named_words (take (suc n) ws) (map elements_of (take (suc n) bs)) ≡ named_words (take n ws) (map elements_of (take n bs)) ++ record { role = word.role; nets = word.nets; basis = elements_of basis } ∷ []
    from [] bs n a b = absurd (cc)
    from (w ∷ ws) [] n a b = absurd (cc)
    from (w ∷ ws) (v ∷ bs) zero a b = let same : w ≡ word = cc in let also : v ≡ basis = cc in λ i. record { role = WordText.role (same i); nets = WordText.nets (same i); basis = elements_of (also i) } ∷ []
    from (w ∷ ws) (v ∷ bs) (suc n) a b = ap (λ ys. record { role = w.role; nets = w.nets; basis = elements_of v } ∷ ys) (from ws bs n a b)

or_swapped : (a b c d : Bool) → a ≡ (b || c) → c ≡ d → a ≡ (d || b)
or_swapped a b c d is same = is ∙ ap (λ e. b || e) same ∙ swap b d
  where
    swap : (x y : Bool) → (x || y) ≡ (y || x)
    swap true true = refl
    swap true false = refl
    swap false true = refl
    swap false false = refl

-- the table knows one name more
pub known_more : (names : List Token) (p : ℕ) (name : Token) (first old new : Numbers) → slice_get names p ≡ Some name → ((q : Token) → is_some (old q) ≡ (is_among (take p names) q || is_some (first q))) → new ≡ with_number old name 0
    → (q : Token) → is_some (new q) ≡ (is_among (take (p + 1) names) q || is_some (first q))
known_more names p name first old new got are made q =
    ap (λ (f : Numbers). is_some (f q)) made
    ∙ by (bytes_eq name q) (is_among (take p names) q) (are q)
    ∙ sym (ap (λ ns. is_among ns q || is_some (first q)) (taken_more names p name got) ∙ ap (λ b. b || is_some (first q)) (list_any-append (λ other. bytes_eq other q) (take p names) (name ∷ [])))
  where
    by : (b c : Bool) → is_some (old q) ≡ (c || is_some (first q)) → is_some (if b then Some 0 else old q) ≡ ((c || (b || false)) || is_some (first q))
    by true true is = refl
    by true false is = refl
    by false true is = is
    by false false is = is

-- the table knows the nets of one word more
pub inputs_known : (words : List NamedWord) (p : ℕ) (word : NamedWord) (old new : Numbers) → slice_get words p ≡ Some word → Knows (in_some (inputs_among (take p words))) old → ((q : Token) → is_some (new q) ≡ (in_some (inputs_among (word ∷ [])) q || is_some (old q)))
    → Knows (in_some (inputs_among (take (p + 1) words))) new
inputs_known words p word old new got knows made q =
    or_swapped (is_some (new q)) (in_some (inputs_among (word ∷ [])) q) (is_some (old q)) (in_some (inputs_among (take p words)) q) (made q) (knows q)
    ∙ sym (ap (λ ws. in_some ws q) (inputs_more words p word got) ∙ list_any-append (λ (w : NamedWord). is_among w.nets q) (inputs_among (take p words)) (inputs_among (word ∷ [])))

-- one word more has no known net
pub mixed_later : (test : NamedWord → Bool) (words : List NamedWord) (p : ℕ) (word : NamedWord) (whole : Bool) → slice_get words p ≡ Some word → whole ≡ list_any test (outputs_among (drop p words)) → list_any test (outputs_among (word ∷ [])) ≡ false → whole ≡ list_any test (outputs_among (drop (p + 1) words))
mixed_later test words p word whole got is none =
    is ∙ ap (λ ws. list_any test (outputs_among ws)) (dropped_at words p word got) ∙ ap (list_any test) (filter-append (λ (w : NamedWord). same_role w.role Output) (word ∷ []) (drop (suc p) words)) ∙ list_any-append test (outputs_among (word ∷ [])) (outputs_among (drop (suc p) words))
    ∙ ap (λ b. b || list_any test (outputs_among (drop (suc p) words))) none ∙ ap (λ n. list_any test (outputs_among (drop n words))) (sym (add-one p))

pub mixed_here : (test : NamedWord → Bool) (words : List NamedWord) (p : ℕ) (word : NamedWord) (whole : Bool) → slice_get words p ≡ Some word → whole ≡ list_any test (outputs_among (drop p words)) → list_any test (outputs_among (word ∷ [])) ≡ true → whole ≡ true
mixed_here test words p word whole got is some =
    is ∙ ap (λ ws. list_any test (outputs_among ws)) (dropped_at words p word got) ∙ ap (list_any test) (filter-append (λ (w : NamedWord). same_role w.role Output) (word ∷ []) (drop (suc p) words)) ∙ list_any-append test (outputs_among (word ∷ [])) (outputs_among (drop (suc p) words))
    ∙ ap (λ b. b || list_any test (outputs_among (drop (suc p) words))) some

-- the outputs are among the words that are left
pub outputs_later : (words : List NamedWord) (p : ℕ) (word : NamedWord) → slice_get words p ≡ Some word → outputs_among (drop p words) ≡ outputs_among words → same_role word.role Output ≡ false → outputs_among (drop (p + 1) words) ≡ outputs_among words
outputs_later words p word got is other =
    ap (λ n. outputs_among (drop n words)) (add-one p) ∙ sym (ap outputs_among (dropped_at words p word got) ∙ ap (λ b. if b then word ∷ outputs_among (drop (suc p) words) else outputs_among (drop (suc p) words)) other) ∙ is

pub outputs_here : (words : List NamedWord) (p : ℕ) (word : NamedWord) → slice_get words p ≡ Some word → outputs_among (drop p words) ≡ outputs_among words → length (outputs_among words) ≡ 1 → same_role word.role Output ≡ true → outputs_among words ≡ word ∷ []
outputs_here words p word got is one output =
    let here : outputs_among words ≡ word ∷ outputs_among (drop (suc p) words) = sym is ∙ ap outputs_among (dropped_at words p word got) ∙ ap (λ b. if b then word ∷ outputs_among (drop (suc p) words) else outputs_among (drop (suc p) words)) output in
    here ∙ alone (outputs_among (drop (suc p) words)) (sym (ap length here) ∙ one)
  where
    alone : (ws : List NamedWord) → suc (length ws) ≡ 1 → word ∷ ws ≡ word ∷ []
    alone [] e = refl
    alone (w ∷ ws) e = absurd (omega (arith, e))

-- ---- candidates

candidates_append : (n : ℕ) (xs ys : List NamedWord) → word_candidates n (xs ++ ys) ≡ word_candidates n xs ++ word_candidates (n + length xs) ys
candidates_append n [] ys = let place : n ≡ n + 0 = omega arith in ap (λ m. word_candidates m ys) place
candidates_append n (x ∷ xs) ys =
    let place : (n + 1) + length xs ≡ n + suc (length xs) = omega arith in
    ap (λ zs. record { feed = InputWord n; nets = x.nets; basis = x.basis } ∷ zs) (candidates_append (n + 1) xs ys ∙ ap (λ m. word_candidates (n + 1) xs ++ word_candidates m ys) place)

-- one word of the top more
pub words_more : (top : List NamedWord) (p number more : ℕ) (word : NamedWord) (front old new : List CandidateValue) → slice_get top p ≡ Some word → old ≡ front ++ word_candidates 0 (inputs_among (take p top)) → number ≡ length (inputs_among (take p top))
    → new ≡ old ++ word_candidates number (inputs_among (word ∷ [])) → more ≡ length (inputs_among (word ∷ [])) → (new ≡ front ++ word_candidates 0 (inputs_among (take (p + 1) top))) × (number + more ≡ length (inputs_among (take (p + 1) top)))
words_more top p number more word front old new got is counted made one =
    let split : inputs_among (take (p + 1) top) ≡ inputs_among (take p top) ++ inputs_among (word ∷ []) = inputs_more top p word got in
    let before : List NamedWord = inputs_among (take p top) in
    let last : List NamedWord = inputs_among (word ∷ []) in
    let place : length before ≡ 0 + length before = omega arith in (
      made ∙ (λ i. is i ++ word_candidates (counted i) last) ∙ append_assoc front (word_candidates 0 before) (word_candidates (length before) last) ∙ ap (λ m. front ++ (word_candidates 0 before ++ word_candidates m last)) place ∙ ap (λ cs. front ++ cs) (sym (ap (word_candidates 0) split ∙ candidates_append 0 before last)),
      omega (arith, counted, one, ap length split, length-append before last),
    )

-- one instance more
outputs_append : (n : ℕ) (xs ys : List PlacedValue) → output_candidates n (xs ++ ys) ≡ output_candidates n xs ++ output_candidates (n + length xs) ys
outputs_append n [] ys = let place : n ≡ n + 0 = omega arith in ap (λ m. output_candidates m ys) place
outputs_append n (x ∷ xs) ys =
    let place : (n + 1) + length xs ≡ n + suc (length xs) = omega arith in
    let here : List CandidateValue = output_by n x.connections (outputs_among x.words) in
    ap (λ zs. here ++ zs) (outputs_append (n + 1) xs ys ∙ ap (λ m. output_candidates (n + 1) xs ++ output_candidates m ys) place) ∙ sym (append_assoc here (output_candidates (n + 1) xs) (output_candidates (n + suc (length xs)) ys))

pub outputs_more : (placed : List PlacedValue) (p : ℕ) (instance : PlacedValue) (front old new : List CandidateValue) → slice_get placed p ≡ Some instance → old ≡ front ++ output_candidates 0 (take p placed) → new ≡ old ++ output_by p instance.connections (outputs_among instance.words)
    → new ≡ front ++ output_candidates 0 (take (p + 1) placed)
outputs_more placed p instance front old new got is made =
    let one : List CandidateValue = output_by p instance.connections (outputs_among instance.words) in
    let place : 0 + length (take p placed) ≡ p = omega (arith, taken_as_long placed p instance got) in
    let last : output_candidates (0 + length (take p placed)) (instance ∷ []) ≡ one = ap (λ m. output_candidates m (instance ∷ [])) place ∙ append-nil one in
    made ∙ ap (λ cs. cs ++ one) is ∙ append_assoc front (output_candidates 0 (take p placed)) one
    ∙ ap (λ cs. front ++ cs) (sym (ap (output_candidates 0) (taken_more placed p instance got) ∙ outputs_append 0 (take p placed) (instance ∷ []) ∙ ap (λ cs. output_candidates 0 (take p placed) ++ cs) last))

-- ---- blocks and instances

pub placed_more : (blocks : List (List NamedWord)) (numbers : List ℕ) (connections : List (List Token)) (p number : ℕ) (mine : List Token) (words : List NamedWord) (instance : PlacedValue) (old new : List PlacedValue) → slice_get connections p ≡ Some mine → slice_get numbers p ≡ Some number → slice_get blocks number ≡ Some words → instance ≡ record { connections = mine; words = words }
    → ArePlaced blocks numbers (take p connections) old → new ≡ old ++ instance ∷ [] → ArePlaced blocks numbers (take (p + 1) connections) new
placed_more blocks numbers connections p number mine words instance old new at at_number at_words is are made =
    let P : List (List Token) → Type 0 = λ cs. ArePlaced blocks numbers cs new in
    let Q : List PlacedValue → Type 0 = λ xs. ArePlaced blocks numbers (take p connections ++ mine ∷ []) xs in
    subst P (sym (taken_more connections p mine at)) (subst Q (sym made) (record { long = length-push old instance ∙ ap (λ n. n + 1) are.long ∙ sym (length-push (take p connections) mine); each = each }))
  where
    each : (i : ℕ) (x : PlacedValue) → slice_get (old ++ instance ∷ []) i ≡ Some x → (slice_get (take p connections ++ mine ∷ []) i ≡ Some x.connections) × ((n : ℕ) × (slice_get numbers i ≡ Some n) × (slice_get blocks n ≡ Some x.words))
    each i x at_i = cases (got_push old instance i x at_i)
      where
        cases : ((slice_get old i ≡ Some x) × (i < length old)) ⊎ ((i ≡ length old) × (x ≡ instance)) → (slice_get (take p connections ++ mine ∷ []) i ≡ Some x.connections) × ((n : ℕ) × (slice_get numbers i ≡ Some n) × (slice_get blocks n ≡ Some x.words))
        cases (inl early) = let known = are.each i x early.0 in (get_front (take p connections) (mine ∷ []) i x.connections known.0, known.1)
        cases (inr last) =
            let place : i ≡ length (take p connections) = last.0 ∙ are.long in
            let here : i ≡ p = place ∙ taken_as_long connections p mine at in
            let value : x ≡ record { connections = mine; words = words } = last.1 ∙ is in (
              ap (slice_get (take p connections ++ mine ∷ [])) place ∙ get_here (take p connections) mine [] ∙ ap (λ (y : PlacedValue). Some y.connections) (sym value),
              (number, ap (slice_get numbers) here ∙ at_number, at_words ∙ ap (λ (y : PlacedValue). Some y.words) (sym value)),
            )

-- The labels of words, word by word.
use Rattle.std.proofs.Common.{◌≡◌, ◌≢◌, ◌∙◌, ap, sym, refl, subst, ℕ, zero, suc, ◌<◌, ◌≤◌, ◌+◌, not, cond, List, [], ◌∷◌, ◌++◌, length, map, take, filter, Some, arith, append-nil}
use Rattle.std.specs.Prelude.{slice_get}
use Rattle.std.proofs.lemmas.List.{append_assoc, length-append}
use Rattle.net_words.specs.Roles.{is_output, input_count}
use Rattle.net_signature.specs.WordNames.{HaveNames}
use Rattle.net_words.specs.declared.word.Role.{Role}
use Rattle.net_words.specs.declared.word.Role.TheVariants.{Input, State, Fed, Output}
use Rattle.net_words.specs.declared.word.WordText.{WordText}
use Rattle.poly_mixed.specs.Labels.{Differs}
use Rattle.job_input.specs.Labelling.{word_label, word_labels, IsNewLabel}

pub label_more : (k : ℕ) (words : List WordText) (i : ℕ) (word : WordText) → slice_get words i ≡ Some word → word_labels k (take (i + 1) words) ≡ word_labels k (take i words) ++ word_label word.role word.name k
label_more k words i word at = let up : i + 1 ≡ suc i = omega arith in ap (λ n. word_labels k (take n words)) up ∙ more words i at
  where
    more : (us : List WordText) (j : ℕ) → slice_get us j ≡ Some word → word_labels k (take (suc j) us) ≡ word_labels k (take j us) ++ word_label word.role word.name k
    more [] j got = absurd (cc)
    more (u ∷ us) zero got = let same : u ≡ word = cc in append-nil (word_label u.role u.name k) ∙ ap (λ (w : WordText). word_label w.role w.name k) same
    more (u ∷ us) (suc j) got = ap (λ ls. word_label u.role u.name k ++ ls) (more us j got) ∙ sym (append_assoc (word_label u.role u.name k) (word_labels k (take j us)) (word_label word.role word.name k))

taken : (words : List WordText) (n j : ℕ) (u : WordText) → slice_get (take n words) j ≡ Some u → (j < n) × (slice_get words j ≡ Some u)
taken [] zero j u got = absurd (cc)
taken [] (suc n) j u got = absurd (cc)
taken (w ∷ ws) zero j u got = absurd (cc)
taken (w ∷ ws) (suc n) zero u got = (omega arith, got)
taken (w ∷ ws) (suc n) (suc j) u got = let rest = taken ws n j u got in (omega (arith, rest.0), rest.1)

differs_both : (x : List ℕ) (xs ys : List (List ℕ)) → Differs x xs → Differs x ys → Differs x (xs ++ ys)
differs_both x [] ys a b = b
differs_both x (y ∷ xs) ys a b = (a.0, differs_both x xs ys a.1 b)

map_append : (xs ys : List (List ℕ × ℕ)) → map (λ w. w.0) (xs ++ ys) ≡ map (λ w. w.0) xs ++ map (λ w. w.0) ys
map_append [] ys = refl
map_append (x ∷ xs) ys = ap (λ zs. x.0 ∷ zs) (map_append xs ys)

-- a name that no word has is no label of a word
pub differs : (k : ℕ) (name : List ℕ) (us : List WordText) → ((j : ℕ) (u : WordText) → slice_get us j ≡ Some u → name ≢ u.name) → Differs name (map (λ w. w.0) (word_labels k us))
differs k name [] apart = tt
differs k name (u ∷ us) apart =
    let P : List (List ℕ) → Type 0 = λ xs. Differs name xs in
    subst P (sym (map_append (word_label u.role u.name k) (word_labels k us)))
    (differs_both name (map (λ w. w.0) (word_label u.role u.name k)) (map (λ w. w.0) (word_labels k us)) (own u.role) (differs k name us (λ j v got. apart (suc j) v got)))
  where
    own : (r : Role) → Differs name (map (λ w. w.0) (word_label r u.name k))
    own Input = (apart 0 u refl, tt)
    own State = (apart 0 u refl, tt)
    own Fed = (apart 0 u refl, tt)
    own Output = tt

-- how many labels and inputs a word with this role adds
more_inputs : Role → ℕ
more_inputs Input = 1
more_inputs State = 1
more_inputs Fed = 1
more_inputs Output = 0

count_step : (word : WordText) (words : List WordText) (r : Role) → word.role ≡ r → input_count (word ∷ words) ≡ more_inputs r + input_count words
unfolding more_inputs
count_step word words Input is = (λ i. length (cond (not (is_output (record word { role = is i }))) (word ∷ filter (λ w. not (is_output w)) words) (filter (λ w. not (is_output w)) words))) ∙ (let e : suc (input_count words) ≡ 1 + input_count words = omega arith in e)
count_step word words State is = (λ i. length (cond (not (is_output (record word { role = is i }))) (word ∷ filter (λ w. not (is_output w)) words) (filter (λ w. not (is_output w)) words))) ∙ (let e : suc (input_count words) ≡ 1 + input_count words = omega arith in e)
count_step word words Fed is = (λ i. length (cond (not (is_output (record word { role = is i }))) (word ∷ filter (λ w. not (is_output w)) words) (filter (λ w. not (is_output w)) words))) ∙ (let e : suc (input_count words) ≡ 1 + input_count words = omega arith in e)
count_step word words Output is = (λ i. length (cond (not (is_output (record word { role = is i }))) (word ∷ filter (λ w. not (is_output w)) words) (filter (λ w. not (is_output w)) words))) ∙ (let e : input_count words ≡ 0 + input_count words = omega arith in e)

-- there are as many labels as input and state words
pub labels_long : (k : ℕ) (us : List WordText) → length (word_labels k us) ≡ input_count us
unfolding more_inputs
labels_long k [] = refl
labels_long k (u ∷ us) =
    length-append (word_label u.role u.name k) (word_labels k us)
    ∙ ((λ i. own u.role i + labels_long k us i) ∙ sym (count_step u us u.role refl))
  where
    own : (r : Role) → length (word_label r u.name k) ≡ more_inputs r
    own Input = refl
    own State = refl
    own Fed = refl
    own Output = refl

fewer : (words : List WordText) (i : ℕ) (word : WordText) → slice_get words i ≡ Some word → more_inputs word.role + input_count (take i words) ≤ input_count words
fewer [] i word got = absurd (cc)
fewer (u ∷ us) zero word got =
    let same : u ≡ word = cc in
    let e : more_inputs u.role ≡ more_inputs word.role = ap (λ (w : WordText). more_inputs w.role) same in
    let c = count_step u us u.role refl in
    let z : input_count [] ≡ 0 = refl in
    omega arith
fewer (u ∷ us) (suc i) word got =
    let c = count_step u us u.role refl in
    let d = count_step u (take i us) u.role refl in
    let rest = fewer us i word got in
    omega arith

-- a word that adds a label has a new name, and there is room for it
pub new_label : (k : ℕ) (words : List WordText) (i : ℕ) (word : WordText) → HaveNames words → input_count words ≤ 8 → slice_get words i ≡ Some word → IsNewLabel word.role word.name (word_labels k (take i words))
unfolding more_inputs
new_label k words i word names few at = by word.role refl
  where
    apart : Differs word.name (map (λ w. w.0) (word_labels k (take i words)))
    apart = differs k word.name (take i words) (λ j u got same.
        let before = taken words i j u got in
        let place : i ≡ j = names.apart i j word u at before.1 same in
        let less = before.0 in
        absurd (omega arith))

    room : (r : Role) → word.role ≡ r → 1 ≤ more_inputs r → length (word_labels k (take i words)) < 8
    room r is some =
        let count = fewer words i word at in
        let long = labels_long k (take i words) in
        let e : more_inputs word.role ≡ more_inputs r = ap more_inputs is in
        omega arith

    by : (r : Role) → word.role ≡ r → IsNewLabel word.role word.name (word_labels k (take i words))
    by Input is = let P : Role → Type 0 = λ q. IsNewLabel q word.name (word_labels k (take i words)) in subst P (sym is) (apart, room Input is (omega arith))
    by State is = let P : Role → Type 0 = λ q. IsNewLabel q word.name (word_labels k (take i words)) in subst P (sym is) (apart, room State is (omega arith))
    by Fed is = let P : Role → Type 0 = λ q. IsNewLabel q word.name (word_labels k (take i words)) in subst P (sym is) (apart, room Fed is (omega arith))
    by Output is = let P : Role → Type 0 = λ q. IsNewLabel q word.name (word_labels k (take i words)) in subst P (sym is) tt

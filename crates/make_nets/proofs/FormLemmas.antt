-- Words of one role and one output word: their nets and the words of their job.
use Rattle.std.proofs.Common.{◌≡◌, ◌≢◌, ◌⊎◌, ◌∙◌, ap, sym, refl, subst, inl, inr, ℕ, zero, suc, ◌<◌, ◌≤◌, ◌+◌, ◌*◌, Bool, true, false, cond, List, [], ◌∷◌, ◌++◌, length, map, filter, arith}
use Rattle.std.specs.List.{range_with_len}
use Rattle.std.proofs.lemmas.Bool.{cases_lt}
use Rattle.lists.specs.Lists.{Has, times}
use Rattle.lists.specs.laws.HasLaws.{times_append, times_none, range_has, range_once}
use Rattle.net_words.specs.BoundTo.{output_bits, output_bits_with}
use Rattle.net_words.specs.Roles.{is_output, same_role}
use Rattle.net_words.specs.declared.word.Role.{Role}
use Rattle.net_words.specs.declared.word.Role.TheVariants.{Input, State, Fed, Output}
use Rattle.net_words.specs.declared.word.WordText.{WordText}
use Rattle.circuit_model.specs.JobOfBinding.{job_word_with, job_words_of}
use Rattle.circuit_model.specs.OfBinding.{output_basis, output_basis_with}
use Rattle.circuit_model.specs.Word.{Word}
use Rattle.make_nets.proofs.LabelLemmas.{append_long, range_long}
use Rattle.make_nets.specs.Form.{HasWords, AllWide, role_count, same_bases}
use Rattle.make_nets.specs.Ports.{numbered, role_nets, word_names}
use Rattle.make_nets.proofs.WordLists.{all_of, lists_of}
use Rattle.make_nets.proofs.MakeLemmas.{role_low}
use Rattle.net_words.proofs.SharedLemmas.{same_self}

-- the word has this role, or is the output word
abbrev pub OneOf : Role → List WordText → Type 0
OneOf role words = (word : WordText) → Has words word → (word.role ≡ role) ⊎ (word.role ≡ Output)

rest_of : (role : Role) (word : WordText) (words : List WordText) → OneOf role (word ∷ words) → OneOf role words
rest_of role word words one w has = one w (suc has.0, has.1)

same_is : (a b : Role) → same_role a b ≡ true → a ≡ b
same_is Input Input e = refl
same_is Input State e = absurd (cc)
same_is Input Fed e = absurd (cc)
same_is Input Output e = absurd (cc)
same_is State Input e = absurd (cc)
same_is State State e = refl
same_is State Fed e = absurd (cc)
same_is State Output e = absurd (cc)
same_is Fed Input e = absurd (cc)
same_is Fed State e = absurd (cc)
same_is Fed Fed e = refl
same_is Fed Output e = absurd (cc)
same_is Output Input e = absurd (cc)
same_is Output State e = absurd (cc)
same_is Output Fed e = absurd (cc)
same_is Output Output e = refl

count_more : (role : Role) (word : WordText) (words : List WordText) → role_count role (word ∷ words) ≡ cond (same_role word.role role) 1 0 + role_count role words
count_more role word words = elim (same_role word.role role) as (λ b. length (cond b (word ∷ filter (λ (w : WordText). same_role w.role role) words) (filter (λ (w : WordText). same_role w.role role) words)) ≡ cond b 1 0 + role_count role words) [ true ↦ omega arith | false ↦ omega arith ]

at_most_one : (a role : Role) → role ≢ Output → ◌≤◌ (cond (same_role a role) 1 0 + cond (same_role a Output) 1 0) 1
at_most_one a role other = by (same_role a role) (same_role a Output) refl refl
  where
    by : (p q : Bool) → same_role a role ≡ p → same_role a Output ≡ q → ◌≤◌ (cond p 1 0 + cond q 1 0) 1
    by true true e f = absurd (other (sym (same_is a role e) ∙ same_is a Output f))
    by true false e f = omega arith
    by false true e f = omega arith
    by false false e f = omega arith

few_counts : (role : Role) (words : List WordText) → role ≢ Output → role_count role words + role_count Output words ≤ length words
few_counts role [] other = omega arith
few_counts role (word ∷ words) other = omega (arith, count_more role word words, count_more Output word words, at_most_one word.role role other, few_counts role words other)

one_of : (role : Role) (words : List WordText) → role ≢ Output → role_count role words + role_count Output words ≡ length words → OneOf role words
one_of role [] other all w has = absurd (let got = has.1 in cc)
one_of role (word ∷ words) other all w (zero, got) =
    let same : word ≡ w = cc in
    let one : ◌≡◌ {A = ℕ} (cond (same_role word.role role) 1 0 + cond (same_role word.role Output) 1 0) 1 = omega (arith, count_more role word words, count_more Output word words, at_most_one word.role role other, few_counts role words other, all) in
    let P : WordText → Type 0 = λ x. (x.role ≡ role) ⊎ (x.role ≡ Output) in
    subst P same (by (same_role word.role role) (same_role word.role Output) refl refl one)
  where
    by : (p q : Bool) → same_role word.role role ≡ p → same_role word.role Output ≡ q → ◌≡◌ {A = ℕ} (cond p 1 0 + cond q 1 0) 1 → (word.role ≡ role) ⊎ (word.role ≡ Output)
    by true q e f h = inl (same_is word.role role e)
    by false true e f h = inr (same_is word.role Output f)
    by false false e f h = absurd (omega (arith, h))
one_of role (word ∷ words) other all w (suc k, got) =
    one_of role words other (omega (arith, count_more role word words, count_more Output word words, at_most_one word.role role other, few_counts role words other, all)) w (k, got)

pub words_one_of : (role : Role) (count : ℕ) (words : List WordText) → role ≢ Output → HasWords role count words → OneOf role words
words_one_of role count words other has = one_of role words other (omega (arith, has.all, has.others, has.output))

not_same : (a b : Role) → a ≢ b → same_role a b ≡ false
not_same a b other = elim (same_role a b) as (λ c. same_role a b ≡ c → c ≡ false) [ true ↦ λ e. absurd (other (same_is a b e)) | false ↦ λ e. refl ] refl

-- how the first word's role is tested
own_role : (role other : Role) (word : WordText) → word.role ≡ role → role ≢ other → (same_role word.role role ≡ true) × (same_role word.role other ≡ false)
own_role role other word is apart = (ap (λ r. same_role r role) is ∙ same_self role, ap (λ r. same_role r other) is ∙ not_same role other apart)

output_first : (role : Role) (word : WordText) → word.role ≡ Output → role ≢ Output → (same_role word.role role ≡ false) × (same_role word.role Output ≡ true)
output_first role word is apart = (ap (λ r. same_role r role) is ∙ not_same Output role (λ e. apart (sym e)), ap (λ r. same_role r Output) is ∙ refl)

-- the nets of the words of the role are those of the words that are no output word
pub nets_of_lists : (role : Role) (m : ℕ) (words : List WordText) → role ≢ Output → OneOf role words → role_nets role m words ≡ all_of (lists_of m words)
nets_of_lists role m [] apart one = refl
nets_of_lists role m (word ∷ words) apart one =
    let rest = nets_of_lists role (m + length word.nets) words apart (rest_of role word words one) in
    elim (one word (0, refl)) [
      | inl is ↦ let h = own_role role Output word is apart in rw (h.0, h.1) (ap (λ (v : List ℕ). range_with_len m (length word.nets) ++ v) rest)
      | inr is ↦ let h = output_first role word is apart in rw (h.0, h.1) rest
    ]

pub lists_long : (role : Role) (m : ℕ) (words : List WordText) → role ≢ Output → OneOf role words → length (lists_of m words) ≡ role_count role words
lists_long role m [] apart one = refl
lists_long role m (word ∷ words) apart one =
    let rest = lists_long role (m + length word.nets) words apart (rest_of role word words one) in
    elim (one word (0, refl)) [
      | inl is ↦ let h = own_role role Output word is apart in rw (h.0, h.1) (ap suc rest)
      | inr is ↦ let h = output_first role word is apart in rw (h.0, h.1) rest
    ]

wide_rest : (k : ℕ) (word : WordText) (words : List WordText) → AllWide k (word ∷ words) → AllWide k words
wide_rest k word words wide w has = wide w (suc has.0, has.1)

pub lists_wide : (k m : ℕ) (words : List WordText) → AllWide k words → (list : List ℕ) → Has (lists_of m words) list → length list ≡ k
lists_wide k m [] wide list has = absurd (let got = has.1 in cc)
lists_wide k m (word ∷ words) wide list has =
    by (is_output word) (lists_wide k (m + length word.nets) words (wide_rest k word words wide)) has
  where
    by : (b : Bool) → ((l : List ℕ) → Has (lists_of (m + length word.nets) words) l → length l ≡ k) → Has (cond b [] (range_with_len m (length word.nets) ∷ []) ++ lists_of (m + length word.nets) words) list → length list ≡ k
    by true rest h = rest list h
    by false rest (zero, got) = let same : range_with_len m (length word.nets) ≡ list = cc in omega (arith, ap (λ (v : List ℕ). length v) same, range_long m (length word.nets), wide word (0, refl))
    by false rest (suc i, got) = rest list (i, got)

-- the words of the job
pub job_words : (role : Role) (m : ℕ) (words : List WordText) (basis : List ℕ) → role ≢ Output → OneOf role words → job_words_of (numbered m words) (same_bases basis words) ≡ map (λ list. record { role = role; nets = list; basis = basis }) (lists_of m words)
job_words role m [] basis apart one = refl
job_words role m (word ∷ words) basis apart one =
    let rest = job_words role (m + length word.nets) words basis apart (rest_of role word words one) in
    let nets : List ℕ = range_with_len m (length word.nets) in
    elim (one word (0, refl)) [
      | inl is ↦ let h = own_role role Output word is apart in rw h.1 (ap (λ (r : Role). job_word_with r nets basis ++ job_words_of (numbered (m + length word.nets) words) (same_bases basis words)) is ∙ (ap (λ (v : List Word). v ++ job_words_of (numbered (m + length word.nets) words) (same_bases basis words)) (inner role apart nets) ∙ ap (λ (v : List Word). record { role = role; nets = nets; basis = basis } ∷ v) rest))
      | inr is ↦ let h = output_first role word is apart in rw h.1 (ap (λ (r : Role). job_word_with r nets basis ++ job_words_of (numbered (m + length word.nets) words) (same_bases basis words)) is ∙ rest)
    ]
  where
    inner : (r : Role) → r ≢ Output → (nets : List ℕ) → job_word_with r nets basis ≡ record { role = r; nets = nets; basis = basis } ∷ []
    inner Input other nets = refl
    inner State other nets = refl
    inner Fed other nets = refl
    inner Output other nets = absurd (other refl)

-- the nets of the output word
pub output_nets : (m : ℕ) (words : List WordText) → output_bits (numbered m words) ≡ role_nets Output m words
output_nets m [] = refl
output_nets m (word ∷ words) =
    ap (λ (v : List ℕ). output_bits_with word.role (range_with_len m (length word.nets)) ++ v) (output_nets (m + length word.nets) words)
    ∙ ap (λ (v : List ℕ). v ++ role_nets Output (m + length word.nets) words) (by word.role (range_with_len m (length word.nets)))
  where
    by : (r : Role) (nets : List ℕ) → output_bits_with r nets ≡ cond (same_role r Output) nets []
    by Input nets = refl
    by State nets = refl
    by Fed nets = refl
    by Output nets = refl

-- its basis
pub basis_is : (m n : ℕ) (words : List WordText) (basis : List ℕ) → role_count Output words ≡ suc n → output_basis (numbered m words) (same_bases basis words) ≡ basis
basis_is m n [] basis count = absurd (omega arith)
basis_is m n (word ∷ words) basis count = by word.role refl (λ e. basis_is (m + length word.nets) n words basis (omega (arith, count, count_more Output word words, none (same_role word.role Output) e)))
  where
    none : (b : Bool) → b ≡ false → ◌≡◌ {A = ℕ} (cond b 1 0) 0
    none b e = rw e refl

    by : (r : Role) → word.role ≡ r → (same_role word.role Output ≡ false → output_basis (numbered (m + length word.nets) words) (same_bases basis words) ≡ basis) → output_basis_with r basis (output_basis (numbered (m + length word.nets) words) (same_bases basis words)) ≡ basis
    by Input is rest = rest (ap (λ r. same_role r Output) is)
    by State is rest = rest (ap (λ r. same_role r Output) is)
    by Fed is rest = rest (ap (λ r. same_role r Output) is)
    by Output is rest = refl

-- no word has another role
pub no_nets : (role other : Role) (m : ℕ) (words : List WordText) → other ≢ role → other ≢ Output → OneOf role words → role_nets other m words ≡ []
no_nets role other m [] apart none one = refl
no_nets role other m (word ∷ words) apart none one =
    let miss : same_role word.role other ≡ false = elim (one word (0, refl)) [
      | inl is ↦ ap (λ r. same_role r other) is ∙ not_same role other (λ e. apart (sym e))
      | inr is ↦ ap (λ r. same_role r other) is ∙ not_same Output other (λ e. none (sym e))
    ] in
    rw miss (no_nets role other (m + length word.nets) words apart none (rest_of role word words one))

-- how many nets the words of a role have
pub nets_long : (role : Role) (k m : ℕ) (words : List WordText) → AllWide k words → length (role_nets role m words) ≡ role_count role words * k
nets_long role k m [] wide = omega arith
nets_long role k m (word ∷ words) wide =
    let rest = nets_long role k (m + length word.nets) words (wide_rest k word words wide) in
    let here : length (range_with_len m (length word.nets)) ≡ k = range_long m (length word.nets) ∙ wide word (0, refl) in
    elim (same_role word.role role) as (λ b. length (cond b (range_with_len m (length word.nets)) [] ++ role_nets role (m + length word.nets) words) ≡ length (cond b (word ∷ filter (λ (w : WordText). same_role w.role role) words) (filter (λ (w : WordText). same_role w.role role) words)) * k) [
      | true ↦ omega (arith, append_long (range_with_len m (length word.nets)) (role_nets role (m + length word.nets) words), here, rest, one_more (role_count role words) k)
      | false ↦ rest
    ]
  where
    one_more : (n k : ℕ) → suc n * k ≡ k + n * k
    one_more n k = omega arith

pub names_long : (k : ℕ) (words : List WordText) → AllWide k words → length (word_names words) ≡ length words * k
names_long k [] wide = omega arith
names_long k (word ∷ words) wide = omega (arith, append_long word.nets (word_names words), wide word (0, refl), names_long k words (wide_rest k word words wide), one_more (length words) k)
  where
    one_more : (n k : ℕ) → suc n * k ≡ k + n * k
    one_more n k = omega arith

-- each net is in a word of the role or in the output word, and in one place
pub roles_once : (role : Role) (m : ℕ) (words : List WordText) (n : ℕ) → role ≢ Output → OneOf role words → m ≤ n → n < m + length (word_names words) → times n (role_nets role m words) + times n (role_nets Output m words) ≡ 1
roles_once role m [] n apart one low high = absurd (omega arith)
roles_once role m (word ∷ words) n apart one low high =
    let long : ℕ = length word.nets in
    let next : ℕ = m + length word.nets in
    let total = append_long word.nets (word_names words) in
    let split : (r : Role) → times n (role_nets r m (word ∷ words)) ≡ times n (cond (same_role word.role r) (range_with_len m (length word.nets)) []) + times n (role_nets r (m + length word.nets) words) = λ r. times_append n (cond (same_role word.role r) (range_with_len m (length word.nets)) []) (role_nets r (m + length word.nets) words) in
    let first : times n (cond (same_role word.role role) (range_with_len m (length word.nets)) []) + times n (cond (same_role word.role Output) (range_with_len m (length word.nets)) []) ≡ times n (range_with_len m (length word.nets)) = elim (one word (0, refl)) [
      | inl is ↦ let h = own_role role Output word is apart in rw (h.0, h.1) (omega arith)
      | inr is ↦ let h = output_first role word is apart in rw (h.0, h.1) (omega arith)
    ] in
    elim (cases_lt n (m + length word.nets)) [
      | inl less ↦ omega (
        arith,
        split role,
        split Output,
        first,
        range_once m (length word.nets) n low less,
        times_none n (role_nets role (m + length word.nets) words) (λ has. omega (arith, (role_low role (m + length word.nets) words n has).0, less)),
        times_none n (role_nets Output (m + length word.nets) words) (λ has. omega (arith, (role_low Output (m + length word.nets) words n has).0, less)),
      )
      | inr more ↦ omega (
        arith,
        split role,
        split Output,
        first,
        times_none n (range_with_len m (length word.nets)) (λ has. omega (arith, (range_has m (length word.nets) n has).1, more)),
        roles_once role (m + length word.nets) words n apart (rest_of role word words one) more (omega (arith, high, total)),
      )
    ]

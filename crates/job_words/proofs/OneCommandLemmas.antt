-- Words spell one command at most: each command's words give back what it does over them.
use Rattle.std.proofs.Common.{◌≡◌, ◌⊎◌, ◌∙◌, ap, sym, subst, inl, inr, refl, ℕ, Bool, true, false, drop, List, [], ◌∷◌, ◌++◌, codes, length, arith}
use Rattle.text_core.specs.Numbers.{value_of}
use Rattle.job_words.proofs.CommandTable.{are_apart, command_rows, cycles_by, job_at, kind_at, kind_rows, others_by, simple_by, terms_by}
use Rattle.job_words.proofs.OptionLemmas.{Shape, Neither, Terms, Cycles, TermsFirst, CyclesFirst, shape}
use Rattle.job_words.proofs.SimplifyLemmas.{Stands, between, others_alone, simplify, stands}
use Rattle.job_words.proofs.SpelledLemmas.{first_word, rest_of}
use Rattle.job_words.proofs.ValueLemmas.{values_back, cycles_back}
use Rattle.job_words.specs.Operands.{Word}
use Rattle.job_words.specs.declared.kind.Kind.{Kind}
use Rattle.job_words.specs.declared.kind.Kind.TheVariants as kinds
use Rattle.job_words.specs.Kind.{kind_name}
use Rattle.job_words.specs.MadeWords.{AreTrialWords, IsOfKind}
use Rattle.job_words.specs.Options.{AreCircuitOptions, AreNone, AreOptions, AreStageOptions, AreSumOptions, IsCyclesOption, IsTermsOption}
use Rattle.job_words.specs.Shapes.{IsOverBlif, IsOverFile, IsOverFiles, AreValues}
use Rattle.job_words.specs.Command.{Bits, Abstract, Check, Same, Eval, Iso, Lift, Table, Certify, Verify, Upgrade, Make, Compose, Job, Over, Trial, IsNamed, IsSpelled}
use Rattle.job_words.specs.private.Groups.{IsFurther}
use Rattle.job_words.specs.private.OptionPlace.{before_options, from_options}

-- no name of a command stands twice in its table, nor that of a kind
commands_are_apart : are_apart command_rows ≡ true
commands_are_apart = refl

kinds_are_apart : are_apart kind_rows ≡ true
kinds_are_apart = refl

-- the numbers that options set
options_back : (limit default : ℕ) (options : List Word) (t c : ℕ) → AreOptions limit default options t c → (t ≡ terms_by default options) × (c ≡ cycles_by options)
options_back limit default options t c is = by (shape limit default options t c is)
  where
    by : Shape limit default options t c → (t ≡ terms_by default options) × (c ≡ cycles_by options)
    by (Neither e st sc) = (st ∙ ap (terms_by default) (sym e), sc ∙ ap cycles_by (sym e))
    by (Terms x e tx sc) = (tx.decimal.1 ∙ ap (terms_by default) (sym e), sc ∙ ap cycles_by (sym e))
    by (Cycles y e st cy) = (st ∙ ap (terms_by default) (sym e), cy.decimal.1 ∙ ap cycles_by (sym e))
    by (TermsFirst x y e tx cy) = (tx.decimal.1 ∙ ap (terms_by default) (sym e), cy.decimal.1 ∙ ap cycles_by (sym e))
    by (CyclesFirst y x e tx cy) = (tx.decimal.1 ∙ ap (terms_by default) (sym e), cy.decimal.1 ∙ ap cycles_by (sym e))

-- what the options of a circuit set
pub record AreSet (words : List Word) (t c : ℕ) (simple : Bool) : Type 0 where
  pub terms : t ≡ terms_by 65536 (others_by words)
  pub cycles : c ≡ cycles_by (others_by words)
  pub asked : simple ≡ simple_by words

-- without `--simplify`
alone_set : (words : List Word) (t c : ℕ) → AreStageOptions words t c → AreSet words t c false
alone_set words t c is = by (shape 262144 65536 words t c is)
  where
    at : (ws : List Word) → words ≡ ws → AreSet ws t c false → AreSet words t c false
    at ws e set = let P : List Word → Type 0 = λ vs. AreSet vs t c false in subst P (sym e) set

    by : Shape 262144 65536 words t c → AreSet words t c false
    by (Neither e st sc) = at [] e (record { terms = st; cycles = sc; asked = refl })
    by (Terms x e tx sc) = at (codes "--terms" ∷ x ∷ []) e (record { terms = tx.decimal.1; cycles = sc; asked = refl })
    by (Cycles y e st cy) = at (codes "--cycles" ∷ y ∷ []) e (record { terms = st; cycles = cy.decimal.1; asked = refl })
    by (TermsFirst x y e tx cy) = at (codes "--terms" ∷ x ∷ codes "--cycles" ∷ y ∷ []) e (record { terms = tx.decimal.1; cycles = cy.decimal.1; asked = refl })
    by (CyclesFirst y x e tx cy) = at (codes "--cycles" ∷ y ∷ codes "--terms" ∷ x ∷ []) e (record { terms = tx.decimal.1; cycles = cy.decimal.1; asked = refl })

-- with it behind two words
after_two : (w x : Word) (behind : List Word) (t c : ℕ) → AreStageOptions (w ∷ x ∷ behind) t c → AreSet (w ∷ x ∷ simplify ∷ behind) t c true
after_two w x behind t c is = by (shape 262144 65536 (w ∷ x ∷ behind) t c is)
  where
    at : (ws : List Word) → w ∷ x ∷ behind ≡ ws → AreSet (between ws) t c true → AreSet (w ∷ x ∷ simplify ∷ behind) t c true
    at ws e set = let P : List Word → Type 0 = λ vs. AreSet vs t c true in subst P (sym (ap between e)) set

    by : Shape 262144 65536 (w ∷ x ∷ behind) t c → AreSet (w ∷ x ∷ simplify ∷ behind) t c true
    by (Neither e st sc) = let long = ap (λ (ws : List Word). length ws) e in absurd (omega (arith, long))
    by (Terms y e tx sc) = at (codes "--terms" ∷ y ∷ []) e (record { terms = tx.decimal.1; cycles = sc; asked = refl })
    by (Cycles y e st cy) = at (codes "--cycles" ∷ y ∷ []) e (record { terms = st; cycles = cy.decimal.1; asked = refl })
    by (TermsFirst y z e tx cy) = at (codes "--terms" ∷ y ∷ codes "--cycles" ∷ z ∷ []) e (record { terms = tx.decimal.1; cycles = cy.decimal.1; asked = refl })
    by (CyclesFirst z y e tx cy) = at (codes "--cycles" ∷ z ∷ codes "--terms" ∷ y ∷ []) e (record { terms = tx.decimal.1; cycles = cy.decimal.1; asked = refl })

-- and behind four
behind_four : List Word → List Word
behind_four ws = first_word ws ∷ first_word (rest_of ws) ∷ first_word (rest_of (rest_of ws)) ∷ first_word (rest_of (rest_of (rest_of ws))) ∷ simplify ∷ rest_of (rest_of (rest_of (rest_of ws)))

after_four : (w x y z : Word) (behind : List Word) (t c : ℕ) → AreStageOptions (w ∷ x ∷ y ∷ z ∷ behind) t c → AreSet (w ∷ x ∷ y ∷ z ∷ simplify ∷ behind) t c true
unfolding behind_four
after_four w x y z behind t c is = by (shape 262144 65536 (w ∷ x ∷ y ∷ z ∷ behind) t c is)
  where
    at : (ws : List Word) → w ∷ x ∷ y ∷ z ∷ behind ≡ ws → AreSet (behind_four ws) t c true → AreSet (w ∷ x ∷ y ∷ z ∷ simplify ∷ behind) t c true
    at ws e set = let P : List Word → Type 0 = λ vs. AreSet vs t c true in subst P (sym (ap behind_four e)) set

    by : Shape 262144 65536 (w ∷ x ∷ y ∷ z ∷ behind) t c → AreSet (w ∷ x ∷ y ∷ z ∷ simplify ∷ behind) t c true
    by (Neither e st sc) = let long = ap (λ (ws : List Word). length ws) e in absurd (omega (arith, long))
    by (Terms u e tx sc) = let long = ap (λ (ws : List Word). length ws) e in absurd (omega (arith, long))
    by (Cycles u e st cy) = let long = ap (λ (ws : List Word). length ws) e in absurd (omega (arith, long))
    by (TermsFirst u v e tx cy) = at (codes "--terms" ∷ u ∷ codes "--cycles" ∷ v ∷ []) e (record { terms = tx.decimal.1; cycles = cy.decimal.1; asked = refl })
    by (CyclesFirst v u e tx cy) = at (codes "--cycles" ∷ v ∷ codes "--terms" ∷ u ∷ []) e (record { terms = tx.decimal.1; cycles = cy.decimal.1; asked = refl })

-- with it
simple_set : (words : List Word) (t c : ℕ) → Stands words t c → AreSet words t c true
simple_set words t c s = let P : List Word → Type 0 = λ ws. AreSet ws t c true in subst P (sym s.words_are) (by s.before s.behind s.whole s.others)
  where
    by : (before behind : List Word) → (length before ≡ 0) ⊎ (length before ≡ 2) ⊎ (length before ≡ 4) → AreStageOptions (before ++ behind) t c → AreSet (before ++ simplify ∷ behind) t c true
    by [] behind whole are = let (same_t, same_c) = options_back 262144 65536 behind t c are in record { terms = same_t; cycles = same_c; asked = refl }
    by (w ∷ []) behind (inl long) are = absurd (omega (arith, long))
    by (w ∷ []) behind (inr (inl long)) are = absurd (omega (arith, long))
    by (w ∷ []) behind (inr (inr long)) are = absurd (omega (arith, long))
    by (w ∷ x ∷ []) behind whole are = after_two w x behind t c are
    by (w ∷ x ∷ y ∷ []) behind (inl long) are = absurd (omega (arith, long))
    by (w ∷ x ∷ y ∷ []) behind (inr (inl long)) are = absurd (omega (arith, long))
    by (w ∷ x ∷ y ∷ []) behind (inr (inr long)) are = absurd (omega (arith, long))
    by (w ∷ x ∷ y ∷ z ∷ []) behind whole are = after_four w x y z behind t c are
    by (w ∷ x ∷ y ∷ z ∷ v ∷ ws) behind (inl long) are = absurd (omega (arith, long))
    by (w ∷ x ∷ y ∷ z ∷ v ∷ ws) behind (inr (inl long)) are = absurd (omega (arith, long))
    by (w ∷ x ∷ y ∷ z ∷ v ∷ ws) behind (inr (inr long)) are = absurd (omega (arith, long))

are_set : (words : List Word) (t c : ℕ) (simple : Bool) → AreCircuitOptions words t c simple → AreSet words t c simple
are_set words t c true is = simple_set words t c (stands words t c is)
are_set words t c false is = alone_set words t c (others_alone words t c is)

-- ---- commands over a signature and a file, by what follows

module _ (name : Word) (words : List Word) (s n : Word) (job : Job) (Follow : List Word → Type 0) (is : IsNamed name (λ rest. IsOverFile Follow rest s n) words) where
  file_back : job_at (name ∷ s ∷ n ∷ is.follow.rest) ≡ job → job ≡ job_at words
  file_back made = sym made ∙ ap job_at (sym (is.words_are ∙ ap (λ (rest : List Word). name ∷ rest) is.follow.words_are))

module _ (name : Word) (words : List Word) (s n o : Word) (job : Job) (Follow : List Word → Type 0) (is : IsNamed name (λ rest. IsOverFiles Follow rest s n o) words) where
  files_back : job_at (name ∷ s ∷ n ∷ o ∷ is.follow.rest) ≡ job → job ≡ job_at words
  files_back made = sym made ∙ ap job_at (sym (is.words_are ∙ ap (λ (rest : List Word). name ∷ rest) is.follow.words_are))

-- what options set, in what a command does
set_back : (make : ℕ → ℕ → Job) (options : List Word) (t c : ℕ) → AreStageOptions options t c → make (terms_by 65536 options) (cycles_by options) ≡ make t c
set_back make options t c is = let (same_t, same_c) = options_back 262144 65536 options t c is in (λ i. make (sym same_t i) (sym same_c i))

circuit_set_back : (make : ℕ → ℕ → Bool → Job) (options : List Word) (t c : ℕ) (simple : Bool) → AreCircuitOptions options t c simple → make (terms_by 65536 (others_by options)) (cycles_by (others_by options)) (simple_by options) ≡ make t c simple
circuit_set_back make options t c simple is = let set = are_set options t c simple is in (λ i. make (sym set.terms i) (sym set.cycles i) (sym set.asked i))

sum_set_back : (make : ℕ → ℕ → Job) (options : List Word) (t c : ℕ) → AreSumOptions options t c → make (terms_by 1048576 options) (cycles_by options) ≡ make t c
sum_set_back make options t c is = let (same_t, same_c) = options_back 1048576 1048576 options t c is in (λ i. make (sym same_t i) (sym same_c i))

cycles_set : (options : List Word) (c : ℕ) → IsCyclesOption options c → cycles_by options ≡ c
cycles_set options c is = sym (cycles_back options c is cycles_by refl (λ y. refl))

values_set : (s n : Word) (rest vs : List Word) (c : ℕ) → AreValues rest vs c → ◌≡◌ {A = Job} (Over s (Eval n (before_options rest) (cycles_by (from_options rest)))) (Over s (Eval n vs c))
values_set s n rest vs c is =
    let (same_vs, options) = values_back rest vs c is in
    let same_c : cycles_by (from_options rest) ≡ c = ap cycles_by options ∙ cycles_set is.options c is.set in
    (λ i. Over s (Eval n (same_vs i) (same_c i)))

-- ---- commands that make netlists

-- a kind is told by its name
kind_back : (kind : Kind) → kind ≡ kind_at (kind_name kind)
kind_back kinds.Mastrovito = refl
kind_back kinds.Montgomery = refl
kind_back kinds.Composite = refl
kind_back kinds.Normal = refl
kind_back kinds.Adder = refl
kind_back kinds.Squarer = refl
kind_back kinds.Digit = refl

make_back : (words : List Word) (s : Word) (kind : Kind) → IsNamed (codes "make") (λ rest. IsOfKind rest s kind) words → ◌≡◌ {A = Job} (Over s (Make kind)) (job_at words)
make_back words s kind is =
    let whole : words ≡ codes "make" ∷ kind_name kind ∷ s ∷ [] = is.words_are ∙ ap (λ (rest : List Word). codes "make" ∷ rest) is.follow.words_are in
    ap (λ (k : Kind). Over s (Make k)) (kind_back kind) ∙ ap job_at (sym whole)

terms_back : (options : List Word) (t : ℕ) → IsTermsOption 262144 65536 options t → t ≡ terms_by 65536 options
terms_back options t (inl (e, set)) = set ∙ ap (terms_by 65536) (sym e)
terms_back options t (inr (y, e, is)) = is.decimal.1 ∙ ap (terms_by 65536) (sym e)

trial_back : (words : List Word) (n m t : ℕ) → IsNamed (codes "trial") (λ rest. AreTrialWords rest n m t) words → ◌≡◌ {A = Job} (Trial n m t) (job_at words)
trial_back words n m t is =
    let are = is.follow in
    let whole : words ≡ codes "trial" ∷ are.first ∷ are.second ∷ are.options = is.words_are ∙ ap (λ (rest : List Word). codes "trial" ∷ rest) are.words_are in
    let value : m ≡ value_of 16 (drop 2 are.second) = are.modulus_is.hex.3 ∙ ap (λ (w : Word). value_of 16 (drop 2 w)) (sym are.modulus_is.hex.1) in
    (λ i. Trial (are.number_is.decimal.1 i) (value i) (terms_back are.options t are.set i)) ∙ ap job_at (sym whole)

-- ---- the command over a netlist in BLIF

compose_back : (words : List Word) (s n : Word) (t : ℕ) → IsNamed (codes "compose") (λ rest. IsOverBlif (λ options. IsTermsOption 262144 65536 options t) rest s n) words → ◌≡◌ {A = Job} (Over s (Compose n t)) (job_at words)
compose_back words s n t is =
    let files = is.follow.files in
    let named : IsNamed (codes "compose") (λ rest. IsOverFile (λ options. IsTermsOption 262144 65536 options t) rest s n) words = record { rest = is.rest; words_are = is.words_are; follow = files } in
    file_back (codes "compose") words s n (Over s (Compose n t)) (λ options. IsTermsOption 262144 65536 options t) named (ap (λ u. Over s (Compose n u)) (sym (terms_back files.rest t files.follow)))

-- each command, one line each
back : (words : List Word) (job : Job) → IsSpelled words job → job ≡ job_at words
back words (Over s (Bits n t c b)) is = file_back (codes "bits") words s n _ (λ rest. AreCircuitOptions rest t c b) is (circuit_set_back (λ u d a. Over s (Bits n u d a)) is.follow.rest t c b is.follow.follow)
back words (Over s (Abstract n t c b)) is = file_back (codes "abstract") words s n _ (λ rest. AreCircuitOptions rest t c b) is (circuit_set_back (λ u d a. Over s (Abstract n u d a)) is.follow.rest t c b is.follow.follow)
back words (Over s (Check n o t c b)) is = files_back (codes "check") words s n o _ (λ rest. AreCircuitOptions rest t c b) is (circuit_set_back (λ u d a. Over s (Check n o u d a)) is.follow.rest t c b is.follow.follow)
back words (Over s (Same n o t c b)) is = files_back (codes "same") words s n o _ (λ rest. AreCircuitOptions rest t c b) is (circuit_set_back (λ u d a. Over s (Same n o u d a)) is.follow.rest t c b is.follow.follow)
back words (Over s (Eval n vs c)) is = file_back (codes "eval") words s n _ (λ rest. AreValues rest vs c) is (values_set s n is.follow.rest vs c is.follow.follow)
back words (Over s (Iso o)) is = file_back (codes "iso") words s o _ AreNone is refl
back words (Over s (Lift f)) is = file_back (codes "lift") words s f _ AreNone is refl
back words (Over s (Table n c)) is = file_back (codes "table") words s n _ (λ rest. IsCyclesOption rest c) is (ap (λ d. Over s (Table n d)) (cycles_set is.follow.rest c is.follow.follow))
back words (Over s (Certify n t c)) is = file_back (codes "certify") words s n _ (λ rest. AreStageOptions rest t c) is (set_back (λ u d. Over s (Certify n u d)) is.follow.rest t c is.follow.follow)
back words (Over s (Verify n o t c)) is = files_back (codes "verify") words s n o _ (λ rest. AreSumOptions rest t c) is (sum_set_back (λ u d. Over s (Verify n o u d)) is.follow.rest t c is.follow.follow)
back words (Over s (Upgrade n o c)) is = files_back (codes "upgrade") words s n o _ (λ rest. IsCyclesOption rest c) is (ap (λ d. Over s (Upgrade n o d)) (cycles_set is.follow.rest c is.follow.follow))
back words (Over s (Make kind)) is = make_back words s kind is
back words (Over s (Compose n t)) is = compose_back words s n t is
back words (Trial n m t) is = trial_back words n m t is

pub one_job : (words : List Word) (job other : Job) → IsSpelled words job → IsSpelled words other → job ≡ other
one_job words job other a b = back words job a ∙ sym (back words other b)

-- no command has the name of the one over a netlist in BLIF with these words behind it, where they are none of this one
pub no_compose : (name : Word) (rest : List Word) → name ≡ codes "compose" → ((s n : Word) (t : ℕ) → IsOverBlif (λ options. IsTermsOption 262144 65536 options t) rest s n → ⊥) → (job : Job) → IsFurther job → IsSpelled (name ∷ rest) job → ⊥
no_compose name rest named none job over is =
    let s : Word = first_word rest in
    let n : Word = first_word (rest_of rest) in
    let t : ℕ = terms_by 65536 (rest_of (rest_of rest)) in
    let P : Word → Type 0 = λ word. IsSpelled (word ∷ rest) job in
    let here : IsSpelled (codes "compose" ∷ rest) job = subst P named is in
    let Q : Job → Type 0 = λ other. IsSpelled (codes "compose" ∷ rest) other in
    let own : IsSpelled (codes "compose" ∷ rest) (Over s (Compose n t)) = subst Q (back (codes "compose" ∷ rest) job here) here in
    let R : List Word → Type 0 = λ words. IsOverBlif (λ options. IsTermsOption 262144 65536 options t) words s n in
    none s n t (subst R (sym (ap rest_of own.words_are)) own.follow)

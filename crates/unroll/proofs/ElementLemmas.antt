-- The words of the unrolled circuit.
use Rattle.std.proofs.Common.{◌≡◌, ◌∙◌, ap, sym, refl, subst, ℕ, zero, suc, ◌+◌, Bool, false, not, List, [], ◌∷◌, ◌++◌, length, take, Some, cond}
use Rattle.std.specs.Prelude.{slice_get, filter}
use Rattle.net_words.specs.Roles.{same_role}
use Rattle.net_words.specs.declared.bound.BoundWord.{BoundWord}
use Rattle.net_words.specs.declared.word.Role.{Role}
use Rattle.net_words.specs.declared.word.Role.TheVariants.{Input, State, Fed, Output}
use Rattle.circuit_model.specs.JobOfBinding.{inner_number, job_word_with, job_words_of}
use Rattle.circuit_model.specs.OfBinding.{output_basis, output_basis_with, word_with, words_of}
use Rattle.circuit_model.specs.Word.{Word}
use Rattle.unroll.specs.Places.{fed_bits, first_bit}
use Rattle.unroll.specs.Unrolled.{nets_with}
use Rattle.unroll.proofs.WordLemmas.{moved}

-- a word of the unrolled circuit: the bound word that it is from, and the word of the job at the same place
pub record IsWordFrom (v c k base : ℕ) (words : List BoundWord) (bases : List (List ℕ)) (i : ℕ) (w : Word) : Type 0 where
  pub number : ℕ
  pub word : BoundWord
  pub basis : List ℕ
  pub got : slice_get words number ≡ Some word
  pub place : inner_number words number ≡ i
  pub inner : same_role word.role Output ≡ false
  pub job : slice_get (job_words_of words bases) i ≡ Some (record { role = word.role; nets = word.nets; basis = basis })
  pub is : w ≡ record { role = Input; nets = nets_with v c k (first_bit k base words number) word.role word.nets; basis = basis }

pub word_from : (v c k base : ℕ) (words : List BoundWord) (bases : List (List ℕ)) (i : ℕ) (w : Word) → slice_get (words_of (moved v c k base words) bases) i ≡ Some w → IsWordFrom v c k base words bases i w
word_from v c k base [] bases i w got = absurd (cc)
word_from v c k base (word ∷ words) [] i w got = absurd (cc)
word_from v c k base (word ∷ words) (basis ∷ bases) i w got = by (λ j found. word_from v c k (base + fed_bits k word.role) words bases j w found) word.role refl i got
  where
    -- one of the further words
    further : (j : ℕ) (m : ℕ) → ((n : ℕ) → inner_number words n ≡ j → inner_number (word ∷ words) (suc n) ≡ m) → ((v : Word) → slice_get (job_words_of words bases) j ≡ Some v → slice_get (job_words_of (word ∷ words) (basis ∷ bases)) m ≡ Some v) → IsWordFrom v c k (base + fed_bits k word.role) words bases j w → IsWordFrom v c k base (word ∷ words) (basis ∷ bases) m w
    further j m up at from = record { number = suc from.number; word = from.word; basis = from.basis; got = from.got; place = up from.number from.place; inner = from.inner; job = at (record { role = from.word.role; nets = from.word.nets; basis = from.basis }) from.job; is = from.is }

    -- this word
    own : (r : Role) → word.role ≡ r → same_role r Output ≡ false → slice_get (job_word_with r word.nets basis ++ job_words_of words bases) 0 ≡ Some (record { role = r; nets = word.nets; basis = basis }) → w ≡ record { role = Input; nets = nets_with v c k base r word.nets; basis = basis } → IsWordFrom v c k base (word ∷ words) (basis ∷ bases) 0 w
    own r is other first same =
        let P : Role → Type 0 = λ q. same_role q Output ≡ false in
        let Q : Role → Type 0 = λ q. slice_get (job_word_with q word.nets basis ++ job_words_of words bases) 0 ≡ Some (record { role = q; nets = word.nets; basis = basis }) in
        let R : Role → Type 0 = λ q. w ≡ record { role = Input; nets = nets_with v c k base q word.nets; basis = basis } in
        record { number = 0; word = word; basis = basis; got = refl; place = refl; inner = subst P (sym is) other; job = subst Q (sym is) first; is = subst R (sym is) same }

    -- how words are counted after one with this role
    one_more : (r : Role) → word.role ≡ r → same_role r Output ≡ false → (n j : ℕ) → inner_number words n ≡ j → inner_number (word ∷ words) (suc n) ≡ suc j
    one_more r is other n j count =
        let P : Bool → Type 0 = λ t. length (cond (not t) (word ∷ filter (λ u. not (same_role u.role Output)) (take n words)) (filter (λ u. not (same_role u.role Output)) (take n words))) ≡ suc j in
        subst P (sym (ap (λ q. same_role q Output) is ∙ other)) (ap suc count)

    none_more : word.role ≡ Output → (n j : ℕ) → inner_number words n ≡ j → inner_number (word ∷ words) (suc n) ≡ j
    none_more is n j count =
        let P : Bool → Type 0 = λ t. length (cond (not t) (word ∷ filter (λ u. not (same_role u.role Output)) (take n words)) (filter (λ u. not (same_role u.role Output)) (take n words))) ≡ j in
        subst P (sym (ap (λ q. same_role q Output) is)) count

    -- where a word of the job stands after one with this role
    job_more : (r : Role) → word.role ≡ r → ((j : ℕ) (u : Word) → slice_get (job_words_of words bases) j ≡ Some u → slice_get (job_word_with r word.nets basis ++ job_words_of words bases) (suc j) ≡ Some u) → (j : ℕ) (u : Word) → slice_get (job_words_of words bases) j ≡ Some u → slice_get (job_words_of (word ∷ words) (basis ∷ bases)) (suc j) ≡ Some u
    job_more r is at j u found =
        let P : Role → Type 0 = λ q. slice_get (job_word_with q word.nets basis ++ job_words_of words bases) (suc j) ≡ Some u in
        subst P (sym is) (at j u found)

    rest : ((j : ℕ) → slice_get (words_of (moved v c k (base + fed_bits k word.role) words) bases) j ≡ Some w → IsWordFrom v c k (base + fed_bits k word.role) words bases j w) → (r : Role) → word.role ≡ r → (j : ℕ) → slice_get (words_of (moved v c k (base + fed_bits k r) words) bases) j ≡ Some w → IsWordFrom v c k (base + fed_bits k word.role) words bases j w
    rest each r is j found =
        let P : Role → Type 0 = λ q. slice_get (words_of (moved v c k (base + fed_bits k q) words) bases) j ≡ Some w in
        each j (subst P (sym is) found)

    by : ((j : ℕ) → slice_get (words_of (moved v c k (base + fed_bits k word.role) words) bases) j ≡ Some w → IsWordFrom v c k (base + fed_bits k word.role) words bases j w) → (r : Role) → word.role ≡ r → (i : ℕ) → slice_get (word_with r (nets_with v c k base r word.nets) basis ++ words_of (moved v c k (base + fed_bits k r) words) bases) i ≡ Some w → IsWordFrom v c k base (word ∷ words) (basis ∷ bases) i w
    by each Input is zero got = own Input is refl refl (cc)
    by each Input is (suc j) got = further j (suc j) (λ n count. one_more Input is refl n j count) (job_more Input is (λ m u found. found) j) (rest each Input is j got)
    by each State is zero got = own State is refl refl (cc)
    by each State is (suc j) got = further j (suc j) (λ n count. one_more State is refl n j count) (job_more State is (λ m u found. found) j) (rest each State is j got)
    by each Fed is zero got = own Fed is refl refl (cc)
    by each Fed is (suc j) got = further j (suc j) (λ n count. one_more Fed is refl n j count) (job_more Fed is (λ m u found. found) j) (rest each Fed is j got)
    by each Output is j got =
        let P : Role → Type 0 = λ q. (u : Word) → slice_get (job_words_of words bases) j ≡ Some u → slice_get (job_word_with q word.nets basis ++ job_words_of words bases) j ≡ Some u in
        further j j (λ n count. none_more is n j count) (subst P (sym is) (λ u found. found)) (rest each Output is j got)

-- there are as many words
pub same_count : (v c k base : ℕ) (words : List BoundWord) (bases : List (List ℕ)) → length (words_of (moved v c k base words) bases) ≡ length (job_words_of words bases)
same_count v c k base [] bases = refl
same_count v c k base (word ∷ words) [] = refl
same_count v c k base (word ∷ words) (basis ∷ bases) = by word.role (same_count v c k (base + fed_bits k word.role) words bases)
  where
    by : (r : Role) → length (words_of (moved v c k (base + fed_bits k word.role) words) bases) ≡ length (job_words_of words bases) → length (word_with r (nets_with v c k base word.role word.nets) basis ++ words_of (moved v c k (base + fed_bits k word.role) words) bases) ≡ length (job_word_with r word.nets basis ++ job_words_of words bases)
    by Input rest = ap suc rest
    by State rest = ap suc rest
    by Fed rest = ap suc rest
    by Output rest = rest

-- the output word has its basis
pub same_basis : (v c k base : ℕ) (words : List BoundWord) (bases : List (List ℕ)) → output_basis (moved v c k base words) bases ≡ output_basis words bases
same_basis v c k base [] bases = refl
same_basis v c k base (word ∷ words) [] = refl
same_basis v c k base (word ∷ words) (basis ∷ bases) = ap (output_basis_with word.role basis) (same_basis v c k (base + fed_bits k word.role) words bases)

pub moved_long : (v c k base : ℕ) (words : List BoundWord) → length (moved v c k base words) ≡ length words
moved_long v c k base [] = refl
moved_long v c k base (word ∷ words) = ap suc (moved_long v c k (base + fed_bits k word.role) words)

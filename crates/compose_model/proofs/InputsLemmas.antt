-- The words of a circuit are those of the text, with the nets of their names.
use Rattle.std.proofs.Common.{◌≡◌, ◌∙◌, ap, sym, refl, subst, ℕ, zero, suc, ◌+◌, List, [], ◌∷◌, ◌++◌, length, Some, append-nil, arith}
use Rattle.std.specs.Prelude.{slice_get}
use Rattle.net_core.specs.NetList.{NetList}
use Rattle.net_words.specs.BoundTo.{output_bits, output_bits_with}
use Rattle.net_words.specs.declared.bound.BoundWord.{BoundWord}
use Rattle.net_words.specs.declared.word.Role.{Role}
use Rattle.net_words.specs.declared.word.Role.TheVariants.{Input, State, Fed, Output}
use Rattle.net_words.specs.declared.word.WordText.{WordText}
use Rattle.circuit_model.specs.OfBinding.{output_basis, output_basis_with, word_with, words_of}
use Rattle.circuit_model.specs.Word.{Word}
use Rattle.compose_model.specs.NamedWord.{inputs_among, named_words, outputs_among, NamedWord}
use Rattle.compose_model.proofs.NamesLemmas.{numbers_append, AreBound, HaveNumbers}

-- the words of a circuit are these, one by one
abbrev pub AreInputs : NetList → List NamedWord → List Word → Type 0
AreInputs net [] [] = Unit {0}
AreInputs net [] (w ∷ ws) = ⊥
AreInputs net (n ∷ ns) [] = ⊥
AreInputs net (n ∷ ns) (w ∷ ws) = (w.role ≡ Input) × HaveNumbers net n.nets w.nets × (w.basis ≡ n.basis) × AreInputs net ns ws

one_input : (net : NetList) (role : Role) (names : List (List ℕ)) (nets basis : List ℕ) (rest : List NamedWord) (words : List Word) → HaveNumbers net names nets → AreInputs net (inputs_among rest) words
    → AreInputs net (inputs_among (record { role = role; nets = names; basis = basis } ∷ rest)) (word_with role nets basis ++ words)
one_input net Input names nets basis rest words here more = (refl, here, refl, more)
one_input net State names nets basis rest words here more = (refl, here, refl, more)
one_input net Fed names nets basis rest words here more = (refl, here, refl, more)
one_input net Output names nets basis rest words here more = more

pub inputs_are : (net : NetList) (words : List WordText) (bs : List BoundWord) (bases : List (List ℕ)) → AreBound net words bs → length bases ≡ length words → AreInputs net (inputs_among (named_words words bases)) (words_of bs bases)
inputs_are net [] [] bases bound long = tt
inputs_are net [] (b ∷ bs) bases bound long = absurd bound
inputs_are net (w ∷ ws) [] bases bound long = absurd bound
inputs_are net (w ∷ ws) (b ∷ bs) [] bound long = absurd (omega (arith, long))
inputs_are net (w ∷ ws) (b ∷ bs) (basis ∷ bases) bound long =
    let P : Role → Type 0 = λ role. AreInputs net (inputs_among (record { role = w.role; nets = w.nets; basis = basis } ∷ named_words ws bases)) (word_with role b.nets basis ++ words_of bs bases) in
    subst P (sym bound.0) (one_input net w.role w.nets b.nets basis (named_words ws bases) (words_of bs bases) bound.1 (inputs_are net ws bs bases bound.2 (omega (arith, long))))

-- ---- the output word

abbrev all_names : List NamedWord → List (List ℕ)
all_names [] = []
all_names (w ∷ ws) = w.nets ++ all_names ws

one_output : (net : NetList) (role : Role) (names : List (List ℕ)) (nets basis : List ℕ) (rest : List NamedWord) (more : List ℕ) → HaveNumbers net names nets → HaveNumbers net (all_names (outputs_among rest)) more
    → HaveNumbers net (all_names (outputs_among (record { role = role; nets = names; basis = basis } ∷ rest))) (output_bits_with role nets ++ more)
one_output net Input names nets basis rest more here all = all
one_output net State names nets basis rest more here all = all
one_output net Fed names nets basis rest more here all = all
one_output net Output names nets basis rest more here all = numbers_append net names (all_names (outputs_among rest)) nets more here all

outputs_are : (net : NetList) (words : List WordText) (bs : List BoundWord) (bases : List (List ℕ)) → AreBound net words bs → length bases ≡ length words → HaveNumbers net (all_names (outputs_among (named_words words bases))) (output_bits bs)
outputs_are net [] [] bases bound long = tt
outputs_are net [] (b ∷ bs) bases bound long = absurd bound
outputs_are net (w ∷ ws) [] bases bound long = absurd bound
outputs_are net (w ∷ ws) (b ∷ bs) [] bound long = absurd (omega (arith, long))
outputs_are net (w ∷ ws) (b ∷ bs) (basis ∷ bases) bound long =
    let P : Role → Type 0 = λ role. HaveNumbers net (all_names (outputs_among (record { role = w.role; nets = w.nets; basis = basis } ∷ named_words ws bases))) (output_bits_with role b.nets ++ output_bits bs) in
    subst P (sym bound.0) (one_output net w.role w.nets b.nets basis (named_words ws bases) (output_bits bs) bound.1 (outputs_are net ws bs bases bound.2 (omega (arith, long))))

pub output_named : (net : NetList) (words : List WordText) (bs : List BoundWord) (bases : List (List ℕ)) (word : NamedWord) → AreBound net words bs → length bases ≡ length words → outputs_among (named_words words bases) ≡ word ∷ [] → HaveNumbers net word.nets (output_bits bs)
output_named net words bs bases word bound long one =
    let P : List (List ℕ) → Type 0 = λ names. HaveNumbers net names (output_bits bs) in
    subst P (ap all_names one ∙ append-nil word.nets) (outputs_are net words bs bases bound long)

one_basis : (role : Role) (names : List (List ℕ)) (basis other : List ℕ) (rest more : List NamedWord) (word : NamedWord) → outputs_among (record { role = role; nets = names; basis = basis } ∷ rest) ≡ word ∷ more → ((later : List NamedWord) → outputs_among rest ≡ word ∷ later → other ≡ word.basis) → output_basis_with role basis other ≡ word.basis
one_basis Input names basis other rest more word e then = then more e
one_basis State names basis other rest more word e then = then more e
one_basis Fed names basis other rest more word e then = then more e
one_basis Output names basis other rest more word e then =
    let same : record { role = Output; nets = names; basis = basis } ≡ word = cc in
    ap (λ (w : NamedWord). w.basis) same

pub output_basis_is : (net : NetList) (words : List WordText) (bs : List BoundWord) (bases : List (List ℕ)) (word : NamedWord) (more : List NamedWord) → AreBound net words bs → length bases ≡ length words → outputs_among (named_words words bases) ≡ word ∷ more → output_basis bs bases ≡ word.basis
output_basis_is net [] [] bases word more bound long e = absurd (cc)
output_basis_is net [] (b ∷ bs) bases word more bound long e = absurd bound
output_basis_is net (w ∷ ws) [] bases word more bound long e = absurd bound
output_basis_is net (w ∷ ws) (b ∷ bs) [] word more bound long e = absurd (omega (arith, long))
output_basis_is net (w ∷ ws) (b ∷ bs) (basis ∷ bases) word more bound long e =
    ap (λ role. output_basis_with role basis (output_basis bs bases)) bound.0
    ∙ one_basis w.role w.nets basis (output_basis bs bases) (named_words ws bases) more word e (λ later f. output_basis_is net ws bs bases word later bound.2 (omega (arith, long)) f)

-- ---- one word

pub input_named : (net : NetList) (ns : List NamedWord) (ws : List Word) (j : ℕ) (w : Word) → AreInputs net ns ws → slice_get ws j ≡ Some w → (n : NamedWord) × (slice_get ns j ≡ Some n) × (w.role ≡ Input) × HaveNumbers net n.nets w.nets × (w.basis ≡ n.basis)
input_named net [] [] j w are got = absurd (cc)
input_named net [] (v ∷ ws) j w are got = absurd are
input_named net (n ∷ ns) [] j w are got = absurd are
input_named net (n ∷ ns) (v ∷ ws) zero w are got =
    let same : v ≡ w = cc in
    let P : Word → Type 0 = λ u. (u.role ≡ Input) × HaveNumbers net n.nets u.nets × (u.basis ≡ n.basis) in
    let moved = subst P same (are.0, are.1, are.2) in
    (n, refl, moved.0, moved.1, moved.2)
input_named net (n ∷ ns) (v ∷ ws) (suc j) w are got = input_named net ns ws j w are.3 got

pub named_input : (net : NetList) (ns : List NamedWord) (ws : List Word) (j : ℕ) (n : NamedWord) → AreInputs net ns ws → slice_get ns j ≡ Some n → (w : Word) × (slice_get ws j ≡ Some w) × (w.role ≡ Input) × HaveNumbers net n.nets w.nets × (w.basis ≡ n.basis)
named_input net [] [] j n are got = absurd (cc)
named_input net [] (v ∷ ws) j n are got = absurd are
named_input net (m ∷ ns) [] j n are got = absurd are
named_input net (m ∷ ns) (v ∷ ws) zero n are got =
    let same : m ≡ n = cc in
    let P : NamedWord → Type 0 = λ u. (v.role ≡ Input) × HaveNumbers net u.nets v.nets × (v.basis ≡ u.basis) in
    let moved = subst P same (are.0, are.1, are.2) in
    (v, refl, moved.0, moved.1, moved.2)
named_input net (m ∷ ns) (v ∷ ws) (suc j) n are got = named_input net ns ws j n are.3 got

pub inputs_long : (net : NetList) (ns : List NamedWord) (ws : List Word) → AreInputs net ns ws → length ws ≡ length ns
inputs_long net [] [] are = refl
inputs_long net [] (v ∷ ws) are = absurd are
inputs_long net (m ∷ ns) [] are = absurd are
inputs_long net (m ∷ ns) (v ∷ ws) are = ap suc (inputs_long net ns ws are.3)

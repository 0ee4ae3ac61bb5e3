-- The words of a circuit on its simplified net list.
use Rattle.std.proofs.Common.{◌≡◌, ◌⊎◌, ◌∙◌, ap, ap₂, sym, refl, inl, inr, subst, ℕ, zero, suc, ◌<◌, ◌≤◌, ◌+◌, ◌*◌, List, [], ◌∷◌, ◌++◌, length, take, drop, Some, arith, length-append, mul-suc}
use Rattle.std.specs.Prelude.{slice_get}
use Rattle.std.proofs.lemmas.List.{append_assoc}
use Rattle.lists.specs.Lists.{Has, times}
use Rattle.lists.specs.laws.HasLaws.{All_has, Has_cases, Has_left, Has_right, all_from}
use Rattle.lists.specs.laws.ReadLaws.{get_below}
use Rattle.net_core.specs.NetList.{NetList, nets}
use Rattle.net_core.specs.Sound.{IsSound}
use Rattle.net_words.specs.Binding.{Binding, BoundNet}
use Rattle.net_words.specs.BoundTo.{output_bits, output_bits_with}
use Rattle.net_words.specs.OneCycle.{IsOneCycle}
use Rattle.net_words.specs.Rebind.{AreNets, rebinding, rebound}
use Rattle.net_words.specs.Variables.{bits, bits_with}
use Rattle.net_words.specs.declared.bound.BoundWord.{BoundWord}
use Rattle.net_words.specs.declared.word.Role.{Role}
use Rattle.net_words.specs.declared.word.Role.TheVariants.{Fed, Input, Output, State}
use Rattle.net_simplify.specs.Circuit.{IsSimplifiedCircuit}
use Rattle.net_simplify.specs.Simplified.{IsSimplified, IsSimplifiedTwice}
use Rattle.net_simplify.specs.private.Words.{nets_of}
use Rattle.net_simplify.proofs.CircuitLemmas.{circuit_cycle, circuit_sound}

-- each word has k nets
abbrev AreNamed : ℕ → List BoundWord → Type 0
AreNamed k words = (word : BoundWord) → Has words word → length word.nets ≡ k

after_front : (xs ys : List ℕ) (n : ℕ) → length xs ≡ n → drop n (xs ++ ys) ≡ ys
after_front [] ys zero long = refl
after_front [] ys (suc n) long = absurd (omega arith)
after_front (x ∷ xs) ys zero long = absurd (omega arith)
after_front (x ∷ xs) ys (suc n) long = after_front xs ys n (omega arith)

front : (xs ys : List ℕ) (n : ℕ) → length xs ≡ n → take n (xs ++ ys) ≡ xs
front [] ys zero long = refl
front [] ys (suc n) long = absurd (omega arith)
front (x ∷ xs) ys zero long = absurd (omega arith)
front (x ∷ xs) ys (suc n) long = ap (λ zs. x ∷ zs) (front xs ys n (omega arith))

-- words on their own nets are the same
pub rebound_same : (k : ℕ) (words : List BoundWord) → AreNamed k words → rebound k words (nets_of words) ≡ words
rebound_same k [] named = refl
rebound_same k (word ∷ words) named =
    ap₂ (λ (w : BoundWord) (ws : List BoundWord). w ∷ ws)
    (ap (λ (ns : List ℕ). record { name = word.name; role = word.role; nets = ns }) (front word.nets (nets_of words) k (named word (0, refl))))
    (ap (rebound k words) (after_front word.nets (nets_of words) k (named word (0, refl))) ∙ rebound_same k words (λ w has. named w (suc has.0, has.1)))

nets_long : (k : ℕ) (words : List BoundWord) → AreNamed k words → length (nets_of words) ≡ k * length words
nets_long k [] named = omega arith
nets_long k (word ∷ words) named = omega (arith, length-append word.nets (nets_of words), named word (0, refl), nets_long k words (λ w has. named w (suc has.0, has.1)), mul-suc k (length words))

-- a net of a word is a bit of it, or of the output word
bit_or : (words : List BoundWord) (n : ℕ) → Has (nets_of words) n → Has (bits words) n ⊎ Has (output_bits words) n
bit_or [] n has = inl has
bit_or (word ∷ words) n has =
    elim (Has_cases word.nets (nets_of words) n has) [
      | inl own ↦ by word.role own
      | inr later ↦ elim (bit_or words n later) [
        | inl bit ↦ inl (Has_right (bits_with word.role word.nets) (bits words) n bit)
        | inr out ↦ inr (Has_right (output_bits_with word.role word.nets) (output_bits words) n out)
      ]
    ]
  where
    by : (r : Role) → Has word.nets n → Has (bits_with r word.nets ++ bits words) n ⊎ Has (output_bits_with r word.nets ++ output_bits words) n
    by Input own = inl (Has_left word.nets (bits words) n own)
    by State own = inl (Has_left word.nets (bits words) n own)
    by Fed own = inl (Has_left word.nets (bits words) n own)
    by Output own = inr (Has_left word.nets (output_bits words) n own)

named_of : (net : NetList) (binding : Binding) → IsOneCycle net binding → AreNamed binding.k binding.words
named_of net binding one word has = All_has (λ (w : BoundWord). length w.nets ≡ binding.k) binding.words word one.flat.named has

pub nets_again : (net : NetList) (binding : Binding) (list : List ℕ) → IsSound net → IsOneCycle net binding → list ≡ nets_of binding.words → AreNets net binding list
nets_again net binding list sound one is =
    let P : List ℕ → Type 0 = AreNets net binding in
    let same : rebound binding.k binding.words (nets_of binding.words) ≡ binding.words = rebound_same binding.k binding.words (named_of net binding one) in
    let Q : List BoundWord → Type 0 = λ ws. (n : ℕ) → times n (bits ws) ≤ 1 in
    let R : List BoundWord → Type 0 = λ ws. (n : ℕ) → Has (bits ws) n → Has net.inputs n in
    subst P (sym is) (record {
      flat = one.flat.latches;
      long = nets_long binding.k binding.words (named_of net binding one);
      once = subst Q (sym same) one.once;
      inputs = subst R (sym same) one.inputs;
      exist = all_from (λ n. n < nets net) (nets_of binding.words) (λ n has. elim (bit_or binding.words n has) [
        | inl bit ↦ All_has (λ m. m < nets net) net.inputs n sound.inside.inputs (one.inputs n bit)
        | inr out ↦ one.outputs n out
      ]);
    })

pub binding_again : (net : NetList) (binding made : Binding) (list : List ℕ) → IsOneCycle net binding → list ≡ nets_of binding.words → made ≡ rebinding net binding list → made ≡ binding
binding_again net binding made list one is equal =
    equal
    ∙ ap (rebinding net binding) is
    ∙ ap (λ (ws : List BoundWord). record { k = binding.k; words = ws; feeds = []; nets = nets net }) (rebound_same binding.k binding.words (named_of net binding one))
    ∙ ap₂ (λ fs (n : ℕ). record { k = binding.k; words = binding.words; feeds = fs; nets = n }) (sym one.flat.feeds) (sym one.count)

pub cycle_again : (net : NetList) (binding made : Binding) (list : List ℕ) → IsOneCycle net binding → list ≡ nets_of binding.words → made ≡ rebinding net binding list → IsOneCycle net made
cycle_again net binding made list one is equal = let P : Binding → Type 0 = IsOneCycle net in subst P (sym (binding_again net binding made list one is equal)) one

pub circuit_again : (net : NetList) (binding made : Binding) (list : List ℕ) (circuit : BoundNet) → IsOneCycle net binding → list ≡ nets_of binding.words → made ≡ rebinding net binding list → circuit ≡ record { net = net; binding = made } → circuit ≡ record { net = net; binding = binding }
circuit_again net binding made list circuit one is equal whole = whole ∙ ap (λ (b : Binding). record { net = net; binding = b }) (binding_again net binding made list one is equal)

-- ---- the nets of the words so far

pub words_more : (words : List BoundWord) (list new : List ℕ) (w : ℕ) → w < length words → list ≡ nets_of (take w words) → ((word : BoundWord) → slice_get words w ≡ Some word → new ≡ list ++ word.nets) → new ≡ nets_of (take (w + 1) words)
words_more words list new w less is made =
    let at = get_below words w less in
    made at.0 at.1 ∙ ap (λ (xs : List ℕ). xs ++ at.0.nets) is ∙ sym (next words w at.0 at.1)
  where
    next : (ws : List BoundWord) (k : ℕ) (word : BoundWord) → slice_get ws k ≡ Some word → nets_of (take (k + 1) ws) ≡ nets_of (take k ws) ++ word.nets
    next ws k word got = (let up : k + 1 ≡ suc k = omega arith in ap (λ j. nets_of (take j ws)) up) ∙ by ws k got
      where
        by : (vs : List BoundWord) (j : ℕ) → slice_get vs j ≡ Some word → nets_of (take (suc j) vs) ≡ nets_of (take j vs) ++ word.nets
        by [] j at = absurd (cc)
        by (v ∷ vs) zero at = let same : v ≡ word = cc in ends v word same
          where
            ends : (a b : BoundWord) → a ≡ b → a.nets ++ [] ≡ [] ++ b.nets
            ends a b e = append_none a.nets ∙ ap (λ (x : BoundWord). x.nets) e
              where
                append_none : (xs : List ℕ) → xs ++ [] ≡ xs
                append_none [] = refl
                append_none (x ∷ xs) = ap (λ ys. x ∷ ys) (append_none xs)
        by (v ∷ vs) (suc j) at = ap (λ (xs : List ℕ). v.nets ++ xs) (by vs j at) ∙ sym (append_assoc v.nets (nets_of (take j vs)) word.nets)

pub words_all : (words : List BoundWord) (list : List ℕ) (w : ℕ) → length words ≤ w → list ≡ nets_of (take w words) → list ≡ nets_of words
words_all words list w all is = is ∙ ap nets_of (whole words w all)
  where
    whole : (ws : List BoundWord) (k : ℕ) → length ws ≤ k → take k ws ≡ ws
    whole [] zero less = refl
    whole [] (suc k) less = refl
    whole (x ∷ xs) zero less = absurd (omega arith)
    whole (x ∷ xs) (suc k) less = ap (λ ys. x ∷ ys) (whole xs k (omega arith))

-- ---- both rounds

pub flat_between : (ends : List ℕ) (net simple : NetList) → net.latches ≡ [] → IsSimplified ends net simple → simple.latches ≡ []
flat_between ends net simple flat is = ap (λ (n : NetList). n.latches) is.made ∙ flat

pub nets_between : (ends : List ℕ) (net simple : NetList) → IsSimplified ends net simple → nets simple ≡ nets net
nets_between ends net simple is = ap nets is.made

-- the nets of the output word exist
pub ends_exist : (circuit : BoundNet) (ends : List ℕ) → IsOneCycle circuit.net circuit.binding → ends ≡ output_bits circuit.binding.words → (n : ℕ) → Has ends n → n < nets circuit.net
ends_exist circuit ends one is n has = let P : List ℕ → Type 0 = λ xs. Has xs n in one.outputs n (subst P is has)

-- the net list of the parts that are read one by one, with the words of the circuit
twice_simple : (circuit : BoundNet) (first net : NetList) (binding : Binding) (ends one : List ℕ) → first ≡ circuit.net → binding ≡ circuit.binding → ends ≡ output_bits binding.words → one ≡ ends → IsSimplifiedTwice one first net → IsSimplifiedCircuit circuit (record { net = net; binding = circuit.binding })
twice_simple circuit first net binding ends one same_net same_binding is same twice =
    let A : List ℕ → Type 0 = λ es. IsSimplifiedTwice es first net in
    let B : NetList → Type 0 = λ n. IsSimplifiedTwice (output_bits circuit.binding.words) n net in
    record { net = subst B same_net (subst A (same ∙ is ∙ ap (λ (b : Binding). output_bits b.words) same_binding) twice); binding = refl }

pub simple_is : (circuit simple : BoundNet) (first net : NetList) (binding again : Binding) (ends one : List ℕ) → first ≡ circuit.net → binding ≡ circuit.binding → again ≡ circuit.binding → ends ≡ output_bits binding.words → one ≡ ends → IsSimplifiedTwice one first net
    → simple ≡ record { net = net; binding = again } → IsSimplifiedCircuit circuit simple
simple_is circuit simple first net binding again ends one same_net same_binding same_again is same twice made =
    let P : BoundNet → Type 0 = IsSimplifiedCircuit circuit in
    subst P (sym (made ∙ ap (λ (b : Binding). record { net = net; binding = b }) same_again)) (twice_simple circuit first net binding ends one same_net same_binding is same twice)

pub simple_cycle : (circuit : BoundNet) (first net : NetList) (binding again : Binding) (ends one : List ℕ) → IsSound circuit.net → IsOneCycle circuit.net circuit.binding → first ≡ circuit.net → binding ≡ circuit.binding → again ≡ circuit.binding → ends ≡ output_bits binding.words → one ≡ ends
    → IsSimplifiedTwice one first net → IsSound net × IsOneCycle net again
simple_cycle circuit first net binding again ends one sound cycle same_net same_binding same_again is same twice =
    let simple : BoundNet = record { net = net; binding = circuit.binding } in
    let made = twice_simple circuit first net binding ends one same_net same_binding is same twice in
    let P : Binding → Type 0 = IsOneCycle net in
    (circuit_sound circuit simple sound made, subst P (sym same_again) (circuit_cycle circuit simple sound cycle made))

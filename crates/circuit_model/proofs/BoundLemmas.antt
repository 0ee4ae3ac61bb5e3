-- The circuit of words that are bound to a net list is well-formed.
use Rattle.std.proofs.Common.{◌≡◌, ◌∙◌, ap, sym, refl, subst, inl, inr, ℕ, zero, suc, ◌≤◌, List, [], ◌∷◌, ◌++◌, length, cond, arith}
use Rattle.std.specs.Prelude.{filter, not}
use Rattle.std.proofs.lemmas.List.{append-nil}
use Rattle.lists.specs.Lists.{Has, times}
use Rattle.lists.specs.laws.HasLaws.{none_at, Has_cases, Has_left, Has_right, All_has, only_one}
use Rattle.graph_core.specs.Walk.{IsChain}
use Rattle.net_core.specs.LatchValue.{LatchValue}
use Rattle.net_core.specs.NetList.{NetList}
use Rattle.net_core.specs.Sound.{IsSound, Needs}
use Rattle.net_words.specs.Binding.{BoundNet}
use Rattle.net_words.specs.BoundTo.{StandsOn, output_bits, output_bits_with}
use Rattle.net_words.specs.OneCycle.{IsOneCycle}
use Rattle.net_words.specs.Reach.{Draws, Reaches, ReachesByGates}
use Rattle.net_words.specs.Roles.{same_role}
use Rattle.net_words.specs.Variables.{bits, bits_with}
use Rattle.net_words.specs.declared.bound.BoundWord.{BoundWord}
use Rattle.net_words.specs.declared.word.Role.{Role}
use Rattle.net_words.specs.declared.word.Role.TheVariants.{Input, State, Fed, Output}
use Rattle.gf_field.specs.Ring.{IsRing}
use Rattle.gf_field.specs.Field.{HasNoZeroDivisors}
use Rattle.gf_basis.specs.Basis.{IsBasis}
use Rattle.circuit_model.specs.Word.{Word, word_nets}
use Rattle.circuit_model.specs.WellFormed.{IsWellFormed, IsWord}
use Rattle.circuit_model.specs.OfBinding.{word_with, words_of, output_basis, output_basis_with, circuit_with, HaveBases}

nets_with : (r : Role) (ns basis : List ℕ) (ws : List Word) (rest : List ℕ) → word_nets ws ≡ rest → word_nets (word_with r ns basis ++ ws) ≡ bits_with r ns ++ rest
nets_with Input ns basis ws rest same = ap (λ ms. ns ++ ms) same
nets_with State ns basis ws rest same = ap (λ ms. ns ++ ms) same
nets_with Fed ns basis ws rest same = ap (λ ms. ns ++ ms) same
nets_with Output ns basis ws rest same = same

-- the words have the bits of the binding's input and state words
pub word_nets_of : (words : List BoundWord) (bases : List (List ℕ)) → length bases ≡ length words → word_nets (words_of words bases) ≡ bits words
word_nets_of [] bases long = refl
word_nets_of (w ∷ ws) [] long = absurd (omega arith)
word_nets_of (w ∷ ws) (b ∷ bs) long = nets_with w.role w.nets b (words_of ws bs) (bits ws) (word_nets_of ws bs (omega arith))

count_with : (r : Role) (ns basis : List ℕ) (ws : List Word) (word : BoundWord) (rest : List BoundWord) → length ws ≡ length rest → length (word_with r ns basis ++ ws) ≡ length (cond (not (same_role r Output)) (word ∷ rest) rest)
count_with Input ns basis ws word rest same = ap suc same
count_with State ns basis ws word rest same = ap suc same
count_with Fed ns basis ws word rest same = ap suc same
count_with Output ns basis ws word rest same = same

-- there are as many words as input and state words of the binding
pub count_of : (words : List BoundWord) (bases : List (List ℕ)) → length bases ≡ length words → length (words_of words bases) ≡ length (filter (λ word. not (same_role word.role Output)) words)
count_of [] bases long = refl
count_of (w ∷ ws) [] long = absurd (omega arith)
count_of (w ∷ ws) (b ∷ bs) long = count_with w.role w.nets b (words_of ws bs) w (filter (λ word. not (same_role word.role Output)) ws) (count_of ws bs (omega arith))

-- a word is that of a bound word, with its basis
find_bound : (words : List BoundWord) (bases : List (List ℕ)) (w : Word) → Has (words_of words bases) w → (word : BoundWord) × (basis : List ℕ) × Has words word × Has bases basis × Has (word_with word.role word.nets basis) w
find_bound [] bases w has = absurd (none_at w has)
find_bound (u ∷ us) [] w has = absurd (none_at w has)
find_bound (u ∷ us) (b ∷ bs) w has =
    elim (Has_cases (word_with u.role u.nets b) (words_of us bs) w has) [
      | inl own ↦ (u, b, (0, refl), (0, refl), own)
      | inr later ↦ let rest = find_bound us bs w later in (rest.0, rest.1, (suc rest.2.0, rest.2.1), (suc rest.3.0, rest.3.1), rest.4)
    ]

fits : (k : ℕ) (r : Role) (ns basis : List ℕ) (w : Word) → length ns ≡ k → IsBasis k basis → Has (word_with r ns basis) w → IsWord k w
fits k Input ns basis w long is has = let P : Word → Type 0 = IsWord k in subst P (only_one _ w has) (record { nets = long; basis = is })
fits k State ns basis w long is has = let P : Word → Type 0 = IsWord k in subst P (only_one _ w has) (record { nets = long; basis = is })
fits k Fed ns basis w long is has = let P : Word → Type 0 = IsWord k in subst P (only_one _ w has) (record { nets = long; basis = is })
fits k Output ns basis w long is has = absurd (none_at w has)

-- it is an input word
is_input : (r : Role) (ns basis : List ℕ) (w : Word) → Has (word_with r ns basis) w → w.role ≡ Input
is_input Input ns basis w has = ap (λ (v : Word). v.role) (sym (only_one _ w has))
is_input State ns basis w has = ap (λ (v : Word). v.role) (sym (only_one _ w has))
is_input Fed ns basis w has = ap (λ (v : Word). v.role) (sym (only_one _ w has))
is_input Output ns basis w has = absurd (none_at w has)

-- a net of a word is a net of words
pub word_has : (ws : List Word) (w : Word) (n : ℕ) → Has ws w → Has w.nets n → Has (word_nets ws) n
word_has [] w n has in_w = absurd (none_at w has)
word_has (u ∷ us) w n (zero, got) in_w = let same : u ≡ w = cc in let P : Word → Type 0 = λ v. Has v.nets n in Has_left u.nets (word_nets us) n (subst P (sym same) in_w)
word_has (u ∷ us) w n (suc i, got) in_w = Has_right u.nets (word_nets us) n (word_has us w n (i, got) in_w)

-- without latches a chain is one of gates
gate : (net : NetList) → net.latches ≡ [] → (a b : ℕ) → Draws net a b → Needs net a b
gate net flat a b (inl needs) = needs
gate net flat a b (inr latch) = let P : List LatchValue → Type 0 = λ ls. Has ls latch.0 in absurd (none_at latch.0 (subst P flat latch.1))

chain_gates : (net : NetList) → net.latches ≡ [] → (m : ℕ) (over : List ℕ) (n : ℕ) → IsChain (Draws net) m over n → IsChain (Needs net) m over n
chain_gates net flat m [] n chain = gate net flat m n chain
chain_gates net flat m (c ∷ cs) n chain = (gate net flat m c chain.0, chain_gates net flat c cs n chain.1)

reach_gates : (net : NetList) → net.latches ≡ [] → (n : ℕ) (ends : List ℕ) → Reaches net n ends → ReachesByGates net n ends
reach_gates net flat n ends (inl has) = inl has
reach_gates net flat n ends (inr far) = inr (far.0, far.1, far.2, chain_gates net flat far.0 far.1 n far.3)

no_output_bits : (words : List BoundWord) → length (filter (λ word. same_role word.role Output) words) ≡ 0 → output_bits words ≡ []
no_output_bits [] none = refl
no_output_bits (w ∷ ws) none = by w.role none (no_output_bits ws)
  where
    by : (r : Role) → length (cond (same_role r Output) (w ∷ filter (λ word. same_role word.role Output) ws) (filter (λ word. same_role word.role Output) ws)) ≡ 0 → (length (filter (λ word. same_role word.role Output) ws) ≡ 0 → output_bits ws ≡ []) → output_bits_with r w.nets ++ output_bits ws ≡ []
    by Input none rest = rest none
    by State none rest = rest none
    by Fed none rest = rest none
    by Output none rest = absurd (omega arith)

-- these bits and this basis are those of an output word
abbrev pub IsOutputWord : List BoundWord → List (List ℕ) → List ℕ → List ℕ → Type 0
IsOutputWord words bases ns basis = (word : BoundWord) × Has words word × Has bases basis × (word.role ≡ Output) × (ns ≡ word.nets)

pub find_output : (words : List BoundWord) (bases : List (List ℕ)) → length bases ≡ length words → length (filter (λ word. same_role word.role Output) words) ≡ 1 → IsOutputWord words bases (output_bits words) (output_basis words bases)
find_output [] bases long one = absurd (omega arith)
find_output (w ∷ ws) [] long one = absurd (omega arith)
find_output (w ∷ ws) (b ∷ bs) long one = by w.role refl one (find_output ws bs (omega arith))
  where
    by : (r : Role) → w.role ≡ r → length (cond (same_role r Output) (w ∷ filter (λ word. same_role word.role Output) ws) (filter (λ word. same_role word.role Output) ws)) ≡ 1 → (length (filter (λ word. same_role word.role Output) ws) ≡ 1 → IsOutputWord ws bs (output_bits ws) (output_basis ws bs)) → IsOutputWord (w ∷ ws) (b ∷ bs) (output_bits_with r w.nets ++ output_bits ws) (output_basis_with r b (output_basis ws bs))
    by Input is one rest = let found = rest one in (found.0, (suc found.1.0, found.1.1), (suc found.2.0, found.2.1), found.3, found.4)
    by State is one rest = let found = rest one in (found.0, (suc found.1.0, found.1.1), (suc found.2.0, found.2.1), found.3, found.4)
    by Fed is one rest = let found = rest one in (found.0, (suc found.1.0, found.1.1), (suc found.2.0, found.2.1), found.3, found.4)
    by Output is one rest = (w, (0, refl), (0, refl), is, ap (λ ns. w.nets ++ ns) (no_output_bits ws (omega arith)) ∙ append-nil w.nets)

module _ (k : ℕ) (product : ℕ → ℕ → ℕ) (bound : BoundNet) (bases : List (List ℕ)) (is : IsOneCycle bound.net bound.binding) (same : bound.binding.k ≡ k) (based : HaveBases k bound.binding.words bases) where
  long_nets : (word : BoundWord) → Has bound.binding.words word → length word.nets ≡ k
  long_nets word has = All_has (λ (w : BoundWord). length w.nets ≡ bound.binding.k) bound.binding.words word is.flat.named has ∙ same

  unnamed : (n : ℕ) → (Has (word_nets (words_of bound.binding.words bases)) n → ⊥) → Has (bits bound.binding.words) n → ⊥
  unnamed n none has = let P : List ℕ → Type 0 = λ ns. Has ns n in none (subst P (sym (word_nets_of bound.binding.words bases based.long)) has)

  output : IsOutputWord bound.binding.words bases (output_bits bound.binding.words) (output_basis bound.binding.words bases)
  output = find_output bound.binding.words bases based.long is.parts.one

  output_long : length (output_bits bound.binding.words) ≡ k
  unfolding output
  output_long = ap length output.4 ∙ long_nets output.0 output.1

  held : (w : Word) (n : ℕ) → Has (words_of bound.binding.words bases) w → Has w.nets n → Has bound.net.inputs n
  held w n has in_w =
      let P : List ℕ → Type 0 = λ ns. Has ns n in
      is.inputs n (subst P (word_nets_of bound.binding.words bases based.long) (word_has (words_of bound.binding.words bases) w n has in_w))

  input : (w : Word) → Has (words_of bound.binding.words bases) w → w.role ≡ Input
  input w has = let found = find_bound bound.binding.words bases w has in is_input found.0.role found.0.nets found.1 w found.4

  pub bound_well : IsRing k product → HasNoZeroDivisors k product → IsSound bound.net → IsWellFormed (circuit_with k product bound bases)
  unfolding output
  bound_well ring no_zero_divisors sound = record {
    ring = ring;
    no_zero_divisors = no_zero_divisors;
    sound = sound;
    unfed = refl;
    few = omega (arith, is.parts.few, count_of bound.binding.words bases based.long);
    words = λ w has. let found = find_bound bound.binding.words bases w has in fits k found.0.role found.0.nets found.1 w (long_nets found.0 found.2) (based.each found.1 found.3) found.4;
    once = λ n. let P : List ℕ → Type 0 = λ ns. times n ns ≤ 1 in subst P (sym (word_nets_of bound.binding.words bases based.long)) (is.once n);
    inner = λ w has other. let same : Input ≡ Output = sym (input w has) ∙ other in absurd (cc);
    places = λ w n has in_w. let P : Role → Type 0 = λ r. StandsOn bound.net r n in subst P (sym (input w has)) (held w n has in_w);
    output = record { nets = output_long; basis = based.each (output_basis bound.binding.words bases) output.2 };
    output_role = refl;
    output_nets = is.outputs;
    starts = λ l has none. let P : List LatchValue → Type 0 = λ ls. Has ls l in absurd (none_at l (subst P is.flat.latches has));
    covered = λ n has none reaches. is.closed n has (unnamed n none) (reach_gates bound.net is.flat.latches n (output_bits bound.binding.words) reaches);
  }

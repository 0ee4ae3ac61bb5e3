-- The labels of a setting's words are labels, so that a text in them is of one polynomial.
use Rattle.std.proofs.Common.{◌≡◌, refl, subst, ℕ, suc, ◌≤◌, ◌+◌, ◌^◌, cond, List, [], ◌∷◌, ◌++◌, length, map, filter, Some, arith}
use Rattle.std.specs.Prelude.{slice_get}
use Rattle.std.specs.List.{AllByRecursion}
use Rattle.lists.specs.Lists.{Has}
use Rattle.text_core.specs.Names.{IsName}
use Rattle.net_words.specs.Binding.{AreWords}
use Rattle.net_words.specs.Roles.{is_output}
use Rattle.net_signature.specs.WordNames.{HaveNames}
use Rattle.net_words.specs.declared.word.Role.{Role}
use Rattle.net_words.specs.declared.word.Role.TheVariants.{Input, State, Fed, Output}
use Rattle.net_words.specs.declared.word.WordText.{WordText}
use Rattle.poly_mixed.specs.Labels.{AreLabels, AreDifferent, Differs, IsWord, bit_count}
use Rattle.job_input.specs.Labelling.{word_label, word_labels, name_with, output_name, labels_of}
use Rattle.job_input.proofs.LabelLemmas.{differs, labels_long}
use Rattle.poly_mixed.proofs.TextLemmas.{bits_small}

-- ---- the output word

-- one output word where its first word has this role
abbrev HasOne : WordText → List WordText → Role → Type 0
HasOne w ws r = length (cond (is_output (record w { role = r })) (w ∷ filter is_output ws) (filter is_output ws)) ≡ 1

named_with : (w : WordText) (ws : List WordText) (r : Role) → w.role ≡ r → IsName w.name → HasOne w ws w.role → (length (filter is_output ws) ≡ 1 → IsName (output_name ws)) → IsName (name_with r w.name (output_name ws))
named_with w ws Input is own one rest = rest (subst (HasOne w ws) is one)
named_with w ws State is own one rest = rest (subst (HasOne w ws) is one)
named_with w ws Fed is own one rest = rest (subst (HasOne w ws) is one)
named_with w ws Output is own one rest = own

output_named : (words : List WordText) → ((word : WordText) → Has words word → IsName word.name) → length (filter is_output words) ≡ 1 → IsName (output_name words)
output_named [] names one = absurd (omega arith)
output_named (w ∷ ws) names one = named_with w ws w.role refl (names w (0, refl)) one (λ rest. output_named ws (λ word has. names word (suc has.0, has.1)) rest)

-- ---- the other words

word_with : (k : ℕ) → 1 ≤ k → k ≤ 64 → (r : Role) (name : List ℕ) (ls : List (List ℕ × ℕ)) → IsName name → AllByRecursion IsWord ls → AllByRecursion IsWord (word_label r name k ++ ls)
word_with k some most Input name ls is rest = ((is, some, most), rest)
word_with k some most State name ls is rest = ((is, some, most), rest)
word_with k some most Fed name ls is rest = ((is, some, most), rest)
word_with k some most Output name ls is rest = rest

words_are : (k : ℕ) → 1 ≤ k → k ≤ 64 → (words : List WordText) → ((word : WordText) → Has words word → IsName word.name) → AllByRecursion IsWord (word_labels k words)
words_are k some most [] names = tt
words_are k some most (w ∷ ws) names = word_with k some most w.role w.name (word_labels k ws) (names w (0, refl)) (words_are k some most ws (λ word has. names word (suc has.0, has.1)))

different_with : (k : ℕ) (r : Role) (name : List ℕ) (ls : List (List ℕ × ℕ)) → Differs name (map (λ w. w.0) ls) → AreDifferent (map (λ w. w.0) ls) → AreDifferent (map (λ w. w.0) (word_label r name k ++ ls))
different_with k Input name ls new rest = (new, rest)
different_with k State name ls new rest = (new, rest)
different_with k Fed name ls new rest = (new, rest)
different_with k Output name ls new rest = rest

different : (k : ℕ) (us : List WordText) → ((i j : ℕ) (u v : WordText) → slice_get us i ≡ Some u → slice_get us j ≡ Some v → u.name ≡ v.name → i ≡ j) → AreDifferent (map (λ w. w.0) (word_labels k us))
different k [] apart = tt
different k (u ∷ us) apart =
    let new = differs k u.name us (λ j v got same. let place : 0 ≡ suc j = apart 0 (suc j) u v refl got same in absurd (omega arith)) in
    let rest = different k us (λ i j v w at got same. let place : suc i ≡ suc j = apart (suc i) (suc j) v w at got same in omega arith) in
    different_with k u.role u.name (word_labels k us) new rest

pub are_labels : (k : ℕ) (words : List WordText) → AreWords k words → HaveNames words → AreLabels (labels_of k words)
are_labels k words are names = record {
  output = output_named words names.names are.output;
  words = words_are k are.some are.most words names.names;
  few = omega (arith, labels_long k words, are.others);
  names = different k words names.apart;
  numbers = tt;
  nets = tt;
}

-- ---- their bits

pub few_bits : (k : ℕ) (words : List WordText) → AreLabels (labels_of k words) → bit_count (word_labels k words) + 0 ≤ 2 ^ 32
few_bits k words are = let most = bits_small (word_labels k words) are.words in omega (arith, most, are.few)

-- The labels of a circuit's certificates name all variables of the circuit.
use Rattle.std.proofs.Common.{◌≡◌, ◌∙◌, ap, sym, refl, subst, ℕ, zero, suc, ◌<◌, ◌≤◌, ◌+◌, ◌^◌, Bool, true, false, not, cond, List, [], ◌∷◌, ◌++◌, length, filter, arith}
use Rattle.std.specs.List.{AllByRecursion, range_with_len}
use Rattle.std.proofs.lemmas.List.{length-append}
use Rattle.lists.specs.laws.HasLaws.{All_has}
use Rattle.net_core.specs.NetList.{nets}
use Rattle.net_core.specs.Sound.{IsSound}
use Rattle.net_words.specs.Binding.{AreWords, BoundNet}
use Rattle.net_words.specs.OneCycle.{IsOneCycle}
use Rattle.net_words.specs.Roles.{input_count, is_output, same_role, stands_in}
use Rattle.net_words.specs.Variables.{bits, others, variables}
use Rattle.net_words.specs.declared.bound.BoundWord.{BoundWord}
use Rattle.net_words.specs.declared.word.Role.{Role}
use Rattle.net_words.specs.declared.word.Role.TheVariants.{Input, State, Fed, Output}
use Rattle.net_words.specs.declared.word.WordText.{WordText}
use Rattle.net_words.proofs.RankLemmas.{variables_long}
use Rattle.net_signature.specs.WordNames.{HaveNames}
use Rattle.poly_mixed.specs.Labels.{AreDifferent, Differs, Labelling, bit_count}
use Rattle.cert_check.specs.Labels.{NameWords}
use Rattle.cert_make.specs.CircuitLabels.{NameVariables}
use Rattle.cert_make.specs.Writable.{HaveNumbers}
use Rattle.job_input.specs.Labelling.{circuit_labels, word_label, word_labels}
use Rattle.job_input.specs.Setting.{HaveRoles}
use Rattle.job_input.proofs.CircuitLabelLemmas.{counted}
use Rattle.job_input.proofs.LabelLemmas.{labels_long}
use Rattle.answer_core.proofs.EqualLabelLemmas.{are_labels}

-- ---- the other nets

-- what is left of a range is below its end
below : (p : ℕ → Bool) (a m limit : ℕ) → a + m ≤ limit → AllByRecursion (λ n. n < limit) (filter p (range_with_len a m))
below p a zero limit low = tt
below p a (suc m) limit low =
    let rest : AllByRecursion (λ n. n < limit) (filter p (range_with_len (a + 1) m)) = below p (a + 1) m limit (omega arith) in
    elim (p a) as (λ b. AllByRecursion (λ n. n < limit) (cond b (a ∷ filter p (range_with_len (a + 1) m)) (filter p (range_with_len (a + 1) m)))) [ true ↦ (omega arith, rest) | false ↦ rest ]

-- and from its beginning on
above : (p : ℕ → Bool) (n a m : ℕ) → n < a → Differs n (filter p (range_with_len a m))
above p n a zero low = tt
above p n a (suc m) low =
    let rest : Differs n (filter p (range_with_len (a + 1) m)) = above p n (a + 1) m (omega arith) in
    elim (p a) as (λ b. Differs n (cond b (a ∷ filter p (range_with_len (a + 1) m)) (filter p (range_with_len (a + 1) m)))) [
      | true ↦ ((λ same. absurd (omega (arith, same, low))), rest)
      | false ↦ rest
    ]

different : (p : ℕ → Bool) (a m : ℕ) → AreDifferent (filter p (range_with_len a m))
different p a zero = tt
different p a (suc m) =
    let rest : AreDifferent (filter p (range_with_len (a + 1) m)) = different p (a + 1) m in
    elim (p a) as (λ b. AreDifferent (cond b (a ∷ filter p (range_with_len (a + 1) m)) (filter p (range_with_len (a + 1) m)))) [
      | true ↦ (above p a (a + 1) m (omega arith), rest)
      | false ↦ rest
    ]

-- ---- the words

first_role : List Role → Role
first_role [] = Output
first_role (r ∷ rs) = r

rest_roles : List Role → List Role
rest_roles [] = []
rest_roles (r ∷ rs) = rs

-- how many words a word with this role adds
counted_with : (r : Role) (word : BoundWord) (more : List BoundWord) (text : WordText) (texts : List WordText) → length more ≡ length texts
    → length (cond (not (same_role r Output)) (word ∷ more) more) ≡ length (cond (not (same_role r Output)) (text ∷ texts) texts)
counted_with Input word more text texts same = ap suc same
counted_with State word more text texts same = ap suc same
counted_with Fed word more text texts same = ap suc same
counted_with Output word more text texts same = same

-- there are as many input, state and fed words
counts : (words : List WordText) (bound : List BoundWord) → HaveRoles words bound → length (filter (λ (word : BoundWord). not (same_role word.role Output)) bound) ≡ input_count words
unfolding first_role rest_roles
counts [] [] same = refl
counts [] (b ∷ bs) same = absurd (cc)
counts (w ∷ ws) [] same = absurd (cc)
counts (w ∷ ws) (b ∷ bs) same =
    let more = filter (λ (word : BoundWord). not (same_role word.role Output)) bs in
    (λ i. length (cond (not (same_role (ap first_role same i) Output)) (b ∷ more) more))
    ∙ counted_with w.role b more w (filter (λ (word : WordText). not (is_output word)) ws) (counts ws bs (ap rest_roles same))

label_wide : (r : Role) (name : List ℕ) (k : ℕ) (ls : List (List ℕ × ℕ)) → AllByRecursion (λ (w : List ℕ × ℕ). w.1 ≡ k) ls → AllByRecursion (λ (w : List ℕ × ℕ). w.1 ≡ k) (word_label r name k ++ ls)
label_wide Input name k ls all = (refl, all)
label_wide State name k ls all = (refl, all)
label_wide Fed name k ls all = (refl, all)
label_wide Output name k ls all = all

labels_wide : (k : ℕ) (words : List WordText) → AllByRecursion (λ (w : List ℕ × ℕ). w.1 ≡ k) (word_labels k words)
labels_wide k [] = tt
labels_wide k (w ∷ ws) = label_wide w.role w.name k (word_labels k ws) (labels_wide k ws)

module _ (k : ℕ) (words : List WordText) (circuit : BoundNet) (are : AreWords k words) (names : HaveNames words) (sound : IsSound circuit.net) (one : IsOneCycle circuit.net circuit.binding) (same : circuit.binding.k ≡ k) (roles : HaveRoles words circuit.binding.words) where
  abbrev named : Labelling
  named = circuit_labels k words circuit

  pub names_words : NameWords circuit.binding named
  names_words =
      let P : ℕ → Type 0 = λ m. AllByRecursion (λ (w : List ℕ × ℕ). w.1 ≡ m) named.words in
      record { count = labels_long k words ∙ sym (counts words circuit.binding.words roles); bits = subst P (sym same) (labels_wide k words) }

  pub names_variables : NameVariables circuit named
  names_variables = record { words = names_words; nets = refl }

  bits_long : length (bits circuit.binding.words) ≡ bit_count named.words
  bits_long = counted k circuit.binding.words words (λ word has. All_has (λ (u : BoundWord). length u.nets ≡ circuit.binding.k) circuit.binding.words word one.flat.named has ∙ same) roles

  pub has_numbers : nets circuit.net ≤ 2 ^ 32 → HaveNumbers k circuit.net named
  has_numbers few =
      let base = are_labels k words are names in
      let p : ℕ → Bool = λ n. not (stands_in (bits circuit.binding.words) n) in
      let long : length (variables (nets circuit.net) circuit.binding.words) ≡ nets circuit.net = variables_long circuit.net circuit.binding sound.inside one in
      let parts = length-append (bits circuit.binding.words) (others (nets circuit.net) (bits circuit.binding.words)) in
      record {
        some = are.some;
        small = are.most;
        are_labels = record {
          output = base.output;
          words = base.words;
          few = base.few;
          names = base.names;
          numbers = below p 0 (nets circuit.net) (2 ^ 32) (omega (arith, few));
          nets = different p 0 (nets circuit.net);
        };
        ranks = omega (arith, long, parts, bits_long, few);
        few = few;
      }

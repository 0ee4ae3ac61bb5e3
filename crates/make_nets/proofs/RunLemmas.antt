-- What made nets compute with the words of a signature.
use Rattle.std.proofs.Common.{◌≡◌, ◌⊎◌, ◌∙◌, ap, sym, refl, subst, inl, ℕ, zero, suc, ◌<◌, ◌≤◌, ◌^◌, Bool, true, false, not, cond, List, [], ◌∷◌, ◌++◌, length, map, filter, take, drop, None, Some, Result, Ok, append-nil, arith}
use Rattle.std.specs.Prelude.{slice_get}
use Rattle.lists.specs.Lists.{Has}
use Rattle.lists.specs.laws.HasLaws.{all_from as all_has}
use Rattle.lists.specs.laws.ListLaws.{length_map as map_long, two_lists}
use Rattle.lists.specs.laws.TakeLaws.{taken_front, drop_none}
use Rattle.net_core.specs.NetList.{NetList}
use Rattle.net_core.specs.Sound.{IsSound}
use Rattle.net_core.specs.Value.{IsConsistent, index_of}
use Rattle.net_words.specs.Bind.{BindingOf}
use Rattle.net_words.specs.Binding.{AreWords, Binding}
use Rattle.net_words.specs.Roles.{is_output}
use Rattle.net_words.specs.declared.word.Role.{Role}
use Rattle.net_words.specs.declared.word.Role.TheVariants.{Input, Fed, Output}
use Rattle.net_words.specs.declared.word.WordText.{WordText}
use Rattle.net_words.proofs.BindDetermined.{binding_determined}
use Rattle.gf_field.specs.Ring.{IsRing}
use Rattle.gf_field.specs.Field.{HasNoZeroDivisors}
use Rattle.gf_basis.specs.Basis.{AreBits, IsBasis}
use Rattle.circuit_model.specs.Circuit.{Circuit, IsInput}
use Rattle.circuit_model.specs.Job.{IsJob}
use Rattle.circuit_model.specs.JobOfBinding.{job_with}
use Rattle.circuit_model.specs.OfBinding.{output_basis}
use Rattle.circuit_model.specs.Out.{IsOut}
use Rattle.circuit_model.specs.Run.{IsInputWord, HaveElements}
use Rattle.circuit_model.specs.Word.{Word, HasElement}
use Rattle.circuit_model.proofs.OutLemmas.{job_some_out}
use Rattle.circuit_model.proofs.TakenLemmas.{taken_job}
use Rattle.make_nets.specs.BindingOfMade.{binding_of}
use Rattle.make_nets.specs.Computes.{ComputesOfOne, ComputesOfTwo}
use Rattle.make_nets.specs.Form.{AllWide, HasWords, same_bases}
use Rattle.make_nets.specs.Ports.{numbered, role_nets}
use Rattle.make_nets.proofs.WordLists.{all_of, lists_of}
use Rattle.make_nets.proofs.FormLemmas.{basis_is, job_words, lists_long, lists_wide, nets_of_lists, output_nets, words_one_of}
use Rattle.net_words.proofs.SharedLemmas.{no_feeds}

few_kept : (p : WordText → Bool) (words : List WordText) → length (filter p words) ≤ length words
few_kept p [] = omega arith
few_kept p (word ∷ words) = elim (p word) as (λ b. length (cond b (word ∷ filter p words) (filter p words)) ≤ suc (length words)) [ true ↦ omega (arith, few_kept p words) | false ↦ omega (arith, few_kept p words) ]

-- such words can be bound
pub are_words : (role : Role) (count k : ℕ) (words : List WordText) → 1 ≤ k → k ≤ 64 → count ≤ 7 → HasWords role count words → AllWide k words → AreWords k words
are_words role count k words some most few has wide = record {
  some = some;
  most = most;
  one = omega (arith, has.all);
  few = omega (arith, has.all, few);
  output = has.output;
  others = omega (arith, few_kept (λ (w : WordText). not (is_output w)) words, has.all, few);
  each = all_has (λ (w : WordText). (length w.nets ≡ k) ⊎ (w.role ≡ Fed)) words (λ w h. inl (wide w h));
}

-- where the output word's element is this function of the input words' in each consistent list of bits, it is the output
out_by : (c : Circuit) (xs : List ℕ) (value : ℕ) → IsJob c → IsInput c xs → ((bits : List Bool) → IsConsistent c.net bits → HaveElements c IsInputWord xs bits → (e : ℕ) → HasElement bits c.output e → e ≡ value) → IsOut c xs value
out_by c xs value job input each =
    let found = job_some_out c xs job input in
    let out : IsOut c xs found.0 = found.1 in
    let cycle = out.is_run.open_run.each c.cycles out.ends.last out.ends.at in
    let P : ℕ → Type 0 = λ e. IsOut c xs e in
    subst P (each out.ends.last cycle.consistent cycle.inputs found.0 out.ends.element) out

one_list : (lists : List (List ℕ)) → length lists ≡ 1 → (first : List ℕ) × (lists ≡ first ∷ [])
one_list [] long = absurd (omega arith)
one_list (a ∷ []) long = (a, refl)
one_list (a ∷ b ∷ more) long = absurd (omega arith)

drop_first : (xs ys : List ℕ) (k : ℕ) → length xs ≡ k → drop k (xs ++ ys) ≡ ys
drop_first [] ys zero long = drop_none ys
drop_first [] ys (suc k) long = absurd (omega arith)
drop_first (x ∷ xs) ys zero long = absurd (omega arith)
drop_first (x ∷ xs) ys (suc k) long = drop_first xs ys k (omega arith)

module _ (k : ℕ) (product : ℕ → ℕ → ℕ) (ring : IsRing k product) (field : HasNoZeroDivisors k product) (net : NetList) (sound : IsSound net) (words : List WordText) (basis : List ℕ) (is_basis : IsBasis k basis) (cycles : ℕ) (wide : AllWide k words) (some : 1 ≤ k) (most : k ≤ 64) where
  abbrev job : Circuit
  job = job_with k product (record { net = net; binding = binding_of net words [] }) (same_bases basis words) cycles

  all_same : (ws : List WordText) (b : List ℕ) → Has (same_bases basis ws) b → IsBasis k b
  all_same [] b has = absurd (let got = has.1 in cc)
  all_same (w ∷ ws) b (zero, got) = let same : basis ≡ b = cc in subst (IsBasis k) same is_basis
  all_same (w ∷ ws) b (suc i, got) = all_same ws b (i, got)

  job_is : (count : ℕ) → count ≤ 7 → HasWords Input count words → BindingOf net words [] (Ok (binding_of net words [])) → IsJob job
  job_is count few has binds =
      taken_job k product (record { net = net; binding = binding_of net words [] }) words [] (same_bases basis words) cycles ring field sound
      (are_words Input count k words some most few has wide) (no_feeds k (map (λ (w : WordText). w.role) words)) binds (map_long (λ (w : WordText). basis) words) (all_same words)

  out_word : (count : ℕ) → HasWords Input count words → job.output ≡ record { role = Output; nets = role_nets Output 0 words; basis = basis }
  out_word count has =
      ap (λ (nets : List ℕ). record { role = Output; nets = nets; basis = output_basis (numbered 0 words) (same_bases basis words) }) (output_nets 0 words)
      ∙ ap (λ (b : List ℕ). record { role = Output; nets = role_nets Output 0 words; basis = b }) (basis_is 0 0 words basis has.output)

  abbrev word_on : List ℕ → Word
  word_on nets = record { role = Input; nets = nets; basis = basis }

  words_on : (count : ℕ) → HasWords Input count words → job.words ≡ map word_on (lists_of 0 words)
  words_on count has = job_words Input 0 words basis (λ e. absurd (cc)) (words_one_of Input count words (λ e. absurd (cc)) has)

  lists_are : (count : ℕ) → HasWords Input count words → (length (lists_of 0 words) ≡ count) × (role_nets Input 0 words ≡ all_of (lists_of 0 words))
  lists_are count has =
      let one = words_one_of Input count words (λ e. absurd (cc)) has in
      (lists_long Input 0 words (λ e. absurd (cc)) one ∙ has.others, nets_of_lists Input 0 words (λ e. absurd (cc)) one)

  output_bits_are : (count : ℕ) (bits : List Bool) (e : ℕ) → HasWords Input count words → HasElement bits job.output e → AreBits basis e (index_of bits (role_nets Output 0 words))
  output_bits_are count bits e has is =
      let P : Word → Type 0 = λ w. HasElement bits w e in
      (subst P (out_word count has) is).sum

  one_bound : (bound : Binding) → BindingOf net words [] (Ok (binding_of net words [])) → BindingOf net words [] (Ok bound) → bound ≡ binding_of net words []
  one_bound bound binds is = same (binding_determined net words [] (Ok bound) (Ok (binding_of net words [])) is binds)
    where
      same : {F : Type 0} {x y : Binding} → ◌≡◌ {A = Result Binding F} (Ok x) (Ok y) → x ≡ y
      same e = cc

  -- where the output word's element is f of those of the two input words in each consistent list of bits, f is computed
  pub computes_two : (f : ℕ → ℕ → ℕ) → HasWords Input 2 words → BindingOf net words [] (Ok (binding_of net words []))
      → ((bits : List Bool) → IsConsistent net bits → (a b e : ℕ) → a < 2 ^ k → b < 2 ^ k → AreBits basis a (index_of bits (take k (role_nets Input 0 words))) → AreBits basis b (index_of bits (drop k (role_nets Input 0 words))) → AreBits basis e (index_of bits (role_nets Output 0 words)) → e ≡ f a b)
      → ComputesOfTwo k product net words basis cycles f
  computes_two f has binds each =
      let lists = two_lists (lists_of 0 words) (lists_are 2 has).0 in
      let first : List ℕ = lists.0 in
      let second : List ℕ = lists.1 in
      let nets : role_nets Input 0 words ≡ lists.0 ++ lists.1 = (lists_are 2 has).1 ∙ (ap all_of lists.2 ∙ ap (λ (v : List ℕ). lists.0 ++ v) (append-nil lists.1)) in
      let long : length lists.0 ≡ k = lists_wide k 0 words wide lists.0 (0, ap (λ (ls : List (List ℕ)). slice_get ls 0) lists.2) in
      let left : take k (role_nets Input 0 words) ≡ lists.0 = ap (take k) nets ∙ taken_front lists.0 lists.1 k long in
      let right : drop k (role_nets Input 0 words) ≡ lists.1 = ap (drop k) nets ∙ drop_first lists.0 lists.1 k long in
      let are : job.words ≡ word_on lists.0 ∷ word_on lists.1 ∷ [] = words_on 2 has ∙ ap (λ (ls : List (List ℕ)). map word_on ls) lists.2 in
      let out : (a b : ℕ) → a < 2 ^ k → b < 2 ^ k → IsOut job (a ∷ b ∷ []) (f a b) = λ a b low high. out_by job (a ∷ b ∷ []) (f a b) (job_is 2 (omega arith) has binds) (input a b low high are)
      (λ bits consistent inputs e is. each bits consistent a b e low high
      (subst (λ (v : List ℕ). AreBits basis a (index_of bits v)) (sym left) (on lists.0 bits a (inputs 0 (word_on lists.0) a (ap (λ (ws : List Word). slice_get ws 0) are) refl (role lists.0))))
      (subst (λ (v : List ℕ). AreBits basis b (index_of bits v)) (sym right) (on lists.1 bits b (inputs 1 (word_on lists.1) b (ap (λ (ws : List Word). slice_get ws 1) are) refl (role lists.1))))
      (output_bits_are 2 bits e has is)) in
      record {
        binding = binding_of net words [];
        binds = binds;
        out = λ bound is a b low high. let P : Binding → Type 0 = λ x. IsOut (job_with k product (record { net = net; binding = x }) (same_bases basis words) cycles) (a ∷ b ∷ []) (f a b) in subst P (sym (one_bound bound binds is)) (out a b low high);
      }
    where
      role : (nets : List ℕ) → IsInputWord (word_on nets)
      role nets = refl

      on : (nets : List ℕ) (bits : List Bool) (x : ℕ) → HasElement bits (word_on nets) x → AreBits basis x (index_of bits nets)
      on nets bits x is = is.sum

      input : (a b : ℕ) {v w : Word} → a < 2 ^ k → b < 2 ^ k → job.words ≡ v ∷ w ∷ [] → IsInput job (a ∷ b ∷ [])
      input a b low high are = record { long = sym (ap (λ (ws : List Word). length ws) are); elements = λ x has. by x has }
        where
          by : (x : ℕ) → Has (a ∷ b ∷ []) x → x < 2 ^ k
          by x (zero, got) = let same : a ≡ x = cc in omega (arith, same, low)
          by x (suc zero, got) = let same : b ≡ x = cc in omega (arith, same, high)
          by x (suc (suc i), got) = let none : None ≡ Some x = got in absurd (cc)

  -- a net over one input word computes f where each list of bits that agrees with it says so
  pub computes_one : (f : ℕ → ℕ) → HasWords Input 1 words → BindingOf net words [] (Ok (binding_of net words []))
      → ((bits : List Bool) → IsConsistent net bits → (a e : ℕ) → a < 2 ^ k → AreBits basis a (index_of bits (role_nets Input 0 words)) → AreBits basis e (index_of bits (role_nets Output 0 words)) → e ≡ f a)
      → ComputesOfOne k product net words basis cycles f
  computes_one f has binds each =
      let lists = one_list (lists_of 0 words) (lists_are 1 has).0 in
      let nets : role_nets Input 0 words ≡ lists.0 = (lists_are 1 has).1 ∙ (ap all_of lists.1 ∙ append-nil lists.0) in
      let are : job.words ≡ word_on lists.0 ∷ [] = words_on 1 has ∙ ap (λ (ls : List (List ℕ)). map word_on ls) lists.1 in
      let out : (a : ℕ) → a < 2 ^ k → IsOut job (a ∷ []) (f a) = λ a low. out_by job (a ∷ []) (f a) (job_is 1 (omega arith) has binds) (input a low are)
      (λ bits consistent inputs e is. each bits consistent a e low
      (subst (λ (v : List ℕ). AreBits basis a (index_of bits v)) (sym nets) (on lists.0 bits a (inputs 0 (word_on lists.0) a (ap (λ (ws : List Word). slice_get ws 0) are) refl (role lists.0))))
      (output_bits_are 1 bits e has is)) in
      record {
        binding = binding_of net words [];
        binds = binds;
        out = λ bound is a low. let P : Binding → Type 0 = λ x. IsOut (job_with k product (record { net = net; binding = x }) (same_bases basis words) cycles) (a ∷ []) (f a) in subst P (sym (one_bound bound binds is)) (out a low);
      }
    where
      role : (nets : List ℕ) → IsInputWord (word_on nets)
      role nets = refl

      on : (nets : List ℕ) (bits : List Bool) (x : ℕ) → HasElement bits (word_on nets) x → AreBits basis x (index_of bits nets)
      on nets bits x is = is.sum

      input : (a : ℕ) {v : Word} → a < 2 ^ k → job.words ≡ v ∷ [] → IsInput job (a ∷ [])
      input a low are = record { long = sym (ap (λ (ws : List Word). length ws) are); elements = λ x has. by x has }
        where
          by : (x : ℕ) → Has (a ∷ []) x → x < 2 ^ k
          by x (zero, got) = let same : a ≡ x = cc in omega (arith, same, low)
          by x (suc i, got) = let none : None ≡ Some x = got in absurd (cc)

-- The nets of a fed word, an input word and the output word.
use Rattle.std.proofs.Common.{◌≡◌, ◌≢◌, ◌⊎◌, ◌∙◌, ap, sym, refl, subst, inl, inr, ℕ, zero, suc, ◌<◌, ◌≤◌, ◌+◌, List, [], ◌∷◌, ◌++◌, length, length-append, append-nil, map, ◌↔◌, Some, arith}
use Rattle.std.specs.Prelude.{slice_get}
use Rattle.std.specs.List.{range_with_len}
use Rattle.std.proofs.lemmas.List.FromFn.{get_or-range_with_len, length-range_with_len}
use Rattle.lists.specs.Lists.{Has}
use Rattle.lists.specs.laws.HasLaws.{all_from as all_has}
use Rattle.net_words.specs.Binding.{AreWords}
use Rattle.net_words.specs.Variables.{bits}
use Rattle.net_words.specs.declared.word.Role.TheVariants.{Input, State, Fed, Output}
use Rattle.net_words.specs.declared.word.WordText.{WordText}
use Rattle.circuit_model.specs.JobOfBinding.{job_words_of}
use Rattle.make_laws.proofs.DigitRunLemmas.{has_place}
use Rattle.make_nets.specs.Form.{role_count, same_bases}
use Rattle.make_nets.specs.Ports.{numbered, role_nets, word_names}
use Rattle.make_laws.specs.Held.{net_at}
use Rattle.mult_gen.specs.Form.{AreWide}
use Rattle.mult_digit.specs.DigitForm.{AreDigitWords}

-- a net of a range by its place
pub range_at : (a n i : ℕ) → i < n → net_at (range_with_len a n) i ≡ a + i
range_at a n i less = get_or-range_with_len a n i 0 less

pub has_range : (a n i : ℕ) → i < n → Has (range_with_len a n) (a + i)
has_range a n i less = subst (λ (m : ℕ). Has (range_with_len a n) m) (range_at a n i less) (has_place (range_with_len a n) i (omega (arith, less, length-range_with_len a n)))

module _ (k : ℕ) (a b z : WordText) (fed : a.role ≡ Fed) (none : a.nets ≡ []) (input : b.role ≡ Input) (output : z.role ≡ Output) (b_long : length b.nets ≡ k) (z_long : length z.nets ≡ k) where
  three_inputs : role_nets Input 0 (a ∷ b ∷ z ∷ []) ≡ range_with_len 0 k
  three_inputs = rw (fed, none, input, output, b_long) (append-nil (range_with_len 0 k))

  three_outputs : role_nets Output 0 (a ∷ b ∷ z ∷ []) ≡ range_with_len k k
  three_outputs =
      let start : 0 + 0 + k ≡ k = omega arith in
      rw (fed, none, input, output, b_long, z_long, start) (append-nil (range_with_len k k))

  three_states : role_nets State 0 (a ∷ b ∷ z ∷ []) ≡ []
  three_states = rw (fed, input, output) refl

  three_long : length (word_names (a ∷ b ∷ z ∷ [])) ≡ k + k
  three_long = omega (arith, length-append a.nets (b.nets ++ (z.nets ++ [])), length-append b.nets (z.nets ++ []), length-append z.nets [], ap (λ xs. length xs) none, b_long, z_long)

  three_bits : bits (numbered 0 (a ∷ b ∷ z ∷ [])) ≡ range_with_len 0 k
  three_bits = rw (fed, none, input, output, b_long) (append-nil (range_with_len 0 k))

  three_job : (basis : List ℕ) → job_words_of (numbered 0 (a ∷ b ∷ z ∷ [])) (basis ∷ basis ∷ basis ∷ []) ≡ record { role = Fed; nets = []; basis = basis } ∷ record { role = Input; nets = range_with_len 0 k; basis = basis } ∷ []
  three_job basis = rw (fed, none, input, output, b_long) refl

  three_bound : AreWords k (a ∷ b ∷ z ∷ []) ↔ ((1 ≤ k) × (k ≤ 64))
  three_bound = (
    (λ are. (are.some, are.most)),
    λ range. record {
      some = range.0;
      most = range.1;
      one = omega arith;
      few = omega arith;
      output = rw (fed, input, output) refl;
      others = rw (fed, input, output) (omega arith);
      each = all_has (λ (w : WordText). (length w.nets ≡ k) ⊎ (w.role ≡ Fed)) (a ∷ b ∷ z ∷ []) each;
    },
  )
    where
      each : (w : WordText) → Has (a ∷ b ∷ z ∷ []) w → (length w.nets ≡ k) ⊎ (w.role ≡ Fed)
      each w (zero, got) = let same : a ≡ w = cc in inr (ap (λ (v : WordText). v.role) (sym same) ∙ fed)
      each w (suc zero, got) = let same : b ≡ w = cc in inl (ap (λ (v : WordText). length v.nets) (sym same) ∙ b_long)
      each w (suc (suc zero), got) = let same : z ≡ w = cc in inl (ap (λ (v : WordText). length v.nets) (sym same) ∙ z_long)
      each w (suc (suc (suc i)), got) = absurd (cc)

module _ (k : ℕ) (words : List WordText) (are : AreDigitWords words) (wide : AreWide k words) where
  in_words : (i : ℕ) (word : WordText) → slice_get (are.a ∷ are.b ∷ are.z ∷ []) i ≡ Some word → Has words word
  in_words i word got = subst (λ (ws : List WordText). Has ws word) (sym are.are) (i, got)

  input_unfed : Input ≢ Fed
  input_unfed e = cc

  output_unfed : Output ≢ Fed
  output_unfed e = cc

  b_wide : length are.b.nets ≡ k
  b_wide = wide are.b (in_words 1 are.b refl) (λ e. input_unfed (sym are.input.role ∙ e))

  z_wide : length are.z.nets ≡ k
  z_wide = wide are.z (in_words 2 are.z refl) (λ e. output_unfed (sym are.output.role ∙ e))

  pub input_nets : role_nets Input 0 words ≡ range_with_len 0 k
  input_nets = ap (role_nets Input 0) are.are ∙ three_inputs k are.a are.b are.z are.fed.role are.none are.input.role are.output.role b_wide z_wide

  pub output_nets_are : role_nets Output 0 words ≡ range_with_len k k
  output_nets_are = ap (role_nets Output 0) are.are ∙ three_outputs k are.a are.b are.z are.fed.role are.none are.input.role are.output.role b_wide z_wide

  pub no_states : role_nets State 0 words ≡ []
  no_states = ap (role_nets State 0) are.are ∙ three_states k are.a are.b are.z are.fed.role are.none are.input.role are.output.role b_wide z_wide

  pub names_long : length (word_names words) ≡ k + k
  names_long = ap (λ ws. length (word_names ws)) are.are ∙ three_long k are.a are.b are.z are.fed.role are.none are.input.role are.output.role b_wide z_wide

  pub input_long : length (role_nets Input 0 words) ≡ k
  input_long = ap (λ xs. length xs) input_nets ∙ length-range_with_len 0 k

  pub output_long : length (role_nets Output 0 words) ≡ k
  output_long = ap (λ xs. length xs) output_nets_are ∙ length-range_with_len k k

  pub input_at : (i : ℕ) → i < k → net_at (role_nets Input 0 words) i ≡ i
  input_at i less = ap (λ xs. net_at xs i) input_nets ∙ (range_at 0 k i less ∙ omega arith)

  pub output_at : (i : ℕ) → i < k → net_at (role_nets Output 0 words) i ≡ k + i
  output_at i less = ap (λ xs. net_at xs i) output_nets_are ∙ range_at k k i less

  pub fed_nets_are_unfed : (word : WordText) → Has words word → word.role ≡ Fed → word.nets ≡ []
  fed_nets_are_unfed word has is = by (subst (λ (ws : List WordText). Has ws word) are.are has)
    where
      by : Has (are.a ∷ are.b ∷ are.z ∷ []) word → word.nets ≡ []
      by (zero, got) = let same : are.a ≡ word = cc in subst (λ (w : WordText). w.nets ≡ []) same are.none
      by (suc zero, got) = let same : are.b ≡ word = cc in absurd (input_unfed (sym are.input.role ∙ (ap (λ (w : WordText). w.role) same ∙ is)))
      by (suc (suc zero), got) = let same : are.z ≡ word = cc in absurd (output_unfed (sym are.output.role ∙ (ap (λ (w : WordText). w.role) same ∙ is)))
      by (suc (suc (suc i)), got) = absurd (cc)

  pub bits_are : bits (numbered 0 words) ≡ range_with_len 0 k
  bits_are = ap (λ ws. bits (numbered 0 ws)) are.are ∙ three_bits k are.a are.b are.z are.fed.role are.none are.input.role are.output.role b_wide z_wide

  pub job_words_are : (basis : List ℕ) → job_words_of (numbered 0 words) (same_bases basis words) ≡ record { role = Fed; nets = []; basis = basis } ∷ record { role = Input; nets = range_with_len 0 k; basis = basis } ∷ []
  job_words_are basis = ap (λ ws. job_words_of (numbered 0 ws) (same_bases basis ws)) are.are ∙ three_job k are.a are.b are.z are.fed.role are.none are.input.role are.output.role b_wide z_wide basis

  pub bound_words : 1 ≤ k → k ≤ 64 → AreWords k words
  bound_words some most = subst (AreWords k) (sym are.are) ((three_bound k are.a are.b are.z are.fed.role are.none are.input.role are.output.role b_wide z_wide).1 (some, most))

  pub one_output : role_count Output words ≡ 1
  one_output = ap (role_count Output) are.are ∙ counted are.a are.b are.z are.fed.role are.input.role are.output.role
    where
      counted : (a b z : WordText) → a.role ≡ Fed → b.role ≡ Input → z.role ≡ Output → role_count Output (a ∷ b ∷ z ∷ []) ≡ 1
      counted a b z fed input output = rw (fed, input, output) refl

  pub first_role : slice_get (map (λ (w : WordText). w.role) words) 0 ≡ Some Fed
  first_role = ap (λ (ws : List WordText). slice_get (map (λ (w : WordText). w.role) ws) 0) are.are ∙ ap Some are.fed.role

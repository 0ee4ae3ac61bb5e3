-- The numbers of nets of words, word by word.
use Rattle.std.proofs.Common.{◌≡◌, ◌∙◌, ap, ap₂, sym, ℕ, suc, ◌<◌, ◌≤◌, ◌+◌, List, [], ◌∷◌, ◌++◌, length, drop, get_or, append-nil, drop_of_length-le, arith}
use Rattle.std.specs.Prelude.{if◌then◌else◌}
use Rattle.std.specs.List.{range_with_len}
use Rattle.std.proofs.lemmas.List.{append_assoc}
use Rattle.lists.specs.laws.ListLaws.{range_more as range_suc}
use Rattle.lists.specs.laws.TakeLaws.{drop_read}
use Rattle.net_words.specs.Roles.{same_role}
use Rattle.net_words.specs.declared.word.Role.{Role}
use Rattle.net_words.specs.declared.word.WordText.{WordText}
use Rattle.make_nets.specs.Ports.{role_nets, starts_of, word_names}
use Rattle.make_nets.proofs.LabelLemmas.{append_long}

pub range_step : (a i : ℕ) (old list : List ℕ) → list ≡ old ++ range_with_len a i → list ++ (a + i) ∷ [] ≡ old ++ range_with_len a (i + 1)
range_step a i old list is =
    let e : suc i ≡ i + 1 = omega arith in
    ap (λ (v : List ℕ). v ++ (a + i) ∷ []) is ∙ (append_assoc old (range_with_len a i) ((a + i) ∷ []) ∙ ap (λ (v : List ℕ). old ++ v) (sym (range_suc a i) ∙ ap (range_with_len a) e))

-- one word more, of so many nets
module _ (words : List WordText) (i : ℕ) (word : WordText) (count long : ℕ) (less : i < length words) (is : word ≡ get_or words i word) (long_is : long ≡ length word.nets) where
  pub count_step : count + length (word_names (drop i words)) ≡ length (word_names words) → count + long + length (word_names (drop (i + 1) words)) ≡ length (word_names words)
  count_step before =
      let opened : length (word_names (drop i words)) ≡ length word.nets + length (word_names (drop (i + 1) words)) = ap (λ ws. length (word_names ws)) (drop_read words i word less is) ∙ append_long word.nets (word_names (drop (i + 1) words)) in
      omega (arith, opened, long_is, before)

  pub count_room : count + length (word_names (drop i words)) ≡ length (word_names words) → count + long ≤ length (word_names words)
  count_room before = omega (arith, count_step before)

  pub role_step : (role : Role) (list new : List ℕ) → list ++ role_nets role count (drop i words) ≡ role_nets role 0 words → new ≡ list ++ (if same_role word.role role then range_with_len count (length word.nets) else []) → new ++ role_nets role (count + long) (drop (i + 1) words) ≡ role_nets role 0 words
  role_step role list new before more =
      let own : List ℕ = if same_role word.role role then range_with_len count (length word.nets) else [] in
      ap₂ (λ v n. v ++ role_nets role (count + n) (drop (i + 1) words)) more long_is
      ∙ append_assoc list own (role_nets role (count + length word.nets) (drop (i + 1) words))
      ∙ ap (λ ws. list ++ role_nets role count ws) (sym (drop_read words i word less is))
      ∙ before

  pub start_step : (role : Role) (list new : List ℕ) → list ++ starts_of role count (drop i words) ≡ starts_of role 0 words → new ≡ list ++ (if same_role word.role role then count ∷ [] else []) → new ++ starts_of role (count + long) (drop (i + 1) words) ≡ starts_of role 0 words
  start_step role list new before more =
      let own : List ℕ = if same_role word.role role then count ∷ [] else [] in
      ap₂ (λ v n. v ++ starts_of role (count + n) (drop (i + 1) words)) more long_is
      ∙ append_assoc list own (starts_of role (count + length word.nets) (drop (i + 1) words))
      ∙ ap (λ ws. list ++ starts_of role count ws) (sym (drop_read words i word less is))
      ∙ before

-- no word more
module _ (words : List WordText) (i count : ℕ) (past : length words ≤ i) where
  pub count_done : count + length (word_names (drop i words)) ≡ length (word_names words) → count ≡ length (word_names words)
  count_done before =
      let none : length (word_names (drop i words)) ≡ 0 = ap (λ ws. length (word_names ws)) (drop_of_length-le words past) in
      omega (arith, none, before)

  pub role_done : (role : Role) (list : List ℕ) → list ++ role_nets role count (drop i words) ≡ role_nets role 0 words → list ≡ role_nets role 0 words
  role_done role list before = sym (append-nil list) ∙ ap (λ ws. list ++ role_nets role count ws) (sym (drop_of_length-le words past)) ∙ before

  pub start_done : (role : Role) (list : List ℕ) → list ++ starts_of role count (drop i words) ≡ starts_of role 0 words → list ≡ starts_of role 0 words
  start_done role list before = sym (append-nil list) ∙ ap (λ ws. list ++ starts_of role count ws) (sym (drop_of_length-le words past)) ∙ before

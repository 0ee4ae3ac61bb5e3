-- Lists of bases, for the words of a top and then for those of blocks, one after another.
use Rattle.std.proofs.Common.{◌≡◌, ◌⊎◌, ◌∙◌, ap, sym, refl, subst, inl, inr, ℕ, ◌+◌, ◌<◌, ◌≤◌, List, [], ◌∷◌, ◌++◌, length, map, drop, get_or, Some, Result, Ok, Err, arith}
use Rattle.std.specs.Prelude.{slice_get}
use Rattle.std.proofs.lemmas.Bool.{cases_lt}
use Rattle.std.proofs.lemmas.List.{drop_more, length-append, length-map, map-append}
use Rattle.std.proofs.lemmas.Option.{get_or_from_slice_get, slice_get_within}
use Rattle.lists.specs.laws.ReadLaws.{get_front}
use Rattle.net_signature.specs.Body.{BlockValue}
use Rattle.net_words.specs.declared.word.WordText.{WordText}
use Rattle.gf_basis.specs.BasisParts.{elements_of}
use Rattle.gf_basis.specs.declared.bases.Basis.{Basis}
use Rattle.job_words.specs.declared.signature_fault.SignatureFault.{SignatureFault}
use Rattle.job_input.specs.Setting.{AreBasesOver}
use Rattle.job_input.specs.SettingOf.{BasesOf}
use Rattle.job_input.proofs.SettingWordLemmas.{bases_long}
use Rattle.block_compose.specs.Composed.{HasBases}
use Rattle.answer_composition.specs.Compose.{WithBlocks}
use Rattle.answer_composition.specs.private.Composing.{AreListsOf}

-- ---- places in a longer list

pub last_at : {A : Type 0} (xs : List A) (x : A) → slice_get (xs ++ x ∷ []) (length xs) ≡ Some x
last_at [] x = refl
last_at (y ∷ xs) x = last_at xs x

module _ (k : ℕ) (product : ℕ → ℕ → ℕ) where
  -- ---- what the rest may give, the whole may give

  abbrev elements : List (List Basis) → List (List (List ℕ))
  elements lists = map (map elements_of) lists

  one_ok : (lists : List (List (List ℕ))) (block : BlockValue) (blocks : List BlockValue) (bases : List (List ℕ)) → BasesOf k product block.words (Ok bases) → (outcome : Result (List (List (List ℕ))) SignatureFault) → WithBlocks k product (lists ++ bases ∷ []) blocks outcome → WithBlocks k product lists (block ∷ blocks) outcome
  one_ok lists block blocks bases are (Ok all) rest = (bases, are, rest)
  one_ok lists block blocks bases are (Err fault) rest = inr (bases, are, rest)

  -- the lists with that of the next block
  pub lists_step : (old new : List (List Basis)) (list : List Basis) (blocks : List BlockValue) (i : ℕ) (d block : BlockValue) → i < length blocks → block ≡ get_or blocks i d → new ≡ old ++ list ∷ [] → BasesOf k product block.words (Ok (map elements_of list)) → (outcome : Result (List (List (List ℕ))) SignatureFault) → WithBlocks k product (map (map elements_of) new) (drop (i + 1) blocks) outcome → WithBlocks k product (map (map elements_of) old) (drop i blocks) outcome
  lists_step old new list blocks i d block less is new_is are outcome rest =
      let more : List BlockValue = drop (i + 1) blocks in
      let P : List BlockValue → Type 0 = λ bs. WithBlocks k product (elements old) bs outcome in
      let Q : BlockValue → Type 0 = λ b. BasesOf k product b.words (Ok (map elements_of list)) in
      let R : List (List (List ℕ)) → Type 0 = λ ls. WithBlocks k product ls more outcome in
      subst P (sym (drop_more blocks i d less)) (one_ok (elements old) (get_or blocks i d) more (map elements_of list) (subst Q is are) outcome (subst R (ap elements new_is ∙ map-append (map elements_of) old (list ∷ [])) rest))

  -- ---- the lists of the first blocks

  pub record AreListsTo (words : List WordText) (blocks : List BlockValue) (n : ℕ) (bases : List (List Basis)) : Type 0 where
    pub long : length bases ≡ n + 1
    pub top : HasBases k product bases 0 words
    pub each : (number : ℕ) (block : BlockValue) → number < n → slice_get blocks number ≡ Some block → HasBases k product bases (number + 1) block.words

  -- the bases of words, as a list of its own
  one_list : (bases : List (List Basis)) (n : ℕ) (words : List WordText) (list : List Basis) → slice_get bases n ≡ Some list → length list ≡ length words → AreBasesOver k product list → HasBases k product bases n words
  one_list bases n words list at long over = record { list = list; at = at; long = long; each = over }

  -- one list more keeps the others
  kept : (bases : List (List Basis)) (more : List (List Basis)) (n : ℕ) (words : List WordText) → HasBases k product bases n words → HasBases k product (bases ++ more) n words
  kept bases more n words has = record { list = has.list; at = get_front bases more n has.list has.at; long = has.long; each = has.each }

  pub to_step : (words : List WordText) (blocks : List BlockValue) (old new : List (List Basis)) (list : List Basis) (i : ℕ) (d block : BlockValue) → i < length blocks → block ≡ get_or blocks i d → new ≡ old ++ list ∷ [] → BasesOf k product block.words (Ok (map elements_of list)) → AreBasesOver k product list → AreListsTo words blocks i old → AreListsTo words blocks (i + 1) new
  to_step words blocks old new list i d block less is new_is are over to =
      let P : List (List Basis) → Type 0 = AreListsTo words blocks (i + 1) in
      subst P (sym new_is) (record { long = length-append old (list ∷ []) ∙ ap (λ n. n + 1) to.long; top = kept old (list ∷ []) 0 words to.top; each = each })
    where
      own : (other : BlockValue) → slice_get blocks i ≡ Some other → HasBases k product (old ++ list ∷ []) (i + 1) other.words
      own other got =
          let same : block ≡ other = is ∙ get_or_from_slice_get blocks i other d got in
          let Q : BlockValue → Type 0 = λ b. HasBases k product (old ++ list ∷ []) (i + 1) b.words in
          let R : ℕ → Type 0 = λ n. slice_get (old ++ list ∷ []) n ≡ Some list in
          subst Q same (one_list (old ++ list ∷ []) (i + 1) block.words list (subst R to.long (last_at old list)) (sym (length-map list elements_of) ∙ bases_long k product block.words (map elements_of list) are) over)

      each : (number : ℕ) (other : BlockValue) → number < i + 1 → slice_get blocks number ≡ Some other → HasBases k product (old ++ list ∷ []) (number + 1) other.words
      each number other below got = by (cases_lt number i)
        where
          by : (number < i) ⊎ (i ≤ number) → HasBases k product (old ++ list ∷ []) (number + 1) other.words
          by (inl before) = kept old (list ∷ []) (number + 1) other.words (to.each number other before got)
          by (inr after) =
              let same : number ≡ i = omega (arith, below, after) in
              let S : ℕ → Type 0 = λ n. slice_get blocks n ≡ Some other in
              let T : ℕ → Type 0 = λ n. HasBases k product (old ++ list ∷ []) (n + 1) other.words in
              subst T (sym same) (own other (subst S same got))

  pub to_all : (words : List WordText) (blocks : List BlockValue) (bases : List (List Basis)) (n : ℕ) → length blocks ≤ n → AreListsTo words blocks n bases → AreListsOf k product words blocks bases
  to_all words blocks bases n past to = record { top = to.top; each = λ number block got. to.each number block (let within = slice_get_within blocks number block got in omega (arith, within, past)) got }

-- What is known of a top over a setting, and of the polynomial that it is composed to.
use Rattle.std.proofs.Common.{◌≡◌, ◌≢◌, ◌∙◌, ap, refl, subst, ℕ, suc, ◌+◌, List, [], ◌∷◌, length, Some, Ok, arith}
use Rattle.std.specs.Prelude.{slice_get}
use Rattle.std.specs.List.{AllByRecursion}
use Rattle.std.proofs.lemmas.List.{length-map}
use Rattle.lists.specs.Lists.{Has}
use Rattle.net_blif.specs.Design.{ModelValue}
use Rattle.net_signature.specs.Body.{BlockValue}
use Rattle.net_words.specs.declared.word.Role.TheVariants.{Fed}
use Rattle.net_words.specs.declared.word.WordText.{WordText}
use Rattle.gf_basis.specs.BasisParts.{elements_of}
use Rattle.gf_basis.specs.declared.bases.Basis.{Basis}
use Rattle.poly_mixed.specs.Labels.{bit_count}
use Rattle.poly_mixed.specs.Polynomial.{Terms}
use Rattle.poly_mixed.specs.Text.{HasNames, HasWordNames}
use Rattle.poly_mixed.specs.laws.Uniqueness.{InFirstWords}
use Rattle.compose_model.specs.Hierarchy.{bases_at, Hierarchy}
use Rattle.block_compose.specs.Composed.{hierarchy_of, Composes, IsComposable}
use Rattle.block_compose.proofs.GivenLemmas.{bases_read}
use Rattle.job_input.specs.HierarchyIn.{TopBinds}
use Rattle.job_input.specs.Labelling.{labels_of, word_labels}
use Rattle.job_input.specs.Setting.{IsReady}
use Rattle.job_input.specs.declared.setting.Setting.{Setting}
use Rattle.answer_composition.specs.private.Composing.{AreListsOf}
use Rattle.answer_composition.proofs.ComposeStopLemmas.{counted}
use Rattle.stage_model.proofs.SharedLemmas.{named_terms}

-- no word is fed, one by one
pub all_unfed : (words : List WordText) → ((word : WordText) → Has words word → word.role ≢ Fed) → AllByRecursion (λ (word : WordText). word.role ≢ Fed) words
all_unfed [] each = tt
all_unfed (word ∷ words) each = (each word (0, refl), all_unfed words (λ other has. each other (suc has.0, has.1)))

module _ (k : ℕ) (mul : ℕ → ℕ → ℕ) (setting : Setting) (design : List ModelValue) (bases : List (List Basis)) (ready : IsReady k mul setting) (lists : AreListsOf k mul setting.signature.words setting.signature.blocks bases) where
  abbrev h : Hierarchy
  h = hierarchy_of design setting.signature bases

  -- the top can be composed
  pub composable : TopBinds setting.signature design (Ok tt) → IsComposable k mul design setting.signature bases
  composable binds =
      record {
        net = binds.0;
        flat = binds.1;
        binding = binds.2.1.0;
        bound = binds.2.1.1;
        words_are = ready.words;
        blocks_are = λ number block found. let own = ready.blocks block (number, found) in record { words_are = own.words_are; unfed = all_unfed block.words own.unfed };
        top = lists.top;
        blocks = lists.each;
      }

  -- the words of each block have their bases
  pub based : (number : ℕ) (block : BlockValue) → slice_get setting.signature.blocks number ≡ Some block → length (bases_at h (number + 1)) ≡ length block.words
  based number block found =
      let has = lists.each number block found in
      ap length (bases_read k mul design setting.signature bases (number + 1) block.words has) ∙ (length-map has.list elements_of ∙ has.long)

  top_long : length (bases_at h 0) ≡ length setting.signature.words
  top_long = ap length (bases_read k mul design setting.signature bases 0 setting.signature.words lists.top) ∙ (length-map lists.top.list elements_of ∙ lists.top.long)

  -- the labels of the top's words name all that stands in the polynomial
  module _ (bound : ℕ) (ts : Terms) (is : Composes k mul design setting.signature bases bound (Ok ts)) where
    pub composed_named : HasNames (labels_of k setting.signature.words) ts
    composed_named = named_terms (bit_count (word_labels k setting.signature.words) + 0) ts (λ rank high. is.2.2.2.output.no_bits rank (omega arith))

    pub composed_words_named : HasWordNames (labels_of k setting.signature.words) ts
    composed_words_named =
        let P : ℕ → Type 0 = λ n. InFirstWords n ts in
        subst P (counted k mul h 0 setting.signature.words (bases_at h 0) is.2.2.2.top top_long is.2.2.2.top_is) is.2.2.2.output.words_alone

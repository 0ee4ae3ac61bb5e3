-- A top with all that is given.
use Rattle.std.proofs.Common.{◌≡◌, ◌∙◌, ap, sym, subst, ℕ, List, map, Some, Global, Vec}
use Rattle.std.specs.Prelude.{slice_get}
use Rattle.net_words.specs.declared.word.WordText.{WordText}
use Rattle.net_blif.specs.Design.{ModelValue}
use Rattle.net_blif.specs.Statement.{Token}
use Rattle.net_blif.specs.Top.{connections_in, instances_of}
use Rattle.net_signature.specs.Body.{BlockValue}
use Rattle.gf_basis.specs.BasisParts.{elements_of}
use Rattle.gf_basis.specs.declared.bases.Basis.{Basis}
use Rattle.compose_model.specs.Hierarchy.{top_words, Hierarchy}
use Rattle.compose_model.specs.NamedWord.{named_words, NamedWord}
use Rattle.compose_model.specs.declared.feeder.Feeder.{Feeder}
use Rattle.compose_wiring.specs.Answer.{AreWired}
use Rattle.compose_wiring.specs.Instanced.{hierarchy, IsInstanced}
use Rattle.compose_wiring.specs.Refusal.{IsWiringFault}
use Rattle.compose_wiring.specs.declared.fault.WiringFault.{WiringFault}
use Rattle.compose_wiring.specs.private.Plain.{ArePlaced, ArePlainlyWired, AreSized, HaveWords, IsPlainFault, PlacedValue}
use Rattle.compose_wiring.specs.private.Words.{AreOf}
use Rattle.compose_wiring.proofs.InstancedLemmas.{placed_sized, plain_top, sized_outputs, top_list, top_of_k}
use Rattle.compose_wiring.proofs.PlainLemmas.{ArePlain}
use Rattle.compose_wiring.proofs.WiringLemmas.{plain_fault, plainly_wired}

module _ (k : ℕ) (design : List ModelValue) (words : List WordText) (blocks : List BlockValue) (bases : List (Vec Basis Global)) (numbers : List ℕ) (given : IsInstanced k (hierarchy design words blocks bases) numbers) where
  abbrev h : Hierarchy
  h = hierarchy design words blocks bases

  -- the words of the top with the first list of bases
  pub whole_top : (list : Vec Basis Global) (top : List NamedWord) → slice_get bases 0 ≡ Some list → top ≡ named_words words (map elements_of list.items) → top ≡ top_words h
  whole_top list top at is =
      let given_list = top_list k design words blocks bases numbers given in
      let there : slice_get bases 0 ≡ Some given_list.list = given_list.at in
      let same : list ≡ given_list.list = cc in
      is ∙ ap (λ (l : Vec Basis Global). named_words words (map elements_of l.items)) same ∙ ap (named_words words) (sym given_list.is)

  module _ (lists : List (List NamedWord)) (connections : List (List Token)) (placed : List PlacedValue) (top : List NamedWord) (top_is : top ≡ top_words h) (have : HaveWords blocks bases lists) (are : connections ≡ map connections_in (instances_of design)) (made : ArePlaced lists numbers connections placed) where
    made_of : ArePlaced lists numbers (map connections_in (instances_of design)) placed
    made_of = let P : List (List Token) → Type 0 = λ cs. ArePlaced lists numbers cs placed in subst P are made

    pub whole_sized : AreOf k top × AreSized k placed
    whole_sized =
        let P : List NamedWord → Type 0 = λ ws. AreOf k ws in
        (subst P (sym top_is) (top_of_k k design words blocks bases numbers given), placed_sized k design words blocks bases numbers given lists have placed made_of)

    whole_plain : ArePlain h top placed
    whole_plain = plain_top k design words blocks bases numbers given lists have placed made_of top top_is

    pub whole_wired : (rows : List (List Feeder)) (output : Feeder) → ArePlainlyWired top placed rows output → AreWired h rows output
    whole_wired rows output wired = plainly_wired h top placed whole_plain rows output (sized_outputs k placed (placed_sized k design words blocks bases numbers given lists have placed made_of)) wired

    pub whole_refused : (fault : WiringFault) → IsPlainFault top placed fault → IsWiringFault h fault
    whole_refused fault is = plain_fault h top placed whole_plain fault is

-- Instances, words and bases as they are given.
use Rattle.std.proofs.Common.{◌≡◌, ◌≢◌, ◌∙◌, ap, sym, refl, subst, ℕ, zero, suc, ◌<◌, ◌≤◌, ◌+◌, Bool, true, false, ◌⊎◌, inl, inr, List, [], ◌∷◌, length, map, filter, All, Some, if◌then◌else◌, arith, Global, Vec}
use Rattle.std.specs.Prelude.{slice_get}
use Rattle.std.specs.List.{AllByRecursion}
use Rattle.std.specs.Option.{option_map, unwrap_or}
use Rattle.std.specs.Str.{bytes_eq}
use Rattle.std.proofs.lemmas.Option.{get_or_from_slice_get, slice_get-map, slice_get_within}
use Rattle.lists.specs.Lists.{Has}
use Rattle.lists.specs.laws.ListLaws.{length_map as mapped_long}
use Rattle.lists.specs.laws.ReadLaws.{get_below}
use Rattle.net_words.specs.Roles.{is_output, same_role}
use Rattle.net_words.specs.declared.word.Role.TheVariants.{Fed, Output}
use Rattle.net_words.specs.declared.word.WordText.{WordText}
use Rattle.net_blif.specs.Design.{ModelValue}
use Rattle.net_blif.specs.Statement.{Token}
use Rattle.net_blif.specs.Top.{connections_in, instances_of, model_in}
use Rattle.net_blif.specs.declared.item.Item.{Item}
use Rattle.net_signature.specs.Body.{BlockValue}
use Rattle.gf_basis.specs.BasisParts.{elements_of}
use Rattle.gf_basis.specs.declared.bases.Basis.{Basis}
use Rattle.compose_model.specs.Given.{HaveBasesOf}
use Rattle.compose_model.specs.Hierarchy.{bases_at, block_from, block_of, top_words, Hierarchy, IsInstance}
use Rattle.compose_model.specs.NamedWord.{named_words, outputs_among, NamedWord}
use Rattle.compose_wiring.specs.Instanced.{elements_in, hierarchy, IsInstanced}
use Rattle.compose_wiring.specs.private.Plain.{ArePlaced, AreSized, HaveOutputs, HaveWords, IsListed, PlacedValue}
use Rattle.compose_wiring.specs.private.Words.{AreOf}
use Rattle.compose_wiring.proofs.PlainLemmas.{ArePlain}

-- ---- lists of bases

pub record IsListOf (lists : List (Vec Basis Global)) (n : ℕ) (count : ℕ) : Type 0 where
  pub list : Vec Basis Global
  pub at : slice_get lists n ≡ Some list
  pub long : length list.items ≡ count
  pub is : unwrap_or (slice_get (elements_in lists) n) [] ≡ map elements_of list.items

pub listed : (lists : List (Vec Basis Global)) (n count : ℕ) → 1 ≤ count → length (unwrap_or (slice_get (elements_in lists) n) []) ≡ count → IsListOf lists n count
listed [] n count some long = absurd (omega (arith, some, long))
listed (list ∷ lists) zero count some long = record { list = list; at = refl; long = sym (mapped_long elements_of list.items) ∙ long; is = refl }
listed (list ∷ lists) (suc n) count some long = let more = listed lists n count some long in record { list = more.list; at = more.at; long = more.long; is = more.is }

-- ---- words with their bases

named_long : (words : List WordText) (bases : List (List ℕ)) → length bases ≡ length words → length (named_words words bases) ≡ length words
named_long [] bases long = refl
named_long (w ∷ ws) [] long = absurd (omega (arith, long))
named_long (w ∷ ws) (b ∷ bs) long = ap suc (named_long ws bs (omega (arith, long)))

named_outputs : (words : List WordText) (bases : List (List ℕ)) → length bases ≡ length words → length (outputs_among (named_words words bases)) ≡ length (filter is_output words)
named_outputs [] bases long = refl
named_outputs (w ∷ ws) [] long = absurd (omega (arith, long))
named_outputs (w ∷ ws) (b ∷ bs) long = parts (record { role = w.role; nets = w.nets; basis = b }) (same_role w.role Output) refl (named_outputs ws bs (omega (arith, long)))
  where
    parts : (x : NamedWord) (c : Bool) → same_role w.role Output ≡ c → length (outputs_among (named_words ws bs)) ≡ length (filter is_output ws)
        → length (if same_role w.role Output then x ∷ outputs_among (named_words ws bs) else outputs_among (named_words ws bs)) ≡ length (if same_role w.role Output then w ∷ filter is_output ws else filter is_output ws)
    parts x true is more = ap (λ c. length (if c then x ∷ outputs_among (named_words ws bs) else outputs_among (named_words ws bs))) is ∙ ap suc more ∙ sym (ap (λ c. length (if c then w ∷ filter is_output ws else filter is_output ws)) is)
    parts x false is more = ap (λ c. length (if c then x ∷ outputs_among (named_words ws bs) else outputs_among (named_words ws bs))) is ∙ more ∙ sym (ap (λ c. length (if c then w ∷ filter is_output ws else filter is_output ws)) is)

-- a word with its basis is one of the words, and one of the bases
named_from : (words : List WordText) (bases : List (List ℕ)) (word : NamedWord) → Has (named_words words bases) word → (w : WordText) × Has words w × (word.nets ≡ w.nets) × Has bases word.basis
named_from [] bases word has = let got = has.1 in absurd (cc)
named_from (w ∷ ws) [] word has = let got = has.1 in absurd (cc)
named_from (w ∷ ws) (b ∷ bs) word (zero, got) =
    let same : ◌≡◌ {A = NamedWord} (record { role = w.role; nets = w.nets; basis = b }) word = cc in
    (w, (0, refl), ap (λ (x : NamedWord). x.nets) (sym same), (0, ap (λ (x : NamedWord). Some x.basis) same))
named_from (w ∷ ws) (b ∷ bs) word (suc k, got) = let more = named_from ws bs word (k, got) in (more.0, (suc (more.1).0, (more.1).1), more.2, (suc (more.3).0, (more.3).1))

unfed_at : (words : List WordText) → AllByRecursion (λ (word : WordText). word.role ≢ Fed) words → (w : WordText) → Has words w → w.role ≢ Fed
unfed_at [] all w has = let got = has.1 in absurd (cc)
unfed_at (x ∷ ws) all w (zero, got) = let same : x ≡ w = cc in let P : WordText → Type 0 = λ y. y.role ≢ Fed in subst P same all.0
unfed_at (x ∷ ws) all w (suc k, got) = unfed_at ws all.1 w (k, got)

bits_of : (k : ℕ) (words : List WordText) → All (λ (word : WordText). (length word.nets ≡ k) ⊎ (word.role ≡ Fed)) words → AllByRecursion (λ (word : WordText). word.role ≢ Fed) words → (w : WordText) → Has words w → length w.nets ≡ k
bits_of k words each unfed w has =
    let P : WordText → Type 0 = λ x. (length x.nets ≡ k) ⊎ (x.role ≡ Fed) in
    cases (subst P (get_or_from_slice_get words has.0 w w has.1) (each has.0 w (slice_get_within words has.0 w has.1)))
  where
    cases : (length w.nets ≡ k) ⊎ (w.role ≡ Fed) → length w.nets ≡ k
    cases (inl is) = is
    cases (inr fed) = absurd (unfed_at words unfed w has fed)

pub words_of_k : (k : ℕ) (words : List WordText) (bases : List (List ℕ)) → HaveBasesOf k words bases → AreOf k (named_words words bases)
words_of_k k words bases have = record {
  small = have.words_are.most;
  output = named_outputs words bases have.long ∙ have.words_are.output;
  few = omega (arith, named_long words bases have.long, have.words_are.few);
  nets = λ word has. let from = named_from words bases word has in ap length from.2 ∙ bits_of k words have.words_are.each have.unfed from.0 from.1;
  bases = λ word has. let from = named_from words bases word has in (have.each word.basis from.3).size;
}

-- ---- the number of a block

block_below : (n : ℕ) (blocks : List BlockValue) (model : Token) (number : ℕ) → block_from n blocks model ≡ Some number → number < n + length blocks
block_below n [] model number e = absurd (cc)
block_below n (b ∷ bs) model number e = parts (bytes_eq model b.model) refl (block_below (n + 1) bs model number)
  where
    parts : (c : Bool) → bytes_eq model b.model ≡ c → (block_from (n + 1) bs model ≡ Some number → number < (n + 1) + length bs) → number < n + suc (length bs)
    parts true is given = let same : Some n ≡ Some number = sym (ap (λ c. if c then Some n else block_from (n + 1) bs model) is) ∙ e in let at : n ≡ number = cc in omega (arith, at)
    parts false is given = omega (arith, given (sym (ap (λ c. if c then Some n else block_from (n + 1) bs model) is) ∙ e))

-- ---- a top as it is given

module _ (k : ℕ) (design : List ModelValue) (words : List WordText) (blocks : List BlockValue) (bases : List (Vec Basis Global)) (numbers : List ℕ) (given : IsInstanced k (hierarchy design words blocks bases) numbers) where
  abbrev h : Hierarchy
  h = hierarchy design words blocks bases

  pub top_list : IsListOf bases 0 (length words)
  top_list = listed bases 0 (length words) given.top.words_are.one given.top.long

  pub lists_are : IsListed blocks bases
  lists_are b block at =
      let have = given.blocks b block at in
      let found = listed bases (b + 1) (length block.words) have.words_are.one have.long in
      (found.list, found.at, found.long)

  pub top_of_k : AreOf k (top_words h)
  top_of_k = words_of_k k words (bases_at h 0) given.top

  -- each number is that of a block
  pub numbers_inside : (i number : ℕ) → slice_get numbers i ≡ Some number → number < length blocks
  numbers_inside i number at =
      let item = get_below (instances_of design) i (omega (arith, given.long, slice_get_within numbers i number at)) in
      let named : slice_get numbers i ≡ block_of h (model_in item.0) = given.each i item.0 item.1 in
      omega (arith, block_below 0 blocks (model_in item.0) number (sym named ∙ at))

  module _ (lists : List (List NamedWord)) (have : HaveWords blocks bases lists) (placed : List PlacedValue) (are : ArePlaced lists numbers (map connections_in (instances_of design)) placed) where
    -- the words of an instance are those of its block
    block_at : (i : ℕ) (instance : PlacedValue) → slice_get placed i ≡ Some instance → (item : Item) × IsInstance h i item instance.words × (connections_in item ≡ instance.connections) × AreOf k instance.words
    block_at i instance at =
        let known = are.each i instance at in
        let number : ℕ = known.1.0 in
        let less : i < length placed = slice_get_within placed i instance at in
        let item = get_below (instances_of design) i (omega (arith, less, are.long, mapped_long connections_in (instances_of design))) in
        let block = get_below blocks number (numbers_inside i number known.1.1) in
        let based = given.blocks number block.0 block.1 in
        let listing : IsListOf bases (number + 1) (length (block.0).words) = listed bases (number + 1) (length (block.0).words) based.words_are.one based.long in
        let told : slice_get lists number ≡ Some (named_words (block.0).words (map elements_of listing.list.items)) = have.each number block.0 listing.list block.1 listing.at in
        let mine : slice_get lists number ≡ Some instance.words = known.1.2 in
        let same : named_words (block.0).words (map elements_of listing.list.items) ≡ instance.words = cc in
        let words_are : named_words (block.0).words (bases_at h (number + 1)) ≡ instance.words = ap (named_words (block.0).words) listing.is ∙ same in
        let P : List NamedWord → Type 0 = λ ws. AreOf k ws in (
          item.0,
          record { at = item.1; number = number; named = sym (given.each i item.0 item.1) ∙ known.1.1; block = block.0; found = block.1; words_are = words_are },
          connected i instance item.0 item.1 known.0,
          subst P words_are (words_of_k k (block.0).words (bases_at h (number + 1)) based),
        )
      where
        connected : (j : ℕ) (x : PlacedValue) (item : Item) → slice_get (instances_of design) j ≡ Some item → slice_get (map connections_in (instances_of design)) j ≡ Some x.connections → connections_in item ≡ x.connections
        connected j x item at_j got =
            let there : slice_get (map connections_in (instances_of design)) j ≡ Some (connections_in item) = slice_get-map connections_in (instances_of design) j ∙ ap (option_map connections_in) at_j in
            cc

    pub plain_top : (top : List NamedWord) → top ≡ top_words h → ArePlain h top placed
    plain_top top is = record {
      top_is = is;
      long = are.long ∙ mapped_long connections_in (instances_of design);
      each = λ i instance at. let found = block_at i instance at in (found.0, found.1, found.2);
    }

    pub placed_sized : AreSized k placed
    placed_sized i instance at = (block_at i instance at).3

pub sized_outputs : (k : ℕ) (placed : List PlacedValue) → AreSized k placed → HaveOutputs placed
sized_outputs k placed sized i instance at = (sized i instance at).output

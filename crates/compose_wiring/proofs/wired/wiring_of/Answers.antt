use Rattle.std.proofs.Common.{rules, ◌∙◌, ap, sym, subst, ℕ, List, length, map, filter, arith}
use Rattle.std.proofs.lemmas.Option.{slice_get_within}
use Rattle.lists.specs.laws.ReadLaws.{got_read}
use Rattle.net_blif.specs.Statement.{Token}
use Rattle.net_blif.specs.Top.{connections_in, is_instance}
use Rattle.gf_basis.specs.BasisParts.{elements_of}
use Rattle.compose_model.specs.NamedWord.{named_words, NamedWord}
use Rattle.compose_wiring.specs.Answer.{rows_in}
use Rattle.compose_wiring.specs.Instanced.{hierarchy, IsInstanced}
use Rattle.compose_wiring.specs.Refusal.{IsWiringFault}
use Rattle.compose_wiring.specs.private.Plain.{ArePlaced, PlacedValue}
use Rattle.compose_wiring.proofs.InstancedLemmas.{lists_are, numbers_inside, top_list}
use Rattle.compose_wiring.proofs.WholeLemmas.{whole_refused, whole_sized, whole_top, whole_wired}
use Rattle.compose_wiring.proofs.wired.wiring_of.Goals as goal

pub all_words-requires : goal.all_words-requires
all_words-requires c = lists_are c.requires.0 c.args.design.now c.args.words.now c.args.blocks.now c.args.bases.now c.args.numbers.now c.requires.1

pub all_placed-requires-clause-inside : goal.all_placed-requires-clause-inside
all_placed-requires-clause-inside c = λ i number at.
    omega (arith, numbers_inside c.requires.0 c.args.design.now c.args.words.now c.args.blocks.now c.args.bases.now c.args.numbers.now c.requires.1 i number at, c.in_ok-blocks.ensures.long, ap length c.deref-3.ensures.value)

pub plain_wiring-requires-clause-sized : goal.plain_wiring-requires-clause-sized
plain_wiring-requires-clause-sized c =
    let k : ℕ = c.requires.0 in
    let given : IsInstanced k (hierarchy c.args.design.now c.args.words.now c.args.blocks.now c.args.bases.now) c.args.numbers.now = c.requires.1 in
    let first = top_list k c.args.design.now c.args.words.now c.args.blocks.now c.args.bases.now c.args.numbers.now given in
    let at = got_read c.args.bases.now 0 c.index-bases-0.result (slice_get_within c.args.bases.now 0 first.list first.at) c.index-bases-0.is in
    let top_is = whole_top k c.args.design.now c.args.words.now c.args.blocks.now c.args.bases.now c.args.numbers.now given c.index-bases-0.result c.deref-4.result.now at (c.deref-4.ensures.value ∙ c.in_ok-top.ensures ∙ ap (λ list. named_words c.args.words.now (map elements_of list)) c.deref.ensures.value) in
    let lists : List (List NamedWord) = c.in_ok-blocks.blocks.items in
    let connections : List (List Token) = c.in_ok-connections.connections.items in
    let are = c.in_ok-connections.ensures ∙ ap (λ items. map connections_in (filter is_instance items)) c.top_items.ensures.items in
    let A : List (List NamedWord) → Type 0 = λ xs. ArePlaced xs c.args.numbers.now c.deref-2.result.now c.in_ok-placed.placed.items in
    let B : List (List Token) → Type 0 = λ cs. ArePlaced lists c.args.numbers.now cs c.in_ok-placed.placed.items in
    let C : List PlacedValue → Type 0 = λ ps. ArePlaced lists c.args.numbers.now connections ps in
    let made = subst C (sym c.deref-5.ensures.value) (subst B c.deref-2.ensures.value (subst A c.deref-3.ensures.value c.in_ok-placed.ensures)) in
    let sized = whole_sized k c.args.design.now c.args.words.now c.args.blocks.now c.args.bases.now c.args.numbers.now given lists connections c.deref-5.result.now c.deref-4.result.now top_is c.in_ok-blocks.ensures are made in
    (k, sized.0, sized.1)

pub returns-in_err-wiring-clause-refused : goal.returns-in_err-wiring-clause-refused
returns-in_err-wiring-clause-refused c =
    let k : ℕ = c.requires.0 in
    let given : IsInstanced k (hierarchy c.args.design.now c.args.words.now c.args.blocks.now c.args.bases.now) c.args.numbers.now = c.requires.1 in
    let first = top_list k c.args.design.now c.args.words.now c.args.blocks.now c.args.bases.now c.args.numbers.now given in
    let at = got_read c.args.bases.now 0 c.index-bases-0.result (slice_get_within c.args.bases.now 0 first.list first.at) c.index-bases-0.is in
    let top_is = whole_top k c.args.design.now c.args.words.now c.args.blocks.now c.args.bases.now c.args.numbers.now given c.index-bases-0.result c.deref-4.result.now at (c.deref-4.ensures.value ∙ c.in_ok-top.ensures ∙ ap (λ list. named_words c.args.words.now (map elements_of list)) c.deref.ensures.value) in
    let lists : List (List NamedWord) = c.in_ok-blocks.blocks.items in
    let connections : List (List Token) = c.in_ok-connections.connections.items in
    let are = c.in_ok-connections.ensures ∙ ap (λ items. map connections_in (filter is_instance items)) c.top_items.ensures.items in
    let A : List (List NamedWord) → Type 0 = λ xs. ArePlaced xs c.args.numbers.now c.deref-2.result.now c.in_ok-placed.placed.items in
    let B : List (List Token) → Type 0 = λ cs. ArePlaced lists c.args.numbers.now cs c.in_ok-placed.placed.items in
    let C : List PlacedValue → Type 0 = λ ps. ArePlaced lists c.args.numbers.now connections ps in
    let made = subst C (sym c.deref-5.ensures.value) (subst B c.deref-2.ensures.value (subst A c.deref-3.ensures.value c.in_ok-placed.ensures)) in
    let refused : IsWiringFault (hierarchy c.args.design.now c.args.words.now c.args.blocks.now c.args.bases.now) c.in_err-wiring.field-0.0 = whole_refused k c.args.design.now c.args.words.now c.args.blocks.now c.args.bases.now c.args.numbers.now given lists connections c.deref-5.result.now c.deref-4.result.now top_is c.in_ok-blocks.ensures are made c.in_err-wiring.field-0.0 c.in_err-wiring.ensures.fault in
    search rules

pub returns-clause-wired : goal.returns-clause-wired
returns-clause-wired c =
    let k : ℕ = c.requires.0 in
    let given : IsInstanced k (hierarchy c.args.design.now c.args.words.now c.args.blocks.now c.args.bases.now) c.args.numbers.now = c.requires.1 in
    let first = top_list k c.args.design.now c.args.words.now c.args.blocks.now c.args.bases.now c.args.numbers.now given in
    let at = got_read c.args.bases.now 0 c.index-bases-0.result (slice_get_within c.args.bases.now 0 first.list first.at) c.index-bases-0.is in
    let top_is = whole_top k c.args.design.now c.args.words.now c.args.blocks.now c.args.bases.now c.args.numbers.now given c.index-bases-0.result c.deref-4.result.now at (c.deref-4.ensures.value ∙ c.in_ok-top.ensures ∙ ap (λ list. named_words c.args.words.now (map elements_of list)) c.deref.ensures.value) in
    let lists : List (List NamedWord) = c.in_ok-blocks.blocks.items in
    let connections : List (List Token) = c.in_ok-connections.connections.items in
    let are = c.in_ok-connections.ensures ∙ ap (λ items. map connections_in (filter is_instance items)) c.top_items.ensures.items in
    let A : List (List NamedWord) → Type 0 = λ xs. ArePlaced xs c.args.numbers.now c.deref-2.result.now c.in_ok-placed.placed.items in
    let B : List (List Token) → Type 0 = λ cs. ArePlaced lists c.args.numbers.now cs c.in_ok-placed.placed.items in
    let C : List PlacedValue → Type 0 = λ ps. ArePlaced lists c.args.numbers.now connections ps in
    let made = subst C (sym c.deref-5.ensures.value) (subst B c.deref-2.ensures.value (subst A c.deref-3.ensures.value c.in_ok-placed.ensures)) in
    whole_wired k c.args.design.now c.args.words.now c.args.blocks.now c.args.bases.now c.args.numbers.now given lists connections c.deref-5.result.now c.deref-4.result.now top_is c.in_ok-blocks.ensures are made (rows_in c.in_ok-wiring.wiring.rows.items) c.in_ok-wiring.wiring.output c.in_ok-wiring.ensures.wired

use Rattle.std.proofs.Common.{◌≡◌, ℕ, false, List, [], ◌++◌, map, reverse, refl, sym, ◌∙◌, ap, subst}
use Rattle.std.proofs.lemmas.Result.{on_ok_weaker}
use Rattle.std.specs.List.{AllByRecursion}
use Rattle.poly_mixed.specs.Monomial.{Monomial, text_cmp, has_bit}
use Rattle.poly_mixed.specs.Polynomial.{Terms, IsTerm}
use Rattle.poly_mixed.specs.Cofactor.{cofactors, lacking, LacksBit}
use Rattle.poly_mixed.specs.Sum.{plus}
use Rattle.poly_mixed.proofs.CofactorLemmas.{lacking_all}
use Rattle.rato_reduce.specs.private.CutKey.{CutKey, place_at}
use Rattle.rato_reduce.specs.private.CutTerms.{CutPolynomial, IsBitTerm, AreEntries, with_constant, term_of, ends_up_to}
use Rattle.rato_reduce.proofs.CutLemmas.{entry_terms}
use Rattle.rato_reduce.proofs.ConstantLemmas.{constant_entries, constant_taken, constant_lacks}
use Rattle.rato_reduce.proofs.CutSizeLemmas.{all_back, entries_apart}
use Rattle.rato_reduce.proofs.CutBitLemmas.{rest_lacks, cofactor_terms}
use Rattle.rato_reduce.proofs.CutPartLemmas.{front_terms, put_back, part_is, part_over, none_without, without_none, all_taken, sum_taken}
use Rattle.rato_reduce.proofs.cut.Cut.take_with.Goals as goal

pub invariant_of-self : goal.invariant_of-self
invariant_of-self c = c.take_up_to.ensures.entries c.self.inside.places.items c.self.invariant

pub invariant_of-self-2 : goal.invariant_of-self-2
invariant_of-self-2 c = c.take_up_to.ensures.entries c.self.inside.places.items c.self.invariant

-- the terms of the entries that are taken
abbrev taken : (c : goal.After-drop-others) → Terms
taken c = c.in_ok-others.ensures.taken.taken

-- those of the entries that stay
abbrev rest : (c : goal.After-drop-others) → Terms
rest c = map term_of (with_constant c.self.inside.constant c.take_up_to.new.entries.entries)

-- all entries, with the term without bits
abbrev entries : (c : goal.After-drop-others) → List (CutKey × ℕ)
entries c = with_constant c.self.inside.constant c.self.inside.map.entries

are_entries : (c : goal.After-drop-others) → AreEntries c.self.inside.places.items (entries c)
are_entries c = constant_entries c.self.inside.places.items c.self.inside.constant c.self.inside.map.entries c.self.invariant

all_entries : (c : goal.After-drop-others) → map term_of (entries c) ≡ rest c ++ reverse (taken c)
all_entries c = constant_taken c.self.inside.constant c.self.inside.map.entries c.take_up_to.new.entries.entries (taken c) c.in_ok-others.ensures.taken.all

-- both
abbrev whole : (c : goal.After-drop-others) → Terms
whole c = taken c ++ rest c

-- what holds of the terms of all entries holds of both
of_both : (c : goal.After-drop-others) (P : Monomial × ℕ → Type 0) → AllByRecursion P (map term_of (entries c)) → AllByRecursion P (whole c)
of_both c P all = (let Q : Terms → Type 0 = AllByRecursion P in all_taken P (taken c) (rest c) (subst Q (all_entries c) all))

entry_each : (c : goal.After-drop-others) → AllByRecursion IsBitTerm (map term_of (entries c))
entry_each c = entry_terms c.self.inside.places.items (entries c) (are_entries c).each

each : (c : goal.After-drop-others) → AllByRecursion IsBitTerm (whole c)
each c = of_both c IsBitTerm (entry_each c)

lacks : (c : goal.After-drop-others) → LacksBit c.args.rank (rest c)
lacks c =
    let places : c.as_slice.result.now ≡ c.self.inside.places.items = c.as_slice.ensures.value in
    let place : c.place_of-place.result ≡ place_at c.self.inside.places.items c.args.rank = c.place_of-place.ensures ∙ ap (λ ps. place_at ps c.args.rank) places in
    let P : ℕ → Type 0 = λ n. ends_up_to n c.take_up_to.new.entries.entries ≡ false in
    constant_lacks c.self.inside.constant c.args.rank c.take_up_to.new.entries.entries
    (rest_lacks c.self.inside.places.items c.args.rank c.take_up_to.new.entries.entries (c.take_up_to.ensures.entries c.self.inside.places.items c.self.invariant).are (subst P place c.in_ok-others.ensures.rest))

entry_view : (c : goal.After-drop-others) → plus text_cmp [] (map term_of (entries c)) ≡ c.args.self.now.terms
entry_view c = ap (λ (q : CutPolynomial). q.terms) c.self.view_is

view : (c : goal.After-drop-others) → plus text_cmp [] (whole c) ≡ c.args.self.now.terms
view c =
    let P : Terms → Type 0 = AllByRecursion IsBitTerm in
    sum_taken (taken c) (rest c) (subst P (all_entries c) (entry_each c)) ∙ ap (plus text_cmp []) (sym (all_entries c)) ∙ entry_view c

-- what holds of the terms of the polynomial holds of both
of_terms : (c : goal.After-drop-others) (P : Monomial × ℕ → Type 0) → AllByRecursion P c.args.self.now.terms → AllByRecursion P (whole c)
of_terms c P all =
    let Q : Terms → Type 0 = AllByRecursion P in
    of_both c P (all_back P (map term_of (entries c)) (entries_apart c.self.inside.places.items (entries c) (are_entries c)) (subst Q (sym (entry_view c)) all))

pub add_all-requires : goal.add_all-requires
add_all-requires c =
    let P : Terms → Type 0 = AllByRecursion IsBitTerm in
    let front = c.in_ok-others.ensures.taken.taken in
    let behind = map term_of c.take_up_to.new.entries.entries in
    let all = entry_terms c.self.inside.places.items c.self.inside.map.entries c.self.invariant.are.each in
    let both = all_taken IsBitTerm front behind (subst P c.in_ok-others.ensures.taken.all all) in
    let places : c.as_slice.result.now ≡ c.self.inside.places.items = c.as_slice.ensures.value in
    let place : c.place_of-place.result ≡ place_at c.self.inside.places.items c.args.rank = c.place_of-place.ensures ∙ ap (λ ps. place_at ps c.args.rank) places in
    let Q : ℕ → Type 0 = λ n. ends_up_to n c.take_up_to.new.entries.entries ≡ false in
    let without = rest_lacks c.self.inside.places.items c.args.rank c.take_up_to.new.entries.entries (c.take_up_to.ensures.entries c.self.inside.places.items c.self.invariant).are (subst Q place c.in_ok-others.ensures.rest) in
    let terms = front_terms c.args.rank (front ++ behind) front behind refl both without in
    subst P (sym (c.deref.ensures.value ∙ c.in_ok-others.ensures.taken.others_are)) (lacking_all IsBitTerm c.args.rank front terms)

pub returns-clause-left : goal.returns-clause-left
returns-clause-left c =
    on_ok_weaker c.add_all.result (λ e.
    e
    ∙ ap (plus text_cmp (plus text_cmp [] (rest c))) (c.deref.ensures.value ∙ c.in_ok-others.ensures.taken.others_are)
    ∙ put_back c.args.rank (whole c) (taken c) (rest c) refl (each c) (lacks c)
    ∙ ap (lacking c.args.rank) (view c)) c.add_all.ensures

pub returns-clause-part : goal.returns-clause-part
returns-clause-part c =
    on_ok_weaker c.add_all.result (λ e.
    ap (plus text_cmp []) c.in_ok-others.ensures.taken.part_is
    ∙ part_is c.args.rank (whole c) (taken c) (rest c) refl (each c) (lacks c)
    ∙ ap (cofactors c.args.rank) (view c)) c.add_all.ensures

pub returns-clause-each : goal.returns-clause-each
returns-clause-each c =
    let P : Terms → Type 0 = AllByRecursion IsBitTerm in
    let front = front_terms c.args.rank (whole c) (taken c) (rest c) refl (each c) (lacks c) in
    on_ok_weaker c.add_all.result (λ e. subst P (sym c.in_ok-others.ensures.taken.part_is) (cofactor_terms c.args.rank (taken c) front)) c.add_all.ensures

pub returns-clause-terms : goal.returns-clause-terms
returns-clause-terms c k reduced =
    let P : Terms → Type 0 = AllByRecursion (IsTerm k) in
    let over = of_terms c (IsTerm k) reduced.terms in
    on_ok_weaker c.add_all.result (λ e. subst P (sym c.in_ok-others.ensures.taken.part_is) (part_over c.args.rank (whole c) (taken c) (rest c) refl (each c) (lacks c) k over)) c.add_all.ensures

pub returns-clause-stands : goal.returns-clause-stands
returns-clause-stands c =
    let L : Terms → Type 0 = LacksBit c.args.rank in
    let is = c.in_ok-others.ensures.taken.part_is in
    on_ok_weaker c.add_all.result (λ e. (
      (λ none. is ∙ none_without c.args.rank (whole c) (taken c) (rest c) refl (each c) (lacks c) (of_terms c (λ t. has_bit c.args.rank t.0 ≡ false) none)),
      (λ empty. subst L (view c) (without_none c.args.rank (whole c) (taken c) (rest c) refl (each c) (lacks c) (sym is ∙ empty))),
    )) c.add_all.ensures

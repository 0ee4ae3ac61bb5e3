use Rattle.std.proofs.Common.{◌≡◌, ◌++◌, ℕ, List, [], length, take, drop, refl, sym, ◌∙◌, ap, subst}
use Rattle.std.proofs.lemmas.Result.{on_ok_weaker}
use Rattle.poly_mixed.specs.Monomial.{Monomial, text_cmp}
use Rattle.poly_mixed.specs.Polynomial.{Terms}
use Rattle.poly_mixed.specs.Sum.{plus, plus_term}
use Rattle.poly_mixed.proofs.ProductLemmas.{rising-union}
use Rattle.rato_reduce.specs.private.Buckets.{joined, AreLevelled, AreUpTo, HasTermAt, IsCounted, IsLine, ListedPolynomial}
use Rattle.rato_reduce.specs.private.Rows.{product_of, term_bits}
use Rattle.rato_reduce.proofs.AddedLemmas.{either_way, refilled}
use Rattle.rato_reduce.proofs.BucketLemmas.{added_long, added_polynomial, added_state, kept_state}
use Rattle.rato_reduce.proofs.LevelLemmas.{up_to_both}
use Rattle.rato_reduce.proofs.buckets.Buckets.add_at.Goals as goal

-- the lists, as many as the level needs
abbrev raised : (c : goal.After-self-2-1) → List Terms
raised c = c.raise.new.list.items

abbrev term : (c : goal.After-self-2-1) → Monomial × ℕ
term c = product_of c.args.term.now c.args.set.now

are : (c : goal.After-self-2-1) → AreLevelled c.self.inside.places.items 0 (raised c)
are c = c.raise.ensures.levelled c.self.inside.places.items c.self.invariant.0

line : (c : goal.After-self-2-1) → IsLine c.self.inside.places.items c.args.level (term c)
line c =
    let places = c.self.inside.places.items in
    let bits : List ℕ = term_bits c.args.term.now in
    let set : List ℕ = c.args.set.now in
    let R : List ℕ → Type 0 = λ ps. AreUpTo ps c.args.level bits × AreUpTo ps c.args.level set in
    let up : AreUpTo places c.args.level bits × AreUpTo places c.args.level set = subst R (sym (ap (λ (q : ListedPolynomial). q.places) c.self.view_is)) (c.requires.up_to, c.requires.set) in
    record { placed = record { no_words = refl; rising = rising-union bits set c.requires.rising; up_to = up_to_both places c.args.level bits set up.0 up.1 }; some = c.requires.some }

has : (c : goal.After-self-2-1) → HasTermAt c.as_mut_slice.result.now c.push_at.new.list c.args.level (term c) → HasTermAt (raised c) c.push_at.new.list c.args.level (term c)
has c at = let P : List Terms → Type 0 = λ ls. HasTermAt ls c.push_at.new.list c.args.level (term c) in subst P c.as_mut_slice.ensures.value at

is : (c : goal.After-self-2-1) → length c.push_at.new.list ≡ length (raised c) → take c.raise.new.list.len (c.push_at.new.list ++ drop (length c.push_at.new.list) (raised c)) ≡ c.push_at.new.list
is c long = refilled (raised c) c.push_at.new.list c.raise.new.list.len long (sym c.as_mut_slice.ensures.len ∙ ap length c.as_mut_slice.ensures.value)

pub invariant_of-self-2 : goal.invariant_of-self-2
invariant_of-self-2 c =
    let places = c.self.inside.places.items in
    let old : List Terms = c.self.inside.list.items in
    let P : List Terms → Type 0 = λ ls. AreLevelled places 0 ls × IsCounted c.more-self-inside.result (length (joined ls)) in
    either_way c.push_at.result
    (λ at. subst P (sym (is c (added_long (raised c) c.push_at.new.list c.args.level (term c) (has c at))))
    (added_state places old (raised c) c.self.inside.count c.more-self-inside.result (are c) c.in_ok-raise.ensures.joined c.self.invariant.1 c.more-self-inside.ensures c.push_at.new.list c.args.level (term c) (line c) (has c at)))
    (λ same.
    let kept : c.push_at.new.list ≡ raised c = same ∙ c.as_mut_slice.ensures.value in
    subst P (sym (is c (ap length kept) ∙ kept)) (kept_state places old (raised c) c.self.inside.count c.more-self-inside.result (are c) c.in_ok-raise.ensures.joined c.self.invariant.1 c.more-self-inside.ensures))
    c.push_at.ensures.pushed c.push_at.ensures.kept

pub returns-clause-sum : goal.returns-clause-sum
returns-clause-sum c =
    on_ok_weaker c.push_at.result (λ at.
    ap (λ (ls : List Terms). plus text_cmp [] (joined ls)) (is c (added_long (raised c) c.push_at.new.list c.args.level (term c) (has c at)))
    ∙ added_polynomial c.self.inside.places.items (raised c) c.push_at.new.list c.args.level (term c) (are c) (has c at) (line c)
    ∙ ap (λ (ts : Terms). plus_term text_cmp (plus text_cmp [] ts) (term c)) c.in_ok-raise.ensures.joined
    ∙ ap (λ (q : ListedPolynomial). plus_term text_cmp q.terms (term c)) c.self.view_is) c.push_at.ensures.pushed

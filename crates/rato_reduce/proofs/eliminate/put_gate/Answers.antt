use Rattle.poly_mixed.proofs.FieldLaws.{field_of, IsField}
use Rattle.std.proofs.Common.{◌≡◌, ◌<◌, ℕ, true, false, [], ◌∷◌, length, cond, bit_xor, ◌==◌, sym, ap, subst, ◌∙◌, refl, arith}
use lib.Bits.{xor_zero_l}
use Rattle.std.specs.List.{AllByRecursion}
use Rattle.std.proofs.lemmas.Bool.{eqb-true}
use Rattle.std.proofs.lemmas.Result.{on_ok_weaker}
use Rattle.std.proofs.lemmas.List.{nil_from_length}
use Rattle.net_core.specs.NetList.{nets}
use Rattle.net_words.specs.Variables.{variables}
use Rattle.poly_mixed.specs.Monomial.{text_cmp}
use Rattle.poly_mixed.specs.Polynomial.{Terms, Point, IsPoint, IsTerm, IsReduced, value}
use Rattle.poly_mixed.specs.Sum.{plus}
use Rattle.poly_mixed.specs.Cofactor.{at_bit, cofactors, LacksBit, IsCofactor}
use Rattle.poly_mixed.specs.Steps.{Tells}
use Rattle.poly_mixed.specs.declared.steps.Generator.TheVariants.{Net}
use Rattle.poly_mixed.proofs.CofactorLemmas.{reduced_lacking, reduced_cofactors, value-cofactors, none_of_absent}
use Rattle.poly_mixed.proofs.OneBitLemmas.{is_cofactor}
use Rattle.poly_mixed.proofs.RecorderLemmas.{tells_none}
use Rattle.poly_mixed.proofs.ValueLemmas.{value-plus}
use Rattle.stage_model.specs.Variables.{rank_in}
use Rattle.stage_model.specs.CutSteps.{AreStepsAt}
use Rattle.rato_reduce.specs.private.CutTerms.{IsBitTerm}
use Rattle.rato_reduce.specs.GatePoint.{gate_bit_at}
use Rattle.rato_reduce.proofs.InsideLemmas.{out_below}
use Rattle.rato_reduce.proofs.PutInLemmas.{put_in, put_nothing}
use Rattle.rato_reduce.proofs.eliminate.put_gate.Goals as goal

zero_length : (n : ℕ) → true ≡ (n == 0) → n ≡ 0
zero_length n e = eqb-true n 0 (sym e)

-- the values of the terms with a bit, in any order
part_value : {k : ℕ} {mul : ℕ → ℕ → ℕ} (f : IsField k mul) (bit : ℕ) (old part : Terms) → AllByRecursion (IsTerm k) part → plus text_cmp [] part ≡ cofactors bit old
    → (p : Point) → IsPoint k p → value mul p part ≡ bit_xor (value mul (at_bit p bit true) old) (value mul (at_bit p bit false) old)
part_value {k} {mul} f bit old part over is p at =
    sym (value-plus f p at [] part tt over ∙ xor_zero_l (value mul p part)) ∙ ap (λ (ts : Terms). value mul p ts) is ∙ value-cofactors mul p bit old

pub rank-rank-requires : goal.rank-rank-requires
rank-rank-requires g c = let P : ℕ → Type 0 = λ n. n < nets c.args.circuit.now.net in subst P (sym c.out.ensures) (out_below c.args.circuit.now.net c.args.gate.now c.requires.sound c.requires.gate)

pub returns-then-is_empty-clause-reduced : goal.returns-then-is_empty-clause-reduced
returns-then-is_empty-clause-reduced g c =
    let degree = g.F.Ring.degree c.args.field.now in
    let P : Terms → Type 0 = IsReduced degree in
    subst P (sym c.in_ok-take_with.ensures.left) (reduced_lacking degree c.rank-rank.result c.args.cut.now.terms c.requires.cut)

pub returns-then-is_empty-clause-values : goal.returns-then-is_empty-clause-values
returns-then-is_empty-clause-values g c p at =
    let mul = g.F.Ring.product c.args.field.now in
    let order = variables (nets c.args.circuit.now.net) c.args.circuit.now.binding.words in
    let gate = c.args.gate.now in
    let old = c.args.cut.now.terms in
    let empty : c.take_with.new.part.items ≡ [] = nil_from_length c.take_with.new.part.items (let z = zero_length c.take_with.new.part.len c.if-is_empty.ensures in omega arith) in
    let nothing : cofactors c.rank-rank.result old ≡ [] = none_of_absent c.rank-rank.result old (c.in_ok-take_with.ensures.stands.1 empty) in
    let rank : c.rank-rank.result ≡ rank_in order gate.out = c.rank-rank.ensures ∙ ap (rank_in order) c.out.ensures in
    ap (λ (ts : Terms). value mul p ts) c.in_ok-take_with.ensures.left
    ∙ put_nothing mul c.rank-rank.result old (cofactors c.rank-rank.result old) (gate_bit_at order gate p) p nothing (λ q. value-cofactors mul q c.rank-rank.result old)
    ∙ ap (λ r. value mul (at_bit p r (gate_bit_at order gate p)) old) rank

pub returns-then-is_empty-clause-steps : goal.returns-then-is_empty-clause-steps
returns-then-is_empty-clause-steps g c =
    let order = variables (nets c.args.circuit.now.net) c.args.circuit.now.binding.words in
    let gate = c.args.gate.now in
    let old = c.args.cut.now.terms in
    let empty : c.take_with.new.part.items ≡ [] = nil_from_length c.take_with.new.part.items (let z = zero_length c.take_with.new.part.len c.if-is_empty.ensures in omega arith) in
    let rank : c.rank-rank.result ≡ rank_in order gate.out = c.rank-rank.ensures ∙ ap (rank_in order) c.out.ensures in
    let P : ℕ → Type 0 = λ r. LacksBit r old in
    let lacks : LacksBit (rank_in order gate.out) old = subst P rank (c.in_ok-take_with.ensures.stands.1 empty) in
    ([], record { absent = λ _. refl; present = λ stands. absurd (stands lacks) }, tells_none (g.T.Steps.steps c.args.steps.now))

pub add_table-requires-clause-part : goal.add_table-requires-clause-part
add_table-requires-clause-part g c =
    let degree = g.F.Ring.degree c.args.field.now in
    let P : Terms → Type 0 = λ ts. AllByRecursion IsBitTerm ts × AllByRecursion (IsTerm degree) ts in
    subst P (sym c.deref-2.ensures.value) (c.in_ok-take_with.ensures.each, c.in_ok-take_with.ensures.terms degree c.requires.cut)

pub add_table-requires-clause-cut : goal.add_table-requires-clause-cut
add_table-requires-clause-cut g c =
    let degree = g.F.Ring.degree c.args.field.now in
    let P : Terms → Type 0 = IsReduced degree in
    subst P (sym c.in_ok-take_with.ensures.left) (reduced_lacking degree c.rank-rank.result c.args.cut.now.terms c.requires.cut)

pub returns-clause-values : goal.returns-clause-values
returns-clause-values g c =
    let degree = g.F.Ring.degree c.args.field.now in
    let mul = g.F.Ring.product c.args.field.now in
    let f = field_of degree mul (g.met.F.Ring.laws c.args.field.now) (g.met.F.Field.no_zero_divisors c.args.field.now) in
    let order = variables (nets c.args.circuit.now.net) c.args.circuit.now.binding.words in
    let gate = c.args.gate.now in
    let old = c.args.cut.now.terms in
    let part = c.take_with.new.part.items in
    let over = c.in_ok-take_with.ensures.terms degree c.requires.cut in
    let rank : c.rank-rank.result ≡ rank_in order gate.out = c.rank-rank.ensures ∙ ap (rank_in order) c.out.ensures in
    on_ok_weaker c.add_table.result (λ adds p at.
    put_in f c.rank-rank.result old part c.add_table.new.cut.terms (gate_bit_at order gate) c.requires.cut (part_value f c.rank-rank.result old part over c.in_ok-take_with.ensures.part)
    (λ q is. adds q is ∙ (λ i. bit_xor (value mul q (c.in_ok-take_with.ensures.left i)) (mul (cond (gate_bit_at order gate q) 1 0) (value mul q (c.deref-2.ensures.value i))))) p at
    ∙ ap (λ r. value mul (at_bit p r (gate_bit_at order gate p)) old) rank) c.add_table.ensures.values

pub returns-clause-steps : goal.returns-clause-steps
returns-clause-steps g c =
    let degree = g.F.Ring.degree c.args.field.now in
    let order = variables (nets c.args.circuit.now.net) c.args.circuit.now.binding.words in
    let gate = c.args.gate.now in
    let old = c.args.cut.now.terms in
    let part = c.take_with.new.part.items in
    let full : (part ≡ [] → ⊥) = λ empty. (let e = c.is_empty.ensures in let t = c.if-is_empty.false in let z = ap length empty in absurd (grind arith)) in
    let rank : c.rank-rank.result ≡ rank_in order gate.out = c.rank-rank.ensures ∙ ap (rank_in order) c.out.ensures in
    let sum = plus text_cmp [] part in
    let same : sum ≡ cofactors c.rank-rank.result old = c.in_ok-take_with.ensures.part in
    let P : ℕ → Type 0 = λ r. LacksBit r old in
    let R : Terms → Type 0 = IsReduced degree in
    let C : Terms → Type 0 = IsCofactor c.rank-rank.result old in
    let Q : ℕ → Type 0 = λ r. IsCofactor r old sum in
    let are : AreStepsAt degree (rank_in order gate.out) gate.out old ((Net gate.out, sum) ∷ []) =
    record {
      absent = λ lacks. absurd (full (c.in_ok-take_with.ensures.stands.0 (subst P (sym rank) lacks)));
      present = λ _. record {
        cofactor = sum;
        reduced = subst R (sym same) (reduced_cofactors degree c.rank-rank.result old c.requires.cut);
        is = subst Q rank (subst C (sym same) (is_cofactor c.rank-rank.result old c.requires.cut.is_map));
        steps_are = refl;
      };
    } in
    let T : ℕ → Terms → Type 0 = λ n ts. Tells (g.T.Steps.steps c.args.steps.now) (g.T.Steps.steps c.tell.new.steps) ((Net n, plus text_cmp [] ts) ∷ []) in
    let N : ℕ → Type 0 = λ n. T n c.deref.result.now in
    let S : Terms → Type 0 = λ ts. T gate.out ts in
    let told = subst S c.deref.ensures.value (subst N c.out-2.ensures c.in_ok-tell.ensures) in
    on_ok_weaker c.add_table.result (λ _. ((Net gate.out, sum) ∷ [], are, told)) c.add_table.ensures.reduced

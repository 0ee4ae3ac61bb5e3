use Rattle.std.proofs.Common.{rules, arith, ◌∙◌, sym, get_or}
use Rattle.std.proofs.lemmas.Bool.{false≢true}
use Rattle.circuit_model.specs.Word.{HasElement}
use Rattle.circuit_model.specs.Flat.{word_of}
use Rattle.circuit_model.proofs.WordLemmas.{same_element}
use Rattle.circuit_model.proofs.SliceLemmas.{rest_has, rest_long, first_get}
use Rattle.circuit_model.proofs.PlainLemmas.{first_at, have_all, have_rest, found_is, option_is, must_be}
use Rattle.circuit_model.proofs.plain.+have_elements.Goals as goal

pub have_elements-requires : goal.have_elements-requires
have_elements-requires g t c κs within = (search rules, (search rules, (search rules, ((λ w has. c.requires.over w (rest_has c.args.words.now w has)), rest_long c.args.xs.now c.args.words.now c.requires.long))))

pub returns-then-eq : goal.returns-then-eq
returns-then-eq g t c =
    let at = first_at c.args.words.now c.first-item.result c.in-len1-up.len_at_least c.first-item.is in
    let value = first_get c.args.xs.now (omega (arith, c.in-len1-up.len_at_least, c.requires.long)) in (
      (λ is_true. have_all c.args.words.now c.args.xs.now c.args.bits.now c.first-item.result (get_or c.args.xs.now 0 0) at value
          (found_is c.element.result (HasElement c.args.bits.now (word_of c.first-item.result)) (get_or c.args.xs.now 0 0) c.element.ensures.element (option_is c.element.result c.eq.result _ c.eq.ensures c.if-eq.true)) (c.have_elements.ensures.0 is_true)),
      λ have. c.have_elements.ensures.1 (have_rest c.args.words.now c.args.xs.now c.args.bits.now have),
    )

pub returns-else-eq : goal.returns-else-eq
returns-else-eq g t c = (
  (λ is_true. absurd (false≢true (sym c.if-eq.false ∙ is_true))),
  λ have.
      let at = first_at c.args.words.now c.first-item.result c.in-len1-up.len_at_least c.first-item.is in
      let value = first_get c.args.xs.now (omega (arith, c.in-len1-up.len_at_least, c.requires.long)) in
      let is = have 0 c.first-item.result (get_or c.args.xs.now 0 0) at value in
      absurd (must_be c.element.result (HasElement c.args.bits.now (word_of c.first-item.result)) c.eq.result (get_or c.args.xs.now 0 0) (c.element.ensures.some (sym is.long ∙ (c.requires.over c.first-item.result (0, at)).elements.size)) c.element.ensures.element
      (λ e other. same_element c.args.bits.now (word_of c.first-item.result) e (get_or c.args.xs.now 0 0) other is) c.eq.ensures c.if-eq.false),
)

use Rattle.std.proofs.Common.{rules, arith, ◌∙◌, sym, get_or}
use Rattle.std.proofs.lemmas.Bool.{false≢true}
use Rattle.circuit_model.proofs.PlainLemmas.{first_at}
use Rattle.circuit_model.proofs.SliceLemmas.{rest_has, rest_long, first_get}
use Rattle.plain_runs.proofs.PlainLemmas.{have_asked, asked_rest}
use Rattle.plain_runs.proofs.word_bits.+have_elements.Goals as goal

pub have_elements-requires : goal.have_elements-requires
have_elements-requires g t c κs within = (search rules, (search rules, (search rules, ((λ w has. c.requires.over w (rest_has c.args.words.now w has)), rest_long c.args.xs.now c.args.words.now c.requires.long))))

pub returns-then-has_element : goal.returns-then-has_element
returns-then-has_element g t c =
    let at = first_at c.args.words.now c.first-item.result c.in-len1-up.len_at_least c.first-item.is in
    let value = first_get c.args.xs.now (omega (arith, c.in-len1-up.len_at_least, c.requires.long)) in (
      (λ is_true. have_asked c.args.states c.args.words.now c.args.xs.now c.args.bits.now c.first-item.result (get_or c.args.xs.now 0 0) at value (c.has_element.ensures.0 c.if-has_element.true) (c.have_elements.ensures.0 is_true)),
      λ have. c.have_elements.ensures.1 (asked_rest c.args.states c.args.words.now c.args.xs.now c.args.bits.now have),
    )

pub returns-else-has_element : goal.returns-else-has_element
returns-else-has_element g t c = (
  (λ is_true. absurd (false≢true is_true)),
  λ have.
      let at = first_at c.args.words.now c.first-item.result c.in-len1-up.len_at_least c.first-item.is in
      let value = first_get c.args.xs.now (omega (arith, c.in-len1-up.len_at_least, c.requires.long)) in
      absurd (false≢true (sym c.if-has_element.false ∙ c.has_element.ensures.1 (λ asked. have 0 c.first-item.result (get_or c.args.xs.now 0 0) at value asked))),
)

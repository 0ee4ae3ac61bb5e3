use Rattle.std.proofs.Common.{◌≡◌, ◌≢◌, sym, refl, length, ◌∙◌, arith}
use Rattle.net_words.specs.declared.word.Role.TheVariants.{Output}
use Rattle.std.proofs.lemmas.Option.{slice_get_read}
use Rattle.lists.specs.laws.ReadLaws.{get_below as some_at}
use Rattle.circuit_model.proofs.OutputBasisLemmas.{at_output, past_other, past_count}
use Rattle.net_words.proofs.SharedLemmas.{is_role, not_role}
use Rattle.circuit_model.proofs.output_word.output_basis.Goals as goal

pub returns-then-is_output-clause-among : goal.returns-then-is_output-clause-among
returns-then-is_output-clause-among c = (c.loop-w.w, slice_get_read c.args.bases.now (length c.args.bases.now) c.loop-w.w c.index-bases-w.result refl (omega (arith, c.requires.long)) c.index-bases-w.is)

pub returns-then-is_output-clause-basis : goal.returns-then-is_output-clause-basis
returns-then-is_output-clause-basis c =
    let words = c.args.binding.now.words in
    let w = c.loop-w.w in
    let word = some_at words w (omega arith) in
    let role : word.0.role ≡ Output = sym (c.role.ensures word.0 word.1) ∙ is_role c.role.result (sym c.is_output.ensures ∙ c.if-is_output.true) in
    let at = slice_get_read c.args.bases.now (length c.args.bases.now) w c.index-bases-w.result refl (omega (arith, c.requires.long)) c.index-bases-w.is in
    sym (at_output words c.args.bases.now w word.0 c.index-bases-w.result word.1 at role) ∙ c.loop-w.invariant.basis

pub loop-w-preserved : goal.loop-w-preserved
loop-w-preserved c =
    let words = c.args.binding.now.words in
    let w = c.loop-w.w in
    let word = some_at words w (omega arith) in
    let basis = some_at c.args.bases.now w (omega (arith, c.requires.long)) in
    let other : word.0.role ≢ Output = λ is. not_role c.role.result (sym c.is_output.ensures ∙ c.if-is_output.false) (c.role.ensures word.0 word.1 ∙ is) in
    record {
      basis = past_other words c.args.bases.now w word.0 basis.0 word.1 basis.1 other ∙ c.loop-w.invariant.basis;
      one = past_count words w word.0 word.1 other ∙ c.loop-w.invariant.one;
    }

use Rattle.std.proofs.Common.{◌≡◌, ◌≢◌, ◌+◌, sym, refl, ap, inl, inr, length, ◌∙◌, arith}
use Rattle.std.specs.Prelude.{slice_get}
use Rattle.std.proofs.lemmas.Option.{slice_get_read}
use Rattle.lists.specs.laws.ReadLaws.{get_below as some_at}
use Rattle.net_words.specs.declared.word.Role.TheVariants.{Output}
use Rattle.cert_check.proofs.WordsLemmas.{words_from, at_input, past_input, past_output, past_all}
use Rattle.net_words.proofs.SharedLemmas.{is_role, not_role}
use Rattle.cert_check.proofs.words.input_basis.Goals as goal

pub returns-in-None-clause-among : goal.returns-in-None-clause-among
returns-in-None-clause-among c = (c.loop-w.w, slice_get_read c.args.bases.now (length c.args.bases.now) c.loop-w.w c.index-bases-w.result refl (omega (arith, c.requires.long)) c.index-bases-w.is)

pub returns-in-None-clause-basis : goal.returns-in-None-clause-basis
returns-in-None-clause-basis c w got =
    let words = c.args.binding.now.words in
    let bases = c.args.bases.now in
    let v = c.loop-w.w in
    let word = some_at words v (omega arith) in
    let at = slice_get_read bases (length bases) v c.index-bases-w.result refl (omega (arith, c.requires.long)) c.index-bases-w.is in
    let other : word.0.role ≢ Output = λ is. not_role c.role.result (sym c.is_output.ensures ∙ c.in-None.ensures.found.0) (c.role.ensures word.0 word.1 ∙ is) in
    let here = ap (λ n. slice_get (words_from words bases v) n) (sym c.in-None.ensures.found.1) ∙ (c.loop-w.invariant ∙ got) in
    at_input words bases v word.0 c.index-bases-w.result word.1 at other w here

pub loop-w-preserved : goal.loop-w-preserved
loop-w-preserved c =
    let words = c.args.binding.now.words in
    let bases = c.args.bases.now in
    let v = c.loop-w.w in
    let word = some_at words v (omega arith) in
    let basis = some_at bases v (omega (arith, c.requires.long)) in
    (elim c.in-Some.ensures.passed [
      | inl out ↦
          let role : word.0.role ≡ Output = sym (c.role.ensures word.0 word.1) ∙ is_role c.role.result (sym c.is_output.ensures ∙ out.0) in
          ap (λ n. slice_get (words_from words bases (v + 1)) n) out.1
          ∙ (ap (λ ws. slice_get ws c.loop-w.left) (past_output words bases v word.0 basis.0 word.1 basis.1 role) ∙ c.loop-w.invariant)
      | inr own ↦
          let other : word.0.role ≢ Output = λ is. not_role c.role.result (sym c.is_output.ensures ∙ own.0) (c.role.ensures word.0 word.1 ∙ is) in
          ap (λ n. slice_get (words_from words bases (v + 1)) n) own.2
          ∙ (past_input words bases v word.0 basis.0 word.1 basis.1 other c.loop-w.left own.1 ∙ c.loop-w.invariant)
    ])

pub unreachable-requires : goal.unreachable-requires
unreachable-requires c =
    let words = c.args.binding.now.words in
    let found = some_at _ c.args.word c.requires.word in
    past_all words c.args.bases.now c.loop-w.w c.loop-w.left found.0 (omega arith) (c.loop-w.invariant ∙ found.1)

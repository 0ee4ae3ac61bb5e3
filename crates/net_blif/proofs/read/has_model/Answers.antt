use Rattle.std.proofs.Common.{◌≡◌, ◌∙◌, ◌+◌, ap, sym, refl, arith, cond, codes, false, bytes_eq}
use Rattle.std.specs.Str.Lines.{lines}
use Rattle.net_blif.specs.Lines.{joined}
use Rattle.net_blif.specs.Models.{begins, first_word}
use Rattle.net_blif.specs.Statement.{is_dotted}
use Rattle.net_blif.proofs.FirstLineLemmas.{begins_word}
use Rattle.net_blif.proofs.read.has_model.Goals as goal

pub loop-rest-init : goal.loop-rest-init
loop-rest-init c = record { few = c.requires; same = (1, refl) }

pub loop-rest-preserved : goal.loop-rest-preserved
loop-rest-preserved c =
    let n = c.loop-rest.invariant.same.0 in
    let words = c.next_joined.new.words.items in
    let no_dot : is_dotted (first_word words) ≡ false = sym (c.if-is_dotted.ensures ∙ ap is_dotted (c.first_word-word.ensures ∙ ap first_word c.deref.ensures.value)) in
    let after = begins (joined (n + c.in_ok-after.field-0-1) (lines c.in_ok-after.after.now)) in
    record {
      few = omega (arith, c.loop-rest.invariant.few, c.in_ok-after.ensures.shorter);
      same = (n + c.in_ok-after.field-0-1, c.loop-rest.invariant.same.1 ∙ (begins_word c.loop-rest.rest.now words c.in_ok-after.field-0-1 c.in_ok-after.after.now n c.in_ok-after.ensures.line ∙ ap (λ b. cond b (bytes_eq (first_word words) (codes ".model")) after) no_dot));
    }

use Rattle.std.proofs.Common.{rules, ◌≡◌, ◌∙◌, sym, true, codes}
use Rattle.std.specs.Str.{bytes_eq}
use Rattle.net_blif.proofs.StatementLemmas.{names_said}
use Rattle.net_blif.proofs.spelling.dotted_statement.Goals as goal

pub returns-then-is_word : goal.returns-then-is_word
returns-then-is_word c =
    let is : bytes_eq c.args.word.now (codes ".names") ≡ true = search rules in
    c.cover.ensures ∙ sym (names_said c.args.word.now c.args.rest.now is)

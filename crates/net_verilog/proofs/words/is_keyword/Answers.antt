use Rattle.std.proofs.Common.{◌∙◌, ap, sym}
use Rattle.std.specs.Prelude.{is_some}
use Rattle.net_verilog.proofs.KeywordLemmas.{keyword_gate, keyword_plain}
use Rattle.net_verilog.proofs.words.is_keyword.Goals as goal

pub returns-then-is_plain_keyword : goal.returns-then-is_plain_keyword
returns-then-is_plain_keyword c = keyword_plain c.args.word.now (sym c.is_plain_keyword.ensures ∙ c.if-is_plain_keyword.true)

pub returns : goal.returns
returns c = c.is_some.ensures ∙ ap is_some c.gate_of.ensures ∙ keyword_gate c.args.word.now (sym c.is_plain_keyword.ensures ∙ c.if-is_plain_keyword.false)

use Rattle.std.proofs.Common.{◌≡◌, rules, List, Result, Ok}
use Rattle.net_words.specs.declared.word.WordText.{WordText}
use Rattle.net_signature.specs.Body.{with_word}
use Rattle.net_signature.specs.declared.fault.SigFault.{SigFault}
use Rattle.net_signature.proofs.FewLemmas.{few_more}
use Rattle.net_signature.proofs.words.add_word.Goals as goal

pub returns-clause-few : goal.returns-clause-few
returns-clause-few c =
    let taken : ◌≡◌ {A = Result (List WordText) SigFault} (Ok c.push.new.self.items) (with_word c.args.words.now.items c.args.word) = search rules in
    few_more c.args.words.now.items c.args.word c.push.new.self.items taken

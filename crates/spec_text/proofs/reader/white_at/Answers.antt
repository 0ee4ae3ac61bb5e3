use Rattle.std.proofs.Common.{◌∙◌, ap, ℕ, List, length}
use Rattle.text_core.proofs.LineLemmas.{rest_of}
use Rattle.text_core.specs.Scan.{run, is_white}
use Rattle.spec_text.proofs.reader.white_at.Goals as goal

pub returns : goal.returns
returns c = ap (λ (bs : List ℕ). length bs) c.front.ensures.value ∙ ap (λ (bs : List ℕ). length (run is_white bs)) (rest_of c.args.bytes.now c.args.at)

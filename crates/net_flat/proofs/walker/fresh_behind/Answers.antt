use Rattle.std.proofs.Common.{◌≡◌, ◌∙◌, ap, ℕ, List, ◌++◌, length, arith}
use Rattle.std.specs.Prelude.{string_bytes}
use Rattle.net_flat.proofs.LabelLemmas.{cut_back, cut_before}
use Rattle.net_flat.proofs.walker.fresh_behind.Goals as goal

pub truncate-requires : goal.truncate-requires
truncate-requires c = λ within.
    let size : c.len-size.result ≡ length (string_bytes c.args.prefix.now) = omega (arith, c.len-size.ensures) in
    let text : string_bytes c.push_str.new.self ≡ string_bytes c.args.prefix.now ++ c.args.name.now = c.in_ok-push_str.ensures.bytes ∙ ap (λ (n : List ℕ). string_bytes c.args.prefix.now ++ n) c.text_of.ensures in
    cut_before (string_bytes c.push_str.new.self) (string_bytes c.args.prefix.now) c.args.name.now c.len-size.result text size c.requires

pub returns-clause-prefix : goal.returns-clause-prefix
returns-clause-prefix c =
    let size : c.len-size.result ≡ length (string_bytes c.args.prefix.now) = omega (arith, c.len-size.ensures) in
    let text : string_bytes c.push_str.new.self ≡ string_bytes c.args.prefix.now ++ c.args.name.now = c.in_ok-push_str.ensures.bytes ∙ ap (λ (n : List ℕ). string_bytes c.args.prefix.now ++ n) c.text_of.ensures in
    cut_back (string_bytes c.push_str.new.self) (string_bytes c.truncate.new.self) (string_bytes c.args.prefix.now) c.args.name.now c.len-size.result text size c.truncate.ensures.bytes

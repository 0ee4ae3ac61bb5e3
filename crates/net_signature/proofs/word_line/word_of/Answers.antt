use Rattle.std.proofs.Common.{◌∙◌, List, ℕ, refl, map, Bor, length, subst, sym}
use Rattle.lists.specs.laws.ListLaws.{length_map as map-long}
use Rattle.net_words.specs.declared.word.WordText.{WordText}
use Rattle.net_signature.specs.Statement.{IsNetCount}
use Rattle.net_signature.proofs.WordLemmas.{word_ok, basis_err}
use Rattle.net_signature.proofs.word_line.word_of.Goals as goal

pub returns : goal.returns
returns c =
    let f : Bor (List ℕ) → List ℕ = λ t. t.now in
    let word : WordText = record { line = c.args.line; name = c.in_ok-name.name; role = c.in-Some-Some.role; basis = c.in-Ok.basis; nets = c.in-Ok-net_names.nets } in
    let P : ℕ → Type 0 = λ n. IsNetCount c.in-Some-Some.role n in
    let count : IsNetCount c.in-Some-Some.role (length c.args.nets.now) = c.is_net_count.ensures.0 c.if-not-is_net_count.false in
    word_ok c.args.line c.args.name.now c.args.role.now c.args.basis.now (map f c.args.nets.now) word refl (c.in_ok-name.ensures ∙ c.in-Some-Some.ensures.found.0) c.in-Some-Some.ensures.found.1 c.in-Some-Some.ensures'.found c.in-Ok.ensures (subst P (sym (map-long f c.args.nets.now)) count) c.in-Ok-net_names.ensures

pub returns-in-Err : goal.returns-in-Err
returns-in-Err c =
    let f : Bor (List ℕ) → List ℕ = λ t. t.now in
    basis_err c.args.line c.args.name.now c.args.role.now c.args.basis.now (map f c.args.nets.now) c.in-Err.fault c.in-Err.ensures

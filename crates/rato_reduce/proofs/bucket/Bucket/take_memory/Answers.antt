use Rattle.std.proofs.Common.{◌≡◌, length, sym, ◌∙◌, arith}
use Rattle.std.proofs.lemmas.List.{nil_from_length}
use Rattle.rato_reduce.proofs.bucket.Bucket.take_memory.Goals as goal

pub returns : goal.returns
returns c =
    let none : length c.args.self.now ≡ 0 = omega (arith, c.len.ensures) in
    c.swap.ensures.x_after ∙ c.clear-2.ensures ∙ sym (nil_from_length c.args.self.now none)

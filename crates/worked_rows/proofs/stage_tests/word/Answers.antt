use Rattle.std.proofs.Common.{length, refl, arith}
use Rattle.std.proofs.lemmas.Option.{slice_get_read}
use Rattle.worked_rows.proofs.stage_tests.word.Goals as goal

pub anew-requires : goal.anew-requires
anew-requires g c =
    let bases = c.args.bases.now in
    c.requires c.index-bases-w.result (c.args.w, slice_get_read bases (length bases) c.args.w c.index-bases-w.result refl (omega arith) c.index-bases-w.is)

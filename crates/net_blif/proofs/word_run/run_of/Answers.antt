use Rattle.std.proofs.Common.{ℕ, leb, cond, refl}
use Rattle.std.proofs.lemmas.Simd.{length-chunk, splat_is_map, zip2_of_maps, zip2_splat}
use lib.Lanes.{chunk}
use Rattle.net_blif.proofs.RunLemmas.{run_short, run_words}
use Rattle.net_blif.proofs.word_run.run_of.Goals as goal

pub returns-clause-short : goal.returns-clause-short
returns-clause-short c =
    let bytes = chunk 0 16 c.args.text.now in
    let long = length-chunk 0 16 c.args.text.now c.requires in
    run_short c.args.text.now c.lowest.result _ _ c.requires c.type_inv.text c.lowest.ensures (zip2_of_maps (λ a b. cond (leb a b) 255 0) _ _ bytes (splat_is_map bytes 16 91 long) (zip2_splat {Y = ℕ} _ bytes 16 36 long))

pub returns-clause-word : goal.returns-clause-word
returns-clause-word c =
    let bytes = chunk 0 16 c.args.text.now in
    let long = length-chunk 0 16 c.args.text.now c.requires in
    run_words c.args.text.now c.lowest.result _ _ c.requires c.type_inv.text c.lowest.ensures (zip2_of_maps (λ a b. cond (leb a b) 255 0) _ _ bytes (splat_is_map bytes 16 91 long) (zip2_splat {Y = ℕ} _ bytes 16 36 long)) refl

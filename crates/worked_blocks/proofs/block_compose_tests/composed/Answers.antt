use Rattle.block_compose.proofs.GivenLemmas.{none_fed}
use Rattle.worked_blocks.proofs.block_compose_tests.composed.Goals as goal

pub compose-requires : goal.compose-requires
compose-requires g c =
    let ready = c.in-Ok.ensures.ready in
    let binds = c.in-Ok-read_hierarchy.ensures.top in
    record {
      net = binds.0;
      flat = binds.1;
      binding = binds.2.1.0;
      bound = binds.2.1.1;
      words_are = ready.words;
      blocks_are = λ number block found. let own = ready.blocks block (number, found) in record { words_are = own.words_are; unfed = none_fed block.words (λ i word at. own.unfed word (i, at)) };
      top = c.in_ok-bases.ensures.top;
      blocks = c.in_ok-bases.ensures.block;
    }

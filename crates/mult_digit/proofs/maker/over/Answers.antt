use Rattle.gf_field.specs.Ring2k.{degree_of}
use Rattle.irreducible.specs.Proved.{ring_of}
use Rattle.mult_digit.proofs.FinalLemmas.{few_names}
use Rattle.mult_digit.proofs.maker.over.Goals as goal

pub outer_nets-requires : goal.outer_nets-requires
outer_nets-requires c = few_names (degree_of (ring_of c.args.ring.now)) c.args.words.now c.args.front.now c.requires.words c.requires.wide c.args.ring.now.ring.fits.small c.requires.narrow

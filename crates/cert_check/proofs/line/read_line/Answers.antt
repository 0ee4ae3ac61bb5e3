use Rattle.std.proofs.Common.{refl, Some, None, Ok, Err}
use Rattle.outcome.specs.Outcome.{Exactly}
use Rattle.cert_check.specs.Certificate.{pairs, shares, MultiplierOf, PolynomialOf}
use Rattle.cert_check.specs.Frame.{pair_of, share_of, end_of}
use Rattle.cert_check.specs.declared.line.Line.TheVariants.{Pair, Share}
use Rattle.cert_check.specs.private.Reading.{multiplier_in, said_in}
use Rattle.poly_mixed.specs.Polynomial.{Polynomial}
use Rattle.cert_check.proofs.FrameLemmas.{frame_generator}
use Rattle.cert_check.proofs.LineLemmas.{line_first, no_frame, framed}
use Rattle.cert_check.proofs.line.read_line.Goals as goal

pub returns-in-Ok-clause-is : goal.returns-in-Ok-clause-is
returns-in-Ok-clause-is c = (
  frame_generator c.args.net.now c.args.labels.now c.args.version c.args.count c.args.line.now (pair_of c.in-Ok-Pair.generator c.in-Ok-Pair.text.now) (rw c.in-Ok-Pair.field-0-is at c.in-Ok-Pair.ensures.value),
  c.in-Ok.ensures.is,
)

pub returns-in-Err-clause-value : goal.returns-in-Err-clause-value
returns-in-Err-clause-value c shared long = no_frame c.args.k c.args.net.now c.args.labels.now c.args.version c.args.count c.args.line.now shared long c.in-Err.fault c.in-Err.ensures.value

pub returns-in-Ok-clause-value : goal.returns-in-Ok-clause-value
returns-in-Ok-clause-value c shared long =
    framed c.args.k c.args.net.now c.args.labels.now c.args.version c.args.count c.args.line.now shared long (pair_of c.in-Ok-Pair.generator c.in-Ok-Pair.text.now) (rw c.in-Ok-Pair.field-0-is at c.in-Ok-Pair.ensures.value)
    (Ok (Some (Pair c.in-Ok-Pair.generator c.in-Ok.multiplier))) (multiplier_in shared c.in-Ok.multiplier, c.in-Ok.ensures.value shared long, refl)

pub returns-in-Err-read_multiplier-clause-value : goal.returns-in-Err-read_multiplier-clause-value
returns-in-Err-read_multiplier-clause-value c shared long =
    framed c.args.k c.args.net.now c.args.labels.now c.args.version c.args.count c.args.line.now shared long (pair_of c.in-Ok-Pair.generator c.in-Ok-Pair.text.now) (rw c.in-Ok-Pair.field-0-is at c.in-Ok-Pair.ensures.value)
    (Err c.in-Err-read_multiplier.fault)
    (line_first (multiplier_in shared) (said_in shared) c.in-Err-read_multiplier.fault (MultiplierOf c.args.k c.args.labels.now c.args.version shared c.in-Ok-Pair.text.now) (λ m. Exactly (pairs c.in-Ok-Pair.generator m)) (c.in-Err-read_multiplier.ensures.value shared long))

pub returns-in-Ok-polynomial-clause-value : goal.returns-in-Ok-polynomial-clause-value
returns-in-Ok-polynomial-clause-value c shared long =
    framed c.args.k c.args.net.now c.args.labels.now c.args.version c.args.count c.args.line.now shared long (share_of c.in-Ok-Share.text.now) (rw c.in-Ok-Share.field-0-is at c.in-Ok-Share.ensures.value)
    (Ok (Some (Share c.in-Ok-polynomial.poly))) (c.in-Ok-polynomial.poly.terms, c.in-Ok-polynomial.ensures.value, refl)

pub returns-in-Err-polynomial-clause-value : goal.returns-in-Err-polynomial-clause-value
returns-in-Err-polynomial-clause-value c shared long =
    framed c.args.k c.args.net.now c.args.labels.now c.args.version c.args.count c.args.line.now shared long (share_of c.in-Ok-Share.text.now) (rw c.in-Ok-Share.field-0-is at c.in-Ok-Share.ensures.value)
    (Err c.in-Err-polynomial.fault)
    (line_first (λ (p : Polynomial). p.terms) (said_in shared) c.in-Err-polynomial.fault (PolynomialOf c.args.k c.args.labels.now c.in-Ok-Share.text.now) (λ m. Exactly (shares m)) c.in-Err-polynomial.ensures.value)

pub returns-in-Ok-End-clause-value : goal.returns-in-Ok-End-clause-value
returns-in-Ok-End-clause-value c shared long = framed c.args.k c.args.net.now c.args.labels.now c.args.version c.args.count c.args.line.now shared long end_of (rw c.in-Ok-End.field-0-is at c.in-Ok-End.ensures.value) (Ok None) refl

-- A polynomial between two words. Source: this project's own.
use Rattle.poly_mixed.specs.Polynomial.{Terms}
use Rattle.word_subst.specs.declared.held.Held.{Held}
use Rattle.word_subst.specs.declared.held.Held.TheVariants as held

-- the terms of a polynomial as a list or as a map
abbrev pub terms_of : Held → Terms
terms_of (held.Listed terms) = terms.items
terms_of (held.Mapped poly) = poly.terms

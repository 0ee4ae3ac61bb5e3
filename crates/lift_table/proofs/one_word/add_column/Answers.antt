use Rattle.std.proofs.Common.{◌∙◌, ◌++◌, ap, List, ℕ}
use Rattle.lift_table.proofs.one_word.add_column.Goals as goal

pub coefficients-requires : goal.coefficients-requires
coefficients-requires g c = record { small = c.requires.small; products = c.requires.products; long = c.requires.long; elements = c.requires.elements }

pub returns : goal.returns
returns g c = record {
  column = c.in_ok-column.column.items;
  are = c.in_ok-column.ensures;
  is = c.in_ok-extend_from_slice.ensures.items ∙ ap (λ (xs : List ℕ). c.args.list.now.items ++ xs) c.deref.ensures.value;
}

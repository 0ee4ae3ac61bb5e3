-- The value of a specification at an input: that of its sum of products, where the input's elements stand for the words.
-- Source: this project's own.
pub use Rattle.term_expand.specs.SumValue.{powers_at, sum_at as spec_at, factors_of, product_at}

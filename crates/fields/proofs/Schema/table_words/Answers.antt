use Prim.Native.Nat.{◌+◌}
use native.Mathlib.Omega.{arith}
use Rattle.schema.proofs.SizeLaws.{product, size_is}
use Rattle.fields.proofs.Schema.table_words.Goals as goal

pub overflow_mul-result : goal.overflow_mul-result
overflow_mul-result c = omega (arith, product c.rows-n.result (c.columns-m.result + 1) c.rows-n.ensures.1.high (omega arith))

pub returns : goal.returns
returns c = (size_is _ c.rows-n.ensures.0 c.columns-m.ensures.0, product c.rows-n.result (c.columns-m.result + 1) c.rows-n.ensures.1.high (omega arith))

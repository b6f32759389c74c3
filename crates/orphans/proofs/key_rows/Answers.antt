use mathlib.Core.Path.{subst}
use Prim.Native.Nat.{ℕ}
use Rattle.rows.specs.Standing.{RowsOf}
use Rattle.rows.proofs.TableLaws.{parent_table}
use Rattle.orphans.proofs.key_rows.Goals as goal

pub rows_of-parents-requires : goal.rows_of-parents-requires
rows_of-parents-requires c = rw c.parent.ensures (parent_table c.args.schema.now.bytes c.args.k c.requires)

pub returns : goal.returns
returns c =
    let b = c.args.schema.now.bytes in
    let child = c.child in
    let children = c.rows_of-children in
    let parent = c.parent in
    let parents = c.rows_of-parents in
    record {
      whole_key = c.requires;
      columns = c.key_columns-columns.ensures;
      children = subst (λ (t : ℕ). RowsOf b t children.result) child.ensures.0 children.ensures;
      parents = subst (λ (t : ℕ). RowsOf b t parents.result) parent.ensures parents.ensures;
    }

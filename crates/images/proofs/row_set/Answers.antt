use borrow.Author.Rules.{rules}
use Rattle.images.proofs.AlikeLaws.{row_option}
use Rattle.images.proofs.row_set.Goals as goal

pub returns : goal.returns
returns c =
    let a = c.args in
    row_option a.columns c.requires.0 a.c c.requires.1 a.value a.image (search rules) _ c.set_cell.ensures c.written.ensures

use Prim.Native.Nat.{◌*◌, ◌-◌}
use native.Mathlib.Omega.{arith}
use lib.ListN.{take, length-take}
use Rattle.words.proofs.Splice.{lent_sets}
use Rattle.words.proofs.write_row.Goals as goal

pub returns : goal.returns
returns c =
    let a = c.args in
    rw c.put_words.ensures (lent_sets a.start (a.end - a.start) (take a.stride a.image) a.area.now (a.r * a.stride) (simp length-take (omega arith)))

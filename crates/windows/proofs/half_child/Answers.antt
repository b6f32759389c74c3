use mathlib.Core.Path.{ap, ◌∙◌}
use Prim.Native.Nat.{ℕ}
use mathlib.Core.List.{List}
use Rattle.rules.specs.Keys.{half_key}
use Rattle.windows.proofs.WindowLaws.{child_array, child_array_in}
use Rattle.windows.proofs.half_child.Goals as goal

pub image_half_key-requires : goal.image_half_key-requires
image_half_key-requires c =
    child_array_in c.args.key c.requires

pub returns : goal.returns
returns c =
    c.image_half_key.ensures ∙ ap (λ (cs : List ℕ). half_key cs c.args.image) (child_array c.args.key c.requires)

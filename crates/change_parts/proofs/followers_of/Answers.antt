use mathlib.Core.Path.{sym, ap, ◌∙◌}
use mathlib.Core.List.{List}
use Prim.Native.Nat.{ℕ}
use Rattle.rules.specs.Keys.{full_key}
use Rattle.bridge.proofs.MapLaws.{parent_plain}
use Rattle.rows.proofs.TableLaws.{parent_wide}
use Rattle.change_parts.proofs.FollowerLaws.{followers_are}
use Rattle.change_parts.proofs.followers_of.Goals as goal

pub sought_key-key-requires : goal.sought_key-key-requires
sought_key-key-requires c =
    let pairs = c.key_pairs-pairs.ensures in
    (parent_wide _ _ _ _ pairs.columns.parents, ap (λ (l : List ℕ). full_key l c.args.old) (pairs.columns.parents.parent_is ∙ sym (parent_plain _ c.requires.0.plain)) ∙ c.requires.1)

pub returns : goal.returns
returns c =
    let a = c.args in
    followers_are a.schema.now.bytes a.k a.old a.new c.key_pairs-pairs.ensures c.requires.0.plain c.child-t.ensures.0 c.rows_of-rows.ensures c.sought_key-key.ensures c.action_of-action.ensures

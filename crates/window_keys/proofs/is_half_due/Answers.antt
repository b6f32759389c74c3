use mathlib.Core.Path.{◌≡◌, sym, ap, ◌∙◌}
use mathlib.Core.List.{List}
use Prim.Native.Nat.{ℕ}
use Rattle.schema.specs.Fields.{schema_of}
use Rattle.schema.specs.Records.{child_key, key_of}
use Rattle.schema.specs.declared.Match.{Match}
use Rattle.schema.specs.declared.Match.TheVariants.{Simple, Full}
use Rattle.rules.specs.Keys.{half_key, half_due}
use Rattle.windows.proofs.KeyDays.{window_in, child_all_lem}
use Rattle.window_keys.proofs.is_half_due.Goals as goal

pub half_child-requires : goal.half_child-requires
half_child-requires c = window_in _ _ _ c.requires

pub returns-in-Simple : goal.returns-in-Simple
unfolding half_due
returns-in-Simple c =
    let K = key_of (schema_of c.args.schema.now.bytes) c.args.k in
    let match_is : Simple ≡ K.match = sym c.in-Simple.is ∙ c.key_match.ensures in
    ap (λ (m : Match). half_due m (child_key K) c.args.image) match_is

pub returns-in-Full : goal.returns-in-Full
unfolding half_due
returns-in-Full c =
    let K = key_of (schema_of c.args.schema.now.bytes) c.args.k in
    let match_is : Full ≡ K.match = sym c.in-Full.is ∙ c.key_match.ensures in
    c.half_child.ensures
    ∙ ap (λ (cs : List ℕ). half_key cs c.args.image) (child_all_lem _ _ _ c.requires)
    ∙ ap (λ (m : Match). half_due m (child_key K) c.args.image) match_is

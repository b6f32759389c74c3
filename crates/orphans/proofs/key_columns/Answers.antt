use mathlib.Core.Path.{◌≡◌, refl, sym, ◌∙◌}
use mathlib.Core.List.{List, [], ◌∷◌}
use native.Mathlib.Omega.{arith}
use lib.ListN.{length}
use Rattle.schema.specs.Records.{Window}
use Rattle.orphans.specs.KeyRows.{ColumnsOf}
use Rattle.orphans.proofs.key_columns.Goals as goal

none_are : (ws : List Window) → length ws ≡ 0 → ws ≡ []
none_are [] e = refl
none_are (w ∷ ws) e = absurd (omega (arith, e))

pub key_pairs-requires : goal.key_pairs-requires
key_pairs-requires c =
    record { whole_key = c.requires; plain = none_are _ (sym c.windows.ensures.0 ∙ c.if-windows-eq0.true) }

pub returns-then-windows-eq0 : goal.returns-then-windows-eq0
unfolding ColumnsOf
returns-then-windows-eq0 c =
    (c.key_pairs.ensures, record { whole_key = c.requires; plain = none_are _ (sym c.windows.ensures.0 ∙ c.if-windows-eq0.true) })

pub window_key-requires : goal.window_key-requires
window_key-requires c =
    record { whole_key = c.requires; windowed = omega (arith, c.windows.ensures, c.if-windows-eq0.false) }

pub returns : goal.returns
unfolding ColumnsOf
returns c = c.window_key.ensures

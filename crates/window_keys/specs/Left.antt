-- Child rows left without a parent row.
-- Assumes nothing.
use Rattle.std.specs.Prelude.{Bool, not, ◌&&◌, ◌||◌, List}
use Rattle.schema.specs.Records.{ForeignKey}
use Rattle.rules.specs.Lists.{any}
use Rattle.rules.specs.Rows.{Row}
use Rattle.rules.specs.Keys.{serves}

-- y does not serve child row c, nor does one of the others; where these are clear, they are not asked
unfoldable pub left_by : Bool → ForeignKey → Row → List Row → Row → Bool
left_by clear k y others c = not (serves k c y) && (clear || not (any (serves k c) others))

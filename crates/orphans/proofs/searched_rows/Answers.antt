use mathlib.Core.Path.{sym, ◌∙◌}
use Rattle.orphans.proofs.searched_rows.Goals as goal

pub returns-then-is_broken : goal.returns-then-is_broken
returns-then-is_broken c = record { key = c.requires; rows = sym c.is_broken.ensures ∙ c.if-is_broken.true }

pub key_rows-requires : goal.key_rows-requires
key_rows-requires c =
    record { accepted = c.args.schema.now.accepted; key = c.requires; whole = sym c.is_broken.ensures ∙ c.if-is_broken.false }

pub returns : goal.returns
returns c = record { key = c.requires; rows = c.key_rows.ensures }

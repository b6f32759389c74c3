use mathlib.Core.Path.{sym, ◌∙◌}
use native.Mathlib.Omega.{arith}
use Rattle.schema.proofs.SchemaLaws.{accepted_valid}
use Rattle.window_keys.proofs.ClashLaws.{windowed_key, bad_off}
use Rattle.window_keys.proofs.key_bad_window.Goals as goal

pub bit_of-requires : goal.bit_of-requires
bit_of-requires c =
    omega (arith, (accepted_valid _ c.requires.0.ready.accepted).few, c.requires.1.1)

pub returns-then-not-bit_of : goal.returns-then-not-bit_of
returns-then-not-bit_of c =
    bad_off c.args.schema.now.bytes c.requires.0.ready.accepted c.args.t c.requires.1.0 c.args.k c.requires.1.1 c.args.r c.args.image _ (sym c.bit_of.ensures ∙ c.if-not-bit_of.true)

pub bad_window-requires : goal.bad_window-requires
bad_window-requires c =
    (c.requires.0, windowed_key c.args.schema.now.bytes c.requires.0.ready.accepted c.args.t c.requires.1.0 c.args.k c.requires.1.1 (sym c.bit_of.ensures ∙ c.if-not-bit_of.false))

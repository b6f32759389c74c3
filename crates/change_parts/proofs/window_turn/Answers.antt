use mathlib.Core.Path.{◌≡◌, sym, ◌∙◌}
use mathlib.Core.Logic.{⊎_elim}
use Rattle.schema.specs.Records.{key_of}
use Rattle.schema.specs.Fields.{schema_of}
use Rattle.rules.specs.Keys.{fires}
use Rattle.windows.proofs.KeyDays.{window_in, changes_fires}
use Rattle.change_parts.proofs.WindowTurns.{window_action, not_parent, old_full, turn_off, turn_none, turn_restrict}
use Rattle.change_parts.proofs.window_turn.Goals as goal
use Rattle.change_parts.proofs.window_turn.Goals.{After-key_changes}

pub returns-then-parent-t : goal.returns-then-parent-t
returns-then-parent-t c =
    turn_off _ _ c.requires.0 _ c.args.t c.args.old c.args.new (not_parent _ _ _ _ (λ e. c.if-parent-t.true (c.parent.ensures ∙ e)))

pub key_changes-requires : goal.key_changes-requires
key_changes-requires c = window_in _ _ _ c.window_key-key.ensures

-- the key fires where its columns change
fires_is : (c : After-key_changes) → c.key_changes.result ≡ fires c.args.new c.args.t c.args.old (key_of (schema_of c.args.schema.now.bytes) c.args.k)
fires_is c = c.key_changes.ensures ∙ changes_fires _ _ _ c.window_key-key.ensures (sym c.parent.ensures ∙ c.if-parent-t.false) _ _

pub returns-then-not-key_changes : goal.returns-then-not-key_changes
returns-then-not-key_changes c =
    turn_off _ _ c.requires.0 _ c.args.t c.args.old c.args.new (sym (fires_is (goal.at.returns-then-not-key_changes c).After-key_changes) ∙ c.if-not-key_changes.true)

pub restrict-requires : goal.restrict-requires
restrict-requires c =
    let on = sym (fires_is (goal.at.restrict-requires c).After-key_changes) ∙ c.if-not-key_changes.false in
    ((c.requires.0, c.window_key-key.ensures), old_full _ _ _ _ on)

pub returns-in-Restrict : goal.returns-in-Restrict
returns-in-Restrict c =
    let on = sym (fires_is (goal.at.returns-in-Restrict c).After-key_changes) ∙ c.if-not-key_changes.false in
    turn_restrict _ _ c.requires.0 _ c.args.t c.args.old c.args.new on (sym c.action_of.ensures ∙ c.in-Restrict.is) c.restrict.ensures

pub returns-in_default : goal.returns-in_default
returns-in_default c =
    let on = sym (fires_is (goal.at.returns-in_default c).After-key_changes) ∙ c.if-not-key_changes.false in
    ⊎_elim
    (λ e. turn_none _ _ c.requires.0 _ c.args.t c.args.old c.args.new on e)
    (λ e. absurd (c.in_default.not-Restrict (c.action_of.ensures ∙ e)))
    (window_action _ c.requires.0.accepted _ c.requires.1.whole_key.key c.requires.1.windowed c.args.new)

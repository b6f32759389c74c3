use mathlib.Core.Path.{sym, ◌∙◌}
use Rattle.windows.proofs.KeyDays.{window_in}
use Rattle.window_keys.proofs.ClashLaws.{full_by, bad_elsewhere, bad_null, bad_empty, bad_clash}
use Rattle.window_keys.proofs.bad_window.Goals as goal

pub returns-then-parent-t : goal.returns-then-parent-t
returns-then-parent-t c =
    bad_elsewhere c.args.t c.args.r c.args.image _ _ (λ e. c.if-parent-t.true (c.parent.ensures ∙ e))

pub full_parent-requires : goal.full_parent-requires
full_parent-requires c =
    window_in _ _ _ c.window_key-key.ensures

pub returns-then-not-full_parent : goal.returns-then-not-full_parent
returns-then-not-full_parent c =
    let window_key = c.window_key-key in
    let full = full_by _ _ _ window_key.ensures c.args.image c.full_parent.ensures ∙ c.if-not-full_parent.true in
    bad_null c.args.t c.args.r c.args.image _ _ full

pub is_empty-requires : goal.is_empty-requires
is_empty-requires c =
    window_in _ _ _ c.window_key-key.ensures

pub returns-then-is_empty : goal.returns-then-is_empty
returns-then-is_empty c =
    let at = sym c.parent.ensures ∙ c.if-parent-t.false in
    let window_key = c.window_key-key in
    let full = full_by _ _ _ window_key.ensures c.args.image c.full_parent.ensures ∙ c.if-not-full_parent.false in
    bad_empty c.args.t c.args.r c.args.image _ _ at c.requires.1.whole_key.whole _ window_key.ensures.window_is full (sym c.is_empty.ensures ∙ c.if-is_empty.true)

pub has_clash-requires : goal.has_clash-requires
has_clash-requires c =
    let at = sym c.parent.ensures ∙ c.if-parent-t.false in
    let window_key = c.window_key-key in
    let full = full_by _ _ _ window_key.ensures c.args.image c.full_parent.ensures ∙ c.if-not-full_parent.false in
    ((c.requires.0, window_key.ensures), (at, full))

pub returns : goal.returns
returns c =
    let at = sym c.parent.ensures ∙ c.if-parent-t.false in
    let window_key = c.window_key-key in
    let full = full_by _ _ _ window_key.ensures c.args.image c.full_parent.ensures ∙ c.if-not-full_parent.false in
    c.has_clash.ensures
    ∙ bad_clash c.args.t c.args.r c.args.image _ _ at c.requires.1.whole_key.whole _ window_key.ensures.window_is full (sym c.is_empty.ensures ∙ c.if-is_empty.false)

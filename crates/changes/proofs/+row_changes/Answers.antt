use mathlib.Core.Path.{◌≡◌, refl, sym, ap, ap₂, ◌∙◌}
use mathlib.Core.Bool.{Bool, true, false, not}
use mathlib.Core.List.{List}
use Prim.Native.Nat.{◌-◌, ◌≤◌, ℕ, ◌<◌}
use native.Mathlib.Omega.{arith}
use borrow.Author.Rules.{rules}
use lib.IntN.{ℤ}
use lib.ListN.{length}
use Rattle.std.proofs.lemmas.Result.{err_from_is_err_and}
use Rattle.schema.specs.Bytes.{bit}
use Rattle.schema.specs.Fields.{schema_of}
use Rattle.schema.specs.Records.{key_of}
use Rattle.schema.proofs.SchemaLaws.{accepted_valid}
use Rattle.schema.proofs.FieldLaws.{read_windows, same_width}
use Rattle.rules.specs.Rows.{image}
use Rattle.rules.specs.Book.{Work}
use Rattle.rules.specs.Change.{actions, change}
use Rattle.bridge.specs.Fit.{work_of}
use Rattle.bridge.specs.Ready.{Ready}
use Rattle.table_keys.specs.declared.TableKeys.{TableKeys}
use Rattle.table_keys.specs.Touched.{KeysOf}
use Rattle.table_keys.proofs.TouchLaws.{is_whole, in_whole, not_whole, in_windowed, not_windowed}
use Rattle.moves.proofs.TallyLaws.{follows_refl, follows_trans, tallied_after}
use Rattle.rows.specs.KeyColumns.{PlainKey}
use Rattle.rows.specs.Sought.{sought_values}
use Rattle.change_parts.proofs.FollowerLaws.{rows_many, search_ready, found_first, table_there}
use Rattle.change_parts.proofs.WindowTurns.{not_parent, old_full}
use Rattle.changes.proofs.CycleLaws as law
use Rattle.changes.proofs.+row_changes.Goals as goal

pub key_turn-bit_of-requires : goal.key_turn-bit_of-requires
key_turn-bit_of-requires t c = omega (arith, (accepted_valid _ c.requires.0.ready.accepted).few, c.requires.1.1)

pub key_turn-returns-then-not-bit_of : goal.key_turn-returns-then-not-bit_of
key_turn-returns-then-not-bit_of t c =
    let miss = not_whole c.requires.1.0.whole c.args.k c.requires.1.1 c.bit_of.ensures (ap not c.if-not-bit_of.true) in
    (law.key_off _ _ _ _ _ _ _ (law.not_whole_still _ _ _ _ miss), follows_refl c.requires.0.ready.fit)

pub key_turn-bit_of-requires-2 : goal.key_turn-bit_of-requires-2
key_turn-bit_of-requires-2 t c = omega (arith, (accepted_valid _ c.requires.0.ready.accepted).few, c.requires.1.1)

pub key_turn-window_turn-requires : goal.key_turn-window_turn-requires
key_turn-window_turn-requires t c =
    let whole = in_whole c.requires.1.0.whole c.args.k c.requires.1.1 c.bit_of.ensures (ap not c.if-not-bit_of.false) in (
      c.requires.0.ready,
      record {
        whole_key = record { accepted = c.requires.0.ready.accepted; key = c.requires.1.1; whole = whole };
        windowed = in_windowed c.requires.1.0.windowed c.args.k c.requires.1.1 c.bit_of-2.ensures c.if-bit_of.true;
      },
    )

pub key_turn-returns-then-bit_of : goal.key_turn-returns-then-bit_of
key_turn-returns-then-bit_of t c = (law.key_window _ _ _ _ _ _ _ c.window_turn.ensures, follows_refl c.requires.0.ready.fit)

pub key_turn-returns-then-parent-t : goal.key_turn-returns-then-parent-t
key_turn-returns-then-parent-t t c =
    (law.key_off _ _ _ _ _ _ _ (not_parent _ _ _ _ (λ e. c.if-parent-t.true (c.parent.ensures ∙ e))), follows_refl c.requires.0.ready.fit)

-- a key of the whole ones that is not one of the windowed has no window
plain_here : {b : List ℕ} {a : List ℤ} {t k : ℕ} {keys : TableKeys} {whole windowed : Bool} → Ready b a → KeysOf b t keys → k < length (schema_of b).keys
    → whole ≡ bit k keys.whole → whole ≡ true → windowed ≡ bit k keys.windowed → windowed ≡ false → PlainKey b k
plain_here {k} ready h l e on f off =
    let one = read_windows _ ready.accepted k l refl in
    record {
      whole_key = record { accepted = ready.accepted; key = l; whole = in_whole h.whole k l e (ap not on) };
      plain = not_windowed h.windowed k l f off (is_whole h.whole k l e (ap not on)) (omega (arith, one.0, one.1));
    }

pub key_turn-fires-requires : goal.key_turn-fires-requires
key_turn-fires-requires t c = record { plain_key = plain_here c.requires.0.ready c.requires.1.0 c.requires.1.1 c.bit_of.ensures c.if-not-bit_of.false c.bit_of-2.ensures c.if-bit_of.false; parent_is = sym c.parent.ensures ∙ c.if-parent-t.false }

pub key_turn-returns-then-not-fires : goal.key_turn-returns-then-not-fires
key_turn-returns-then-not-fires t c = (law.key_off _ _ _ _ _ _ _ (sym c.fires.ensures ∙ c.if-not-fires.true), follows_refl c.requires.0.ready.fit)

pub key_turn-followers_of-f-requires : goal.key_turn-followers_of-f-requires
key_turn-followers_of-f-requires t c = (plain_here c.requires.0.ready c.requires.1.0 c.requires.1.1 c.bit_of.ensures c.if-not-bit_of.false c.bit_of-2.ensures c.if-bit_of.false, old_full _ _ _ _ (sym c.fires.ensures ∙ c.if-not-fires.false))

pub key_turn-row_walk-requires : goal.key_turn-row_walk-requires
key_turn-row_walk-requires t c =
    let sc = schema_of c.args.schema.now.bytes in
    let plain = plain_here c.requires.0.ready c.requires.1.0 c.requires.1.1 c.bit_of.ensures c.if-not-bit_of.false c.bit_of-2.ensures c.if-bit_of.false in
    let on = sym c.fires.ensures ∙ c.if-not-fires.false in
    let width = same_width _ c.requires.0.ready.accepted c.args.k c.requires.1.1 in
    (search rules, (c.requires.0, (c.followers_of-f.ensures.0, law.unserved (change 0 sc) sc c.args.new c.args.t c.args.old (key_of sc c.args.k) (work_of sc c.args.area.now) on plain.plain (sym width) c.followers_of-f.ensures.1)))

pub key_turn-returns : goal.key_turn-returns
key_turn-returns t c =
    let plain = plain_here c.requires.0.ready c.requires.1.0 c.requires.1.1 c.bit_of.ensures c.if-not-bit_of.false c.bit_of-2.ensures c.if-bit_of.false in
    let on = sym c.fires.ensures ∙ c.if-not-fires.false in
    let width = same_width _ c.requires.0.ready.accepted c.args.k c.requires.1.1 in
    (c.row_walk.ensures.0 ∙ law.key_on _ _ _ _ _ _ _ on plain.plain (sym width) c.followers_of-f.ensures.1, c.row_walk.ensures.1)

pub key_walk-loop-k-init : goal.key_walk-loop-k-init
key_walk-loop-k-init t c = (search rules, (refl, (follows_refl c.requires.0.ready.fit, refl)))

pub key_walk-key_turn-requires : goal.key_walk-key_turn-requires
key_walk-key_turn-requires t c =
    let a = c.args in
    let sc = schema_of a.schema.now.bytes in
    let l = c.loop-k in
    let lt : l.k < length sc.keys = omega (arith, c.key_count-k-end.ensures.0, c.loop-k-test.true) in
    (search rules, (tallied_after c.requires.0 l.invariant.1.1.0, (c.requires.1, lt)))

pub key_walk-returns-in_err-key_turn : goal.key_walk-returns-in_err-key_turn
key_walk-returns-in_err-key_turn t c =
    let l = c.loop-k in
    let a = c.args in
    let sc = schema_of a.schema.now.bytes in
    let lt : l.k < length sc.keys = omega (arith, c.key_count-k-end.ensures.0, c.loop-k-test.true) in
    let p = err_from_is_err_and c.from_residual.result c.from_residual.ensures.1 in
    rw (p.1, p.2) (sym (l.invariant.1.1.1 ∙ law.keys_refused (change a.left sc) sc a.new a.t a.old l.k _ lt _ _ c.key_turn.ensures.0 c.in_err-key_turn.was), follows_trans l.invariant.1.1.0 c.key_turn.ensures.1)

pub key_walk-loop-k-preserved : goal.key_walk-loop-k-preserved
key_walk-loop-k-preserved t c =
    let l = c.loop-k in
    let a = c.args in
    let sc = schema_of a.schema.now.bytes in
    let lt : l.k < length sc.keys = omega (arith, c.key_count-k-end.ensures.0, c.loop-k-test.true) in
    (search rules, (search rules, (follows_trans l.invariant.1.1.0 c.key_turn.ensures.1, l.invariant.1.1.1 ∙ law.keys_done (change a.left sc) sc a.new a.t a.old l.k _ lt _ _ c.key_turn.ensures.0 c.in_ok-key_turn.was)))

pub key_walk-returns : goal.key_walk-returns
key_walk-returns t c =
    let a = c.args in
    let sc = schema_of a.schema.now.bytes in
    let l = c.loop-k in
    let e : length sc.keys ≤ l.k = omega (arith, c.key_count-k-end.ensures.0, c.loop-k-test.false) in
    (sym (l.invariant.1.1.1 ∙ law.keys_none _ _ _ _ _ _ _ e), l.invariant.1.1.0)

pub row_change-returns-then-left-eq0 : goal.row_change-returns-then-left-eq0
row_change-returns-then-left-eq0 t c = (law.change_none _ _ _ _ _ _ c.if-left-eq0.true, follows_refl c.requires.tallied.ready.fit)

pub row_change-admits-requires : goal.row_change-admits-requires
row_change-admits-requires t c =
    let at = c.requires in
    (record { ready = at.tallied.ready; table = at.table; row = at.row }, c.keys_of-keys.ensures)

pub row_change-write_tallied-old-requires : goal.row_change-write_tallied-old-requires
row_change-write_tallied-old-requires t c =
    (c.requires, (c.keys_of-keys.ensures, law.change_room _ _ _ _ _ c.args.left c.if-left-eq0.false _ c.admits.ensures c.in_ok-admits.was))

pub row_change-key_walk-requires : goal.row_change-key_walk-requires
row_change-key_walk-requires t c =
    (omega (arith, c.decreases, c.if-left-eq0.false), (tallied_after c.requires.tallied c.write_tallied-old.ensures.1.1, c.keys_of-keys.ensures))

pub row_change-returns-in_err-admits : goal.row_change-returns-in_err-admits
row_change-returns-in_err-admits t c =
    let p = err_from_is_err_and c.from_residual.result c.from_residual.ensures.1 in
    rw (p.1, p.2) (law.change_refused _ _ _ _ _ _ c.if-left-eq0.false _ c.admits.ensures c.in_err-admits.was, follows_refl c.requires.tallied.ready.fit)

pub row_change-returns : goal.row_change-returns
row_change-returns t c =
    let a = c.args in
    let sc = schema_of a.schema.now.bytes in (
      c.key_walk.ensures.0
          ∙ ap₂ (λ (x : List ℤ) (w : Work). actions (change (a.left - 1) sc) sc a.image a.t x sc.keys w) c.write_tallied-old.ensures.0 c.write_tallied-old.ensures.1.0
          ∙ law.change_more _ _ _ _ _ _ c.if-left-eq0.false _ c.admits.ensures c.in_ok-admits.was,
      follows_trans c.write_tallied-old.ensures.1.1 c.key_walk.ensures.1,
    )

pub row_turn-child_after-y-requires : goal.row_turn-child_after-y-requires
row_turn-child_after-y-requires t c = (law.at_placed c.requires.0, c.requires.1.0)

pub row_turn-row_change-requires : goal.row_turn-row_change-requires
row_turn-row_change-requires t c = (search rules, c.requires.0)

pub row_turn-returns-in-NoAction : goal.row_turn-returns-in-NoAction
row_turn-returns-in-NoAction t c = (law.row_none _ _ _ _ _ _ _ _ c.requires.1.0.action_is c.in-NoAction.is, follows_refl c.requires.0.tallied.ready.fit)

pub row_turn-returns-in-Restrict : goal.row_turn-returns-in-Restrict
row_turn-returns-in-Restrict t c = (law.row_restrict _ _ _ _ _ _ _ _ c.requires.1.0.action_is c.in-Restrict.is c.requires.1.1, follows_refl c.requires.0.tallied.ready.fit)

pub row_turn-returns-in-SetNull : goal.row_turn-returns-in-SetNull
row_turn-returns-in-SetNull t c =
    let a = c.args in
    let sc = schema_of a.schema.now.bytes in
    (c.row_change.ensures.0 ∙ law.row_given (change a.left sc) sc a.new (key_of sc a.k) a.j (image a.f.table a.j (work_of sc a.area.now).tabs) (work_of sc a.area.now) _ c.requires.1.0.action_is a.f.table c.requires.1.0.table_is _ c.in-SetNull.is c.child_after-y.ensures, c.row_change.ensures.1)

pub row_walk-loop-i-init : goal.row_walk-loop-i-init
row_walk-loop-i-init t c =
    let a = c.args in
    let rn = rows_many a.schema.now.bytes a.area.now c.requires.0.ready a.k a.new a.f c.requires.1.0 in
    (search rules, (refl, (follows_refl c.requires.0.ready.fit, law.rows_start _ _ _ _ _ _ _ rn)))

pub row_walk-first_with_key-requires : goal.row_walk-first_with_key-requires
row_walk-first_with_key-requires t c =
    let a = c.args in
    let l = c.loop-i in
    let ready = search_ready a.schema.now.bytes _ (tallied_after c.requires.0 l.invariant.1.1.0).ready a.k a.new a.f c.requires.1.0 in
    ((ready.0, l.invariant.0), ready.1)

pub row_walk-row_turn-requires : goal.row_walk-row_turn-requires
row_walk-row_turn-requires t c =
    let a = c.args in
    let sc = schema_of a.schema.now.bytes in
    let next = rw c.in-Some.is at c.first_with_key.ensures in
    let set = tallied_after c.requires.0 c.loop-i.invariant.1.1.0 in
    let found = found_first a.schema.now.bytes _ set.ready a.k a.new a.f c.requires.1.0 next.1 in
    let unserved = law.row_unserved (key_of sc a.k) (sought_values a.f.key) a.new c.requires.1.1 _ c.in-Some.i a.f.table c.requires.1.0.table_is (found.found next.0) in
    (search rules, (record { tallied = set; table = table_there a.schema.now.bytes _ set.ready a.k a.new a.f c.requires.1.0; row = omega (arith, next.0, c.requires.1.0.stand.count_is) }, (c.requires.1.0, unserved)))

pub row_walk-returns-in_err-row_turn : goal.row_walk-returns-in_err-row_turn
row_walk-returns-in_err-row_turn t c =
    let a = c.args in
    let sc = schema_of a.schema.now.bytes in
    let l = c.loop-i in
    let next = rw c.in-Some.is at c.first_with_key.ensures in
    let found = found_first a.schema.now.bytes _ (tallied_after c.requires.0 l.invariant.1.1.0).ready a.k a.new a.f c.requires.1.0 next.1 in
    let p = err_from_is_err_and c.from_residual.result c.from_residual.ensures.1 in
    rw (p.1, p.2) (sym (l.invariant.1.1.1 ∙ law.rows_refused (change a.left sc) sc a.new (key_of sc a.k) (sought_values a.f.key) a.f.rows.count l.j c.in-Some.i _ found.low next.0 found.skipped (found.found next.0) a.f.table c.requires.1.0.table_is _ _ c.row_turn.ensures.0 c.in_err-row_turn.was), follows_trans l.invariant.1.1.0 c.row_turn.ensures.1)

pub row_walk-overflow_add-j : goal.row_walk-overflow_add-j
row_walk-overflow_add-j t c =
    let a = c.args in
    let next = rw c.in-Some.is at c.first_with_key.ensures in
    let ready = search_ready a.schema.now.bytes _ (tallied_after c.requires.0 c.loop-i.invariant.1.1.0).ready a.k a.new a.f c.requires.1.0 in
    omega (arith, next.0, ready.0.few)

pub row_walk-loop-i-smaller : goal.row_walk-loop-i-smaller
row_walk-loop-i-smaller t c =
    let next = rw c.in-Some.is at c.first_with_key.ensures in
    omega (arith, next.0, next.1.low)

pub row_walk-loop-i-preserved : goal.row_walk-loop-i-preserved
row_walk-loop-i-preserved t c =
    let a = c.args in
    let sc = schema_of a.schema.now.bytes in
    let l = c.loop-i in
    let next = rw c.in-Some.is at c.first_with_key.ensures in
    let found = found_first a.schema.now.bytes _ (tallied_after c.requires.0 l.invariant.1.1.0).ready a.k a.new a.f c.requires.1.0 next.1 in
    (omega (arith, next.0), (search rules, (follows_trans l.invariant.1.1.0 c.row_turn.ensures.1, l.invariant.1.1.1 ∙ law.rows_done (change a.left sc) sc a.new (key_of sc a.k) (sought_values a.f.key) a.f.rows.count l.j c.in-Some.i _ found.low next.0 found.skipped (found.found next.0) a.f.table c.requires.1.0.table_is _ _ c.row_turn.ensures.0 c.in_ok-row_turn.was)))

pub row_walk-returns : goal.row_walk-returns
row_walk-returns t c =
    let a = c.args in
    let sc = schema_of a.schema.now.bytes in
    let l = c.loop-i in
    let none = rw c.in_default.is at c.first_with_key.ensures in
    let found = found_first a.schema.now.bytes _ (tallied_after c.requires.0 l.invariant.1.1.0).ready a.k a.new a.f c.requires.1.0 none in
    (sym (l.invariant.1.1.1 ∙ law.rows_past (change a.left sc) sc a.new (key_of sc a.k) (sought_values a.f.key) a.f.rows.count l.j a.f.rows.count _ found.low found.high (omega arith) found.skipped), l.invariant.1.1.0)

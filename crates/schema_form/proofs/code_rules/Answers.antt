use Rattle.schema.specs.Ranges.{every, and_all}
use Rattle.schema.specs.Check.{within, action_rule, code_rules}
use Rattle.schema.specs.Bytes.{byte}
use Rattle.schema.specs.Fields
use mathlib.Core.Path.{◌≡◌, ap, ap₂, ◌∙◌}
use mathlib.Core.Bool.{◌&&◌}
use Prim.Native.Nat.{ℕ, ◌+◌}
use lib.Dec.{leb, ltb}
use Rattle.schema_form.proofs.code_rules.Goals as goal

pub returns : goal.returns
unfolding code_rules every and_all
returns c =
    let s = c.args.s.now in
    let k = c.args.k in
    let start = c.key_start-at.ensures in
    let tables : c.half_at-tables.result ≡ Fields.table_count s = c.half_at-tables.ensures.0 in
    let child : c.byte_at.result ≡ Fields.child_of s k = c.byte_at.ensures.0 ∙ ap (byte s) start in
    let deferred : c.byte_at-2.result ≡ Fields.deferred_of s k = c.byte_at-2.ensures.0 ∙ ap (λ (at : ℕ). byte s (at + 2)) start in
    let on_delete : c.action_rule.result ≡ action_rule (Fields.on_delete_of s k) = c.action_rule.ensures ∙ ap action_rule (c.byte_at-3.ensures.0 ∙ ap (λ (at : ℕ). byte s (at + 3)) start) in
    let on_update : c.action_rule-2.result ≡ action_rule (Fields.on_update_of s k) = c.action_rule-2.ensures ∙ ap action_rule (c.byte_at-4.ensures.0 ∙ ap (λ (at : ℕ). byte s (at + 4)) start) in
    let width : c.byte_at-5.result ≡ Fields.width_of s k = c.byte_at-5.ensures.0 ∙ ap (λ (at : ℕ). byte s (at + 5)) start in
    let full : c.match_rule.result ≡ leb (Fields.match_of s k) 1 = c.match_rule.ensures ∙ ap (λ n. leb n 1) (c.byte_at-6.ensures.0 ∙ ap (λ (at : ℕ). byte s (at + 14)) start) in
    let windowed : c.byte_at-7.result ≡ Fields.windowed_of s k = c.byte_at-7.ensures.0 ∙ ap (λ (at : ℕ). byte s (at + 15)) start in
    let actions = ap₂ ◌&&◌ (ap₂ ◌&&◌ (ap₂ ◌&&◌ (ap₂ ltb child tables) (ap (λ n. leb n 1) deferred)) on_delete) on_update in
    let widths = ap₂ ◌&&◌ actions (c.is_within.ensures ∙ ap (within 1 4) width) in
    ap₂ ◌&&◌ (ap₂ ◌&&◌ (ap₂ ◌&&◌ widths full) (ap (λ n. leb n 1) windowed)) c.windowed_rule.ensures

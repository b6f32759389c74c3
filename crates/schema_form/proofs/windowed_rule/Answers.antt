use mathlib.Core.Path.{◌≡◌, sym, ap, ap₂, ◌∙◌}
use mathlib.Core.Bool.{◌&&◌}
use lib.Dec.{leb, ltb}
use Prim.Native.Nat.{ℕ, ◌+◌}
use Rattle.schema.specs.Bytes
use Rattle.schema.specs.Fields
use Rattle.schema.proofs.CheckLaws.{window_none, window_some}
use Rattle.schema_form.proofs.windowed_rule.Goals as goal
use Rattle.schema_form.proofs.windowed_rule.Goals.{After-byte_at}

-- the byte that was read is the window's
window_here : (c : After-byte_at) → c.byte_at.result ≡ Fields.windowed_of c.args.s.now c.args.k
window_here c = c.byte_at.ensures.0 ∙ ap (λ (at : ℕ). Bytes.byte c.args.s.now (at + 15)) c.key_start-at.ensures

pub returns-then-byte_at-eq0 : goal.returns-then-byte_at-eq0
returns-then-byte_at-eq0 c = window_none _ _ (sym (window_here (goal.at.returns-then-byte_at-eq0 c).After-byte_at) ∙ c.if-byte_at-eq0.true)

pub returns : goal.returns
returns c =
    let s = c.args.s.now in
    let k = c.args.k in
    let start = c.key_start-at.ensures in
    let width : c.byte_at-2.result ≡ Fields.width_of s k = c.byte_at-2.ensures.0 ∙ ap (λ (at : ℕ). Bytes.byte s (at + 5)) start in
    let on_delete : c.byte_at-3.result ≡ Fields.on_delete_of s k = c.byte_at-3.ensures.0 ∙ ap (λ (at : ℕ). Bytes.byte s (at + 3)) start in
    let on_update : c.byte_at-4.result ≡ Fields.on_update_of s k = c.byte_at-4.ensures.0 ∙ ap (λ (at : ℕ). Bytes.byte s (at + 4)) start in
    ap₂ ◌&&◌ (ap (leb 2) width) (ap₂ ◌&&◌ (ap (λ n. ltb n 2) on_delete) (ap (λ n. ltb n 2) on_update))
    ∙ window_some s k (λ e. c.if-byte_at-eq0.false (window_here (goal.at.returns c).After-byte_at ∙ e))

use mathlib.Core.Path.{◌≡◌, refl, sym, ap, ap₂, ◌∙◌}
use mathlib.Core.List.{List}
use Prim.Native.Nat.{ℕ, ◌+◌, ◌^◌, ◌≤◌, ◌<◌}
use native.Mathlib.Omega.{arith}
use borrow.Author.Rules.{rules}
use lib.Pow.{pow_mono}
use Rattle.schema.specs.Bytes
use Rattle.schema.specs.Bytes.{column_mask}
use Rattle.schema.specs.Fields
use Rattle.schema.proofs.FieldLaws.{byte_assoc, read_width}
use Rattle.schema.proofs.MaskLaws.{mask_start, mask_more, mask_past}
use Rattle.fields.proofs.Schema.parent_mask.Goals as goal

column_here : (bs : List ℕ) (k i : ℕ) {r : ℕ} → r ≡ Bytes.byte bs (Fields.key_start bs k + (10 + i)) → r ≡ Fields.parent_column_of bs k i
column_here bs k i e = e ∙ byte_assoc bs (Fields.key_start bs k) 10 i

power_small : (c : ℕ) → c < 8 → 2 ^ c ≤ 128
power_small c h = pow_mono {j = 7} (omega arith)

pub loop-i-init : goal.loop-i-init
loop-i-init c =
    let q = read_width c.args.self.now.bytes c.args.self.now.accepted c.args.k c.requires.0 refl in
    let n = c.requires.1 ∙ sym q.0 in
    record { few = omega (arith, n, q.1.high); all = n; small = search rules; part = mask_start _ }

pub key_byte-c-requires : goal.key_byte-c-requires
key_byte-c-requires c = (c.requires.0, omega arith)

pub returns-then-c-ge8 : goal.returns-then-c-ge8
returns-then-c-ge8 c =
    let e = column_here c.args.self.now.bytes c.args.k c.loop-i.i c.key_byte-c.ensures.0 in
    mask_past _ _ c.loop-i.i (omega (arith, c.loop-i.invariant.all)) (rw (← e) c.if-c-ge8.true)

pub overflow_add-mask : goal.overflow_add-mask
overflow_add-mask c = omega (arith, power_small _ c.if-c-ge8.false, c.power-mask.ensures)

pub loop-i-preserved : goal.loop-i-preserved
loop-i-preserved c =
    let i = c.loop-i.i in
    let inv = c.loop-i.invariant in
    let e = column_here c.args.self.now.bytes c.args.k i c.key_byte-c.ensures.0 in
    let q = c.power-mask.ensures ∙ ap (λ (x : ℕ). 2 ^ x) e in
    record {
      few = inv.few;
      all = inv.all;
      small = omega (arith, power_small _ c.if-c-ge8.false, c.power-mask.ensures);
      part = ap₂ (λ (a b : ℕ). a + b) inv.part q ∙ mask_more _ i;
    }

pub returns : goal.returns
returns c =
    let inv = c.loop-i.invariant in
    let n : c.loop-i.i ≡ Fields.width_of c.args.self.now.bytes c.args.k = omega (arith, inv.all) in
    inv.part ∙ ap (column_mask (Fields.parent_column_of c.args.self.now.bytes c.args.k)) n

use mathlib.Core.Path.{refl, sym, ap, ◌∙◌}
use Rattle.schema.specs.Fields.{schema_of}
use Rattle.rules.specs.Calls.{parsed}
use Rattle.call_form.specs.Requests.{judged}
use Rattle.call_form.proofs.ReadLaws.{parse_short, parse_negative, parse_kind, refused_or}
use Rattle.call_form.proofs.read_call.Goals as goal
use Rattle.call_form.proofs.read_call.Goals.{then-call-ne12-via-then-call-ne12, then-call-ne12-via-else-call-ne12+then-not-is_natural_at}

pub returns-then-call-ne12 : goal.returns-then-call-ne12
returns-then-call-ne12 c =
    elim c.then-call-ne12.branch [
      | then-call-ne12-via-then-call-ne12 w ↦ (refl, parse_short _ _ w.if-call-ne12.true)
      | then-call-ne12-via-else-call-ne12+then-not-is_natural_at w ↦ (refl, parse_negative _ _ (sym w.is_natural_at.ensures ∙ w.if-not-is_natural_at.true))
    ]

pub returns : goal.returns
returns c =
    let a = c.args in
    let s = schema_of a.schema.now.bytes in
    refused_or a.call.now c.read_kind.result c.ok_or.result c.ok_or.ensures.value
    (c.read_kind.ensures
    ∙ ap (λ k. judged s (parsed k a.call.now)) c.nat_at-kind.ensures
    ∙ ap (judged s) (parse_kind s a.call.now c.if-call-ne12.false (sym c.is_natural_at.ensures ∙ c.if-not-is_natural_at.false)))

use mathlib.Core.Path.{sym, ◌∙◌}
use mathlib.Core.Bool.{false≢true}
use Rattle.std.proofs.lemmas.Result.{err_from_is_err_and}
use Rattle.bridge.proofs.SoundLaws.{sound_area}
use Rattle.schema.specs.Fields.{schema_of}
use Rattle.call_form.proofs.Requested.{request_read, refused_is}
use Rattle.engine.proofs.CallLaws as law
use Rattle.engine.proofs.call_area.Goals as goal

pub returns-then-area-area_length : goal.returns-then-area-area_length
returns-then-area-area_length c =
    law.wrong_length (schema_of c.args.schema.now.bytes) c.args.call.now c.args.area.now (λ z. c.if-area-area_length.true (z ∙ sym c.area_length.ensures.0))

pub returns-in_err-request : goal.returns-in_err-request
returns-in_err-request c =
    let sc = schema_of c.args.schema.now.bytes in
    let call = c.args.call.now in
    let read = c.in_err-request.ensures in
    let p = err_from_is_err_and c.from_residual.result c.from_residual.ensures.1 in
    rw (p.1, p.2) (law.bad_call sc call c.args.area.now (c.if-area-area_length.false ∙ c.area_length.ensures.0) read.0 (refused_is sc call read.1))

pub is_undamaged-requires : goal.is_undamaged-requires
is_undamaged-requires c = c.if-area-area_length.false ∙ c.area_length.ensures.0

pub returns-then-not-is_undamaged : goal.returns-then-not-is_undamaged
returns-then-not-is_undamaged c =
    let sc = schema_of c.args.schema.now.bytes in
    let call = c.args.call.now in
    let read = request_read sc call c.in_ok-request.request c.in_ok-request.ensures in
    law.damaged sc call c.args.area.now (c.if-area-area_length.false ∙ c.area_length.ensures.0) read.allowed_is (sym c.is_undamaged.ensures ∙ c.if-not-is_undamaged.true)

pub carry_out-requires : goal.carry_out-requires
carry_out-requires c =
    let size = c.if-area-area_length.false ∙ c.area_length.ensures.0 in
    (sound_area c.args.schema.now.bytes c.args.area.now c.args.schema.now.accepted size (sym c.is_undamaged.ensures ∙ c.if-not-is_undamaged.false), (c.in_ok-request.ensures, λ e. absurd (false≢true e)))

pub returns : goal.returns
returns c =
    let sc = schema_of c.args.schema.now.bytes in
    let a = c.args.area.now in
    let size = c.if-area-area_length.false ∙ c.area_length.ensures.0 in
    let read = request_read sc c.args.call.now c.in_ok-request.request c.in_ok-request.ensures in
    let h = sound_area c.args.schema.now.bytes a c.args.schema.now.accepted size (sym c.is_undamaged.ensures ∙ c.if-not-is_undamaged.false) in
    c.carry_out.ensures ∙ law.carried sc c.args.call.now a size read h.ready.fit.legible_is h.undamaged_is

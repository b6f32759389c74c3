use mathlib.Core.Bool.{true}
use Rattle.std.proofs.lemmas.Result.{err_from_is_err_and}
use Rattle.schema.specs.Fields.{schema_of}
use Rattle.laws.specs.Reached.{Reached}
use Rattle.laws.proofs.Reached.{reached_sound, reached_clean}
use Rattle.call_form.proofs.Requested.{request_read}
use Rattle.engine.proofs.CallLaws as law
use Rattle.engine.proofs.next.Goals as goal

pub returns-in_err-asked : goal.returns-in_err-asked
returns-in_err-asked c =
    let e = c.new-schema.ensures in
    let p = err_from_is_err_and c.from_residual.result c.from_residual.ensures.1 in
    rw (p.1, p.2) (law.next_refused c.requires c.args.call.now (rw e at c.in_err-asked.ensures))

pub carry_out-requires : goal.carry_out-requires
carry_out-requires c =
    let h : Reached c.new-schema.result.bytes c.args.area.now = rw c.new-schema.ensures c.requires in
    (reached_sound h, (c.in_ok-asked.ensures, λ e. reached_clean h))

pub returns : goal.returns
returns c =
    let s = c.new-schema.result.bytes in
    let call = c.args.call.now in
    let h : Reached s c.args.area.now = rw c.new-schema.ensures c.requires in
    rw (← c.new-schema.ensures) (law.next_carried h call (request_read (schema_of s) call c.in_ok-asked.asked c.in_ok-asked.ensures) c.carry_out.ensures)

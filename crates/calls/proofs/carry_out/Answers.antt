use Rattle.calls.proofs.CallLaws as law
use Rattle.calls.proofs.carry_out.Goals as goal

pub returns-in-Err : goal.returns-in-Err
returns-in-Err c =
    rw c.in-Err.is (law.malformed_call c.args.schema.now.bytes c.args.area.now c.args.call.now c.requires.0 c.in-Err.field-0)

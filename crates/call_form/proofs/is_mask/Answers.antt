use Rattle.call_form.proofs.WordLaws.{mask_is}
use Rattle.call_form.proofs.is_mask.Goals as goal

pub returns : goal.returns
returns c = mask_is c.args.m c.args.columns

use mathlib.Core.Path.{ap, ◌∙◌}
use Rattle.std.proofs.Common.{arith, rules}
use Rattle.call_form.specs.declared.Request.TheVariants.{Insert, Update, Release, RollbackTo, Begin, Savepoint, Rollback, Commit}
use Rattle.call_form.proofs.ReadLaws.{asked_if, asked_of, insert_is, update_is, begin_is, savepoint_is, release_is, rollback_to_is, rollback_is, commit_is, other_is, at_kind}
use Rattle.call_form.specs.Requests.{asked}
use Rattle.call_form.proofs.read_kind.Goals as goal

pub returns-in-1 : goal.returns-in-1
returns-in-1 c = asked_of Insert _ _ _ _ _ c.given_row.ensures c.map.ensures.cases (λ p r h. search rules) ∙ insert_is _ _ ∙ at_kind _ _ c.in-1.is

pub returns-in-2 : goal.returns-in-2
returns-in-2 c = asked_of Update _ _ _ _ _ c.given_row-in-2.ensures c.map-in-2.ensures.cases (λ p r h. search rules) ∙ update_is _ _ ∙ at_kind _ _ c.in-2.is

pub returns-in-4 : goal.returns-in-4
returns-in-4 c = ap (λ r. asked r c.args.call.now) c.read_bare.ensures ∙ asked_if _ Begin _ ∙ begin_is _ _ ∙ at_kind _ _ c.in-4.is

pub returns-in-5 : goal.returns-in-5
returns-in-5 c = ap (λ r. asked r c.args.call.now) c.read_bare-in-5.ensures ∙ asked_if _ Savepoint _ ∙ savepoint_is _ _ ∙ at_kind _ _ c.in-5.is

pub returns-in-6 : goal.returns-in-6
returns-in-6 c = asked_of Release _ _ _ _ _ c.named_level.ensures c.map-in-6.ensures.cases (λ p r h. search rules) ∙ release_is _ _ ∙ at_kind _ _ c.in-6.is

pub returns-in-7 : goal.returns-in-7
returns-in-7 c = asked_of RollbackTo _ _ _ _ _ c.named_level-in-7.ensures c.map-in-7.ensures.cases (λ p r h. search rules) ∙ rollback_to_is _ _ ∙ at_kind _ _ c.in-7.is

pub returns-in-8 : goal.returns-in-8
returns-in-8 c = ap (λ r. asked r c.args.call.now) c.read_bare-in-8.ensures ∙ asked_if _ Rollback _ ∙ rollback_is _ _ ∙ at_kind _ _ c.in-8.is

pub returns-in-9 : goal.returns-in-9
returns-in-9 c = ap (λ r. asked r c.args.call.now) c.read_bare-in-9.ensures ∙ asked_if _ Commit _ ∙ commit_is _ _ ∙ at_kind _ _ c.in-9.is

pub returns-in_default : goal.returns-in_default
returns-in_default c = other_is _ _ _ (λ h. omega arith)
